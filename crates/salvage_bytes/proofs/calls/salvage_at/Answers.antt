-- Whatever salvage answers, by its number.
use mathlib.Core.Path.{sym, ap, ◌∙◌}
use Prim.Native.Nat.{◌≤◌}
use mir.Syntax.{w32}
use mir.Facts.{to_z_pos}
use Rattle.std.proofs.Common.{Err, rules}
use Rattle.salvage_call.specs.Salvage.{Salvage}
use Rattle.salvage_call.specs.declared.salvage.SalvageError.TheVariants.{DoesNotFit, SizeImpossible, NoRecord}
use Rattle.salvage_call.proofs.SalvageLaws.{done_small}
use Rattle.salvage_bytes.proofs.ResultLaws.{salvage_told}
use native.Mathlib.Omega.{arith}
use Rattle.salvage_bytes.proofs.calls.salvage_at.Goals as goal
use Rattle.salvage_bytes.proofs.calls.salvage_at.Goals.{In-Ok}

-- the report is short, so its length is the same number in 32 bits
short : (c : In-Ok) → c.in-Ok.told ≤ 16448
short c =
    let a = c.args in
    done_small a.input.now a.table.now a.report.now _ (ap (λ (x : Salvage). x.answer) (sym c.salvage.ensures) ∙ c.in-Ok.is)

pub overflow_cast-result : goal.overflow_cast-result
overflow_cast-result c = let h = short (goal.at.overflow_cast-result c).In-Ok in omega arith

pub returns-in-Ok : goal.returns-in-Ok
returns-in-Ok c = rw (to_z_pos w32 {n = c.in-Ok.told} (let h = short (goal.at.returns-in-Ok c).In-Ok in omega arith)) (salvage_told _ _ _ c.salvage.ensures c.in-Ok.is)

pub returns-in-Err-DoesNotFit : goal.returns-in-Err-DoesNotFit
returns-in-Err-DoesNotFit c = salvage_told _ _ _ {k = Err DoesNotFit} c.salvage.ensures (search rules)

pub returns-in-Err-SizeImpossible : goal.returns-in-Err-SizeImpossible
returns-in-Err-SizeImpossible c = salvage_told _ _ _ {k = Err SizeImpossible} c.salvage.ensures (search rules)

pub returns-in-Err-NoRecord : goal.returns-in-Err-NoRecord
returns-in-Err-NoRecord c = salvage_told _ _ _ {k = Err NoRecord} c.salvage.ensures (search rules)
