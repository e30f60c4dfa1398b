-- Whatever carrying answers, by its number.
use mathlib.Core.Path.{sym, ap, ◌∙◌}
use lib.IntN.{pos}
use mir.Facts.{to_z-of_z}
use mir.Syntax.{w32, w64}
use Rattle.std.proofs.Common.{rules}
use Rattle.carry.proofs.CarryLaws.{bounded}
use Rattle.tablet_bytes.specs.Calls.{carrying}
use Rattle.carry.specs.Stamp.{carrying_number}
use Rattle.tablet_bytes.proofs.TabletLaws.{carry_told}
use Rattle.tablet_bytes.proofs.calls.carry_at.Goals as goal

pub returns-in-Ok : goal.returns-in-Ok
unfolding carrying_number
returns-in-Ok c =
    let a = c.args in
    let fits = bounded.carried_fits a.stamp a.q a.table.now c.in-Ok.to (search rules) (sym c.carry.ensures ∙ c.in-Ok.is) in
    ap (carrying (pos 0)) (to_z-of_z {w = w64} fits) ∙ carry_told _ _ _ a.carried.now c.carry.ensures c.in-Ok.is

pub returns-in-Err : goal.returns-in-Err
returns-in-Err c =
    let r = c.carry_refusal in
    rw (to_z-of_z {w = w32} (record { sfits = r.type_inv }) ∙ r.ensures) (carry_told _ _ _ c.args.carried.now c.carry.ensures c.in-Err.is)
