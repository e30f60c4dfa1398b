-- Nothing, or the run's two ends.
use Prim.Native.Nat.{ℕ}
use mathlib.Core.Path.{ap₂, ◌∙◌}
use Rattle.std.proofs.Common.{Option, Some}
use Rattle.fetch_told.specs.Told.{span}
use Rattle.fetch_told.specs.declared.told.Span.{Span}
use Rattle.fetch_propose.proofs.SearchLaws.{run_nothing, run_missing}
use native.Mathlib.Omega.{arith}
use Rattle.fetch_propose.proofs.propose.proposed.Goals as goal

pub returns-then-run-eq0 : goal.returns-then-run-eq0
returns-then-run-eq0 c = let a = c.args in run_nothing a.oldest a.run.before a.run.length (omega arith)

pub returns : goal.returns
returns c =
    let a = c.args in
    ap₂ (λ (x y : ℕ). let s : Option Span = Some (span x y) in s) c.number_at.ensures c.number_at-2.ensures
    ∙ run_missing a.oldest a.run.before a.run.length (λ e. omega arith)
