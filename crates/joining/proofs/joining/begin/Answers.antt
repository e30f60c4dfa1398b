-- `begin` leaves `laid_under`: inside a record what stands there, else zeros.
use mathlib.Core.Path.{ap, ◌∙◌}
use Prim.Native.Nat.{ℕ}
use lib.ListN.{replicate}
use borrow.Author.Tests.{eq-eqb, ne_eqb}
use Rattle.joining.specs.Joining.{laid_under}
use Rattle.joining.proofs.joining.begin.Goals as goal

pub returns-then-phase-eq-INSIDE : goal.returns-then-phase-eq-INSIDE
unfolding laid_under
returns-then-phase-eq-INSIDE c _ _ = rw (eq-eqb _ _ c.if-phase-eq-INSIDE.true)

pub returns : goal.returns
unfolding laid_under
returns c _ _ = rw (ne_eqb _ _ c.if-phase-eq-INSIDE.false) (c.clear.ensures ∙ ap (λ (n : ℕ). replicate n 0) c.requires)
