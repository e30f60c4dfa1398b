-- `placed` is `placed_b`, by whether the state is inside a record.
use borrow.Author.Tests.{eq-eqb, ne_eqb}
use Rattle.joining.specs.Joining.{placed_b}
use Rattle.joining.proofs.joining.placed.Goals as goal

pub returns-then-phase-eq-INSIDE : goal.returns-then-phase-eq-INSIDE
unfolding placed_b
returns-then-phase-eq-INSIDE c _ _ _ = rw (eq-eqb _ _ c.if-phase-eq-INSIDE.true)

pub returns : goal.returns
unfolding placed_b
returns c _ _ _ = rw (ne_eqb _ _ c.if-phase-eq-INSIDE.false)
