-- `follows` is `follows_b`, by whether a segment came.
use borrow.Author.Tests.{eq-eqb, ne_eqb}
use Rattle.joining.specs.Joining.{follows_b}
use Rattle.joining.proofs.joining.follows.Goals as goal

pub returns-then-phase-eq-EMPTY : goal.returns-then-phase-eq-EMPTY
unfolding follows_b
returns-then-phase-eq-EMPTY c _ _ = rw (eq-eqb _ _ c.if-phase-eq-EMPTY.true)

pub returns : goal.returns
unfolding follows_b
returns c _ _ = rw (ne_eqb _ _ c.if-phase-eq-EMPTY.false)
