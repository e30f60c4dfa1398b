-- `standing` is the definition of its name, by whether the state is inside a record.
use borrow.Author.Tests.{eq-eqb, ne_eqb}
use Rattle.joining.specs.Joining.{standing}
use Rattle.joining.proofs.joining.standing.Goals as goal

pub returns-then-phase-eq-INSIDE : goal.returns-then-phase-eq-INSIDE
unfolding standing
returns-then-phase-eq-INSIDE c _ _ = rw (eq-eqb _ _ c.if-phase-eq-INSIDE.true)

pub returns : goal.returns
unfolding standing
returns c _ _ = rw (ne_eqb _ _ c.if-phase-eq-INSIDE.false)
