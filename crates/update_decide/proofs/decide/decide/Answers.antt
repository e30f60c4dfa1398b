-- `decide` is `decide_of`, opcode by opcode.
use borrow.Author.Tests.{ne_eqb}
use Rattle.update_decide.specs.Decide.{decide_of}
use Rattle.update_decide.proofs.decide.decide.Goals as goal

pub returns-in-2 : goal.returns-in-2
unfolding decide_of
returns-in-2 c = rw c.in-2.is c.decide_operand.ensures

pub returns-in-3 : goal.returns-in-3
unfolding decide_of
returns-in-3 c = rw c.in-3.is c.decide_operand-in-3.ensures

pub returns-in_default : goal.returns-in_default
unfolding decide_of
returns-in_default c = simp (ne_eqb _ _ c.in_default.in_default-own.rest.0.1, ne_eqb _ _ c.in_default.in_default-own.rest.1)
