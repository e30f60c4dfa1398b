-- `left_in` is `left_in`.
use borrow.Author.Tests.{ne_eqb}
use Rattle.state_bytes.specs.State.{left_in}
use Rattle.state_bytes.proofs.state.left_in.Goals as goal

pub returns-in-1 : goal.returns-in-1
unfolding left_in
returns-in-1 c = rw c.in-1.is

pub returns-in_default : goal.returns-in_default
unfolding left_in
returns-in_default c = rw (ne_eqb _ _ c.in_default.in_default-own.rest.1)
