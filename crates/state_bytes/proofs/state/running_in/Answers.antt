-- `running_in` is `running_in`: each field from its place.
use borrow.Author.Tests.{eq-eqb, ne_eqb}
use Rattle.state_bytes.specs.State.{running_in}
use Rattle.state_bytes.proofs.state.running_in.Goals as goal

pub returns-then-opcode-eq0 : goal.returns-then-opcode-eq0
unfolding running_in
returns-then-opcode-eq0 c = rw (eq-eqb _ _ c.if-opcode-eq0.true)

pub returns : goal.returns
unfolding running_in
returns c =
    simp (
      ne_eqb _ _ c.if-opcode-eq0.false,
      c.filter_in.ensures,
      c.get16.ensures,
      c.get16-2.ensures,
      c.left_in.ensures,
      c.get16-3.ensures,
    )
