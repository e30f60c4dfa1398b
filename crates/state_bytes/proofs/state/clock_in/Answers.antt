-- `clock_in` takes each field from its place.
use Rattle.state_bytes.specs.State.{clock_in}
use Rattle.state_bytes.proofs.state.clock_in.Goals as goal

pub returns : goal.returns
unfolding clock_in
returns c =
    simp (
      c.get32.ensures,
      c.get16.ensures,
      c.get16-2.ensures,
      c.get32-2.ensures,
      c.running_in.ensures,
    )
