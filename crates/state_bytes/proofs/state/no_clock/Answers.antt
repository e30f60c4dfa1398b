-- A new reader with another Base_Time.
use Rattle.clock.specs.Events.{with_base}
use Rattle.state_bytes.specs.State.{no_clock}
use Rattle.state_bytes.proofs.state.no_clock.Goals as goal

pub returns : goal.returns
unfolding no_clock with_base
returns c = rw c.new_reader-c.ensures
