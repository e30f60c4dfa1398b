-- `new_reader` is `new_reader`, part by part.
use Rattle.clock.specs.State.{new_reader}
use Rattle.clock.proofs.state.new_reader.Goals as goal

pub returns : goal.returns
unfolding new_reader
returns c = simp (c.all_off.ensures, c.new_time.ensures)
