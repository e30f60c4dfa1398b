-- Its parts.
use Rattle.loading_day.specs.Written.{happening_of}
use Rattle.loading_day.proofs.written.happening.Goals as goal

pub returns : goal.returns
unfolding happening_of
returns c = rw (c.antenna.ensures, c.event.ensures)
