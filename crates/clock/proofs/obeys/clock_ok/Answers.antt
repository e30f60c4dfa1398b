-- `clock_ok` is `clock_b`: the time's rule and the report's.
use Rattle.clock.specs.Obeys.{clock_b}
use Rattle.clock.proofs.obeys.clock_ok.Goals as goal

pub returns : goal.returns
unfolding clock_b
returns c = simp (c.both.ensures, c.running_ok.ensures, c.time_ok.ensures)
