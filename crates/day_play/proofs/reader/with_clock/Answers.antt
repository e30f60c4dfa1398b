-- Field by field.
use mathlib.Core.Path.{refl}
use Rattle.day_play.specs.Reader.{with_clock}
use Rattle.day_play.proofs.reader.with_clock.Goals as goal

pub returns : goal.returns
unfolding with_clock
returns c = refl
