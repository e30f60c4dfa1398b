-- The numbers, read one after the other, by computing.
use mathlib.Core.Path.{refl}
use Rattle.loading_day.specs.Story.{the_day}
use Rattle.loading_day.specs.Written.{happenings_of}
use Rattle.loading_day.proofs.story.numbers.Goals as goal

pub returns : goal.returns
unfolding the_day happenings_of
returns c = refl
