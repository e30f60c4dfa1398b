-- One tag after the other.
use mathlib.Core.Path.{refl}
use Rattle.loading_day.specs.Story.{the_tags}
use Rattle.loading_day.proofs.story.tags.Goals as goal

pub returns : goal.returns
unfolding the_tags
returns c = refl
