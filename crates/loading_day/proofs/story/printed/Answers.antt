-- The story's sheet, by computing it.
use Rattle.loading_day.proofs.PrintedLaws.{computed}
use Rattle.loading_day.proofs.story.printed.Goals as goal

pub returns : goal.returns
returns c = computed
