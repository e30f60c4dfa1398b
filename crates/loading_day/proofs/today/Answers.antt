-- The sheet of the day and the tags of the story.
use mathlib.Core.Path.{ap, ◌∙◌}
use mathlib.Core.List.{List}
use Rattle.day_play.specs.declared.play.Happening.{Happening}
use Rattle.loading_day.specs.Page.{sheet_of}
use Rattle.loading_day.specs.Story.{the_day}
use Rattle.loading_day.proofs.today.Goals as goal

pub returns : goal.returns
returns c = (
  c.sheet.ensures.0
      ∙ ap (λ (x : List Happening). sheet_of x c.tags.result) c.day.ensures
      ∙ ap (sheet_of the_day) c.tags.ensures,
  c.sheet.ensures.1,
)
