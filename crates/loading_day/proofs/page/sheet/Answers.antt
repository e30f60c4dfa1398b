-- The evening of the ramp that was played.
use mathlib.Core.Path.{ap, ◌∙◌}
use Rattle.loading_day.specs.Page.{evening_of, sheet_of}
use Rattle.loading_day.proofs.page.sheet.Goals as goal

pub returns : goal.returns
unfolding sheet_of
returns c =
    let a = c.args in
    (c.evening.ensures.0 ∙ ap (evening_of a.tags) c.played.ensures, c.evening.ensures.1)
