-- What carrying and the ramp say of the two notes, on the tag's line.
use mathlib.Core.Path.{◌∙◌}
use Rattle.loading_day.proofs.page.line_of.Goals as goal

pub returns : goal.returns
returns c = c.tag_line.ensures ∙ rw (c.sight-first.ensures, c.sight-second.ensures, c.ruling-said.ensures)
