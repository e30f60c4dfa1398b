-- Each figure is its sum in its width, and the largest the larger.
use Rattle.std.proofs.Common.{refl}
use Rattle.season_figures.specs.Figures.{sum_of, in_widths}
use Rattle.season_figures.proofs.FigureLaws.{same_figures}
use Rattle.season_figures.proofs.figures.together.Goals as goal

pub returns : goal.returns
unfolding sum_of in_widths
returns c = same_figures refl refl refl refl c.max.ensures
