-- All five are 0.
use Rattle.std.proofs.Common.{rules}
use Rattle.season_figures.specs.Figures.{nothing}
use Rattle.season_figures.proofs.figures.no_figures.Goals as goal

pub returns : goal.returns
unfolding nothing
returns c = search rules
