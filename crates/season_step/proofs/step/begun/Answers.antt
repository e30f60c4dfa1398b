-- Each part as `beginning` has it.
use Rattle.season_step.specs.Step.{beginning}
use Rattle.season_step.proofs.step.begun.Goals as goal

pub returns : goal.returns
unfolding beginning
returns c = rw c.no_figures.ensures
