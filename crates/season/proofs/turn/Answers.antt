-- The lines lie within their buffer. A run that goes on is at the next position, as its step's outcome says.
use Rattle.std.proofs.Common.{sym}
use Rattle.std.proofs.lemmas.List.{length-take-le}
use Rattle.season_step.proofs.StepLaws.{outcome_within, outcome_next}
use Rattle.season.proofs.turn.Goals as goal

pub slice_bounds-out-end : goal.slice_bounds-out-end
slice_bounds-out-end c = outcome_within _ _ _ _ _ c.step-progress.result c.step-progress.ensures

pub slice_bounds-write_all-end : goal.slice_bounds-write_all-end
slice_bounds-write_all-end c = sym (length-take-le _ _ (outcome_within _ _ _ _ _ c.step-progress.result c.step-progress.ensures))

pub returns : goal.returns
returns c = outcome_next _ _ _ _ _ c.step-progress.result c.step-progress.ensures _ c.continue_value.ensures.some
