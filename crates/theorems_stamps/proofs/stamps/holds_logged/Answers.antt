-- By induction over the calls.
use Rattle.theorems_stamps.proofs.StampLaws.{holds_logged}
use Rattle.theorems_stamps.proofs.stamps.holds_logged.Goals as goal

pub returns : goal.returns
returns c = holds_logged
