-- By induction over the calls.
use Rattle.theorems_stamps.proofs.StampLaws.{carried_stamp}
use Rattle.theorems_stamps.proofs.stamps.carried_stamp.Goals as goal

pub returns : goal.returns
returns c = carried_stamp
