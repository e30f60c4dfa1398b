-- By the image, from the theorem by value.
use Rattle.theorems_bytes.proofs.StampLaws.{carried_stamp_at}
use Rattle.theorems_bytes.proofs.histories.carried_stamp.Goals as goal

pub returns : goal.returns
returns c = carried_stamp_at
