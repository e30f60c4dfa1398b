-- The newest of the newest are the newest.
use Rattle.theorems_copies.proofs.CopyLaws.{carried_over_copy}
use Rattle.theorems_copies.proofs.copies.carried_over_copy.Goals as goal

pub returns : goal.returns
returns c = carried_over_copy
