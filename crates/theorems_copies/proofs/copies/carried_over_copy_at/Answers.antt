-- Over bytes as by value.
use Rattle.theorems_copies.proofs.CopyAtLaws.{carried_over_copy_at}
use Rattle.theorems_copies.proofs.copies.carried_over_copy_at.Goals as goal

pub returns : goal.returns
returns c = carried_over_copy_at
