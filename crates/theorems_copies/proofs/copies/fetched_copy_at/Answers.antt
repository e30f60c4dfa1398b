-- Over bytes as by value.
use Rattle.theorems_copies.proofs.CopyAtLaws.{fetched_copy_at}
use Rattle.theorems_copies.proofs.copies.fetched_copy_at.Goals as goal

pub returns : goal.returns
returns c = fetched_copy_at
