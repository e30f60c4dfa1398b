-- Over bytes as by value.
use Rattle.theorems_copies.proofs.CopyAtLaws.{fetched_on_at}
use Rattle.theorems_copies.proofs.copies.fetched_on_at.Goals as goal

pub returns : goal.returns
returns c = fetched_on_at
