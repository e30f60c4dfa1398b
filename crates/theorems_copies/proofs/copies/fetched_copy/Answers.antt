-- The row of held records, joined and kept.
use Rattle.theorems_copies.proofs.CopyLaws.{fetched_copy}
use Rattle.theorems_copies.proofs.copies.fetched_copy.Goals as goal

pub returns : goal.returns
returns c = fetched_copy
