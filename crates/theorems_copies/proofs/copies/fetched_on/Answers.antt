-- The row of held records from the copy's next number on, joined and kept.
use Rattle.theorems_copies.proofs.CopyLaws.{fetched_on}
use Rattle.theorems_copies.proofs.copies.fetched_on.Goals as goal

pub returns : goal.returns
returns c = fetched_on
