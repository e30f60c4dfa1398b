-- Carried stamp, and a copy that carries alike.
use Rattle.theorems_copies.proofs.CopyAtLaws.{carried_copy_at}
use Rattle.theorems_copies.proofs.copies.carried_copy_at.Goals as goal

pub returns : goal.returns
returns c = carried_copy_at
