-- A started reader runs no report by value, and what is heard over bytes is what is heard by value.
use Rattle.theorems_handed_bytes.proofs.OnceLaws.{nothing_else_at}
use Rattle.theorems_handed_bytes.proofs.histories.nothing_else.Goals as goal

pub returns : goal.returns
returns c = nothing_else_at
