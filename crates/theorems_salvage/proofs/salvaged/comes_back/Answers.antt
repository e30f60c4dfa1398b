-- The law `comes_back`.
use Rattle.theorems_salvage.proofs.TableLaws.{comes_back}
use Rattle.theorems_salvage.proofs.salvaged.comes_back.Goals as goal

pub returns : goal.returns
returns c = comes_back
