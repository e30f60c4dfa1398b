-- Each computed on the definitions.
use mathlib.Core.Path.{refl}
use Rattle.theorems_salvage.specs.Wrong.{kept, first_of_equal, joined, believing}
use Rattle.theorems_salvage.proofs.wrong.shut_out.Goals as goal

pub returns : goal.returns
unfolding kept first_of_equal joined believing
returns c = record { latest = refl; not_first = refl; ends = refl; not_joined = refl; all_read = refl; not_believing = refl }
