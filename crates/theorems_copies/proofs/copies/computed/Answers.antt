-- By computing.
use mathlib.Core.Path.{refl}
use Rattle.theorems_copies.specs.Cases.{copied_in}
use Rattle.theorems_copies.proofs.copies.computed.Goals as goal

pub returns : goal.returns
unfolding copied_in
returns c = (refl, refl)
