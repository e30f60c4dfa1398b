-- The cases, computed on the definitions.
use mathlib.Core.Path.{refl}
use Rattle.theorems_clock.specs.Cases.{table, got, expected}
use Rattle.theorems_clock.proofs.theorems.computed.Goals as goal

pub returns : goal.returns
unfolding table got expected
returns c = refl
