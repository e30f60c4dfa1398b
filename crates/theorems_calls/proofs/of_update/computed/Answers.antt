-- The cases, computed on the definitions.
use mathlib.Core.Path.{refl}
use Rattle.theorems_calls.specs.UpdateCases.{table, got, expected}
use Rattle.theorems_calls.proofs.of_update.computed.Goals as goal

pub returns : goal.returns
unfolding table got expected
returns c = refl
