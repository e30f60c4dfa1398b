-- The cases, computed on the definitions.
use mathlib.Core.Path.{refl}
use Rattle.characteristics.specs.Cases.{table, got, expected, feature_at, parameters_at}
use Rattle.characteristics.proofs.theorems.computed.Goals as goal

pub returns : goal.returns
unfolding table got expected feature_at parameters_at
returns c = record { cases = refl; feature = refl; feature_short = refl; parameters = refl; parameters_short = refl }
