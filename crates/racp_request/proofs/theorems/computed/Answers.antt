-- The cases, computed on the definitions.
use mathlib.Core.Path.{refl}
use Rattle.racp_request.specs.Cases.{table, got, expected}
use Rattle.racp_request.proofs.theorems.computed.Goals as goal

pub returns : goal.returns
unfolding table got expected
returns c = refl
