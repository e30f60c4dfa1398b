-- The cases, computed on the definitions.
use mathlib.Core.Path.{refl}
use native.Mathlib.Omega.{arith}
use Rattle.theorems_fetch.specs.Cases.{answers_after}
use Rattle.theorems_fetch.proofs.history.computed.Goals as goal

pub returns : goal.returns
unfolding answers_after
returns c =
    record {
      fair = omega arith;
      none_told = refl;
      all_missing = refl;
      one_missing = refl;
      stayed = refl;
      nothing_missing = refl;
      none_held = refl;
    }
