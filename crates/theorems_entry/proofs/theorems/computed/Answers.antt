-- Case 1, computed on the definitions.
use mathlib.Core.Path.{refl}
use Rattle.theorems_entry.specs.Cases.{start, switches, written}
use Rattle.theorems_entry.proofs.theorems.computed.Goals as goal

pub returns : goal.returns
unfolding start switches written
returns c =
    record {
      started = refl;
      begun = refl;
      switched = refl;
      taken = refl;
      response = refl;
      state = refl;
      record_0 = refl;
    }
