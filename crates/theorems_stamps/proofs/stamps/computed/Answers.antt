-- The cases, computed on the definitions.
use mathlib.Core.Path.{refl}
use Rattle.theorems_stamps.specs.Cases.{result_of}
use Rattle.theorems_stamps.proofs.WriteLaws.{writable}
use Rattle.theorems_stamps.proofs.stamps.computed.Goals as goal

pub returns : goal.returns
unfolding result_of
returns c = record { writable = writable; case6 = refl; set_back = refl; faulted = refl; fault_before = refl; overwritten = refl }
