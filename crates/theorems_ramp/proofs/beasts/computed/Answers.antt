-- The cases, computed on the definitions.
use mathlib.Core.Path.{refl}
use Rattle.theorems_stamps.proofs.WriteLaws.{writable}
use Rattle.theorems_ramp.specs.Cases.{result_by}
use Rattle.theorems_ramp.proofs.beasts.computed.Goals as goal

pub returns : goal.returns
unfolding result_by
returns c = record { writable = writable; story = refl; narrower = refl; other_way = refl; faulted = refl; overwritten = refl }
