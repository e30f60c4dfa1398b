-- The cases, computed on the definitions.
use mathlib.Core.Path.{refl}
use Rattle.theorems_calls.specs.TabletCases.{table, got, expected, readings, got_read, expected_read}
use Rattle.theorems_calls.proofs.of_tablet.computed.Goals as goal

pub returns : goal.returns
unfolding table got expected readings got_read expected_read
returns c = record { joined = refl; read = refl }
