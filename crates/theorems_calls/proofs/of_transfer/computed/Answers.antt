-- The cases, computed on the definitions.
use mathlib.Core.Path.{refl}
use Rattle.theorems_calls.specs.TransferCases.{Computed, tables_open, askings, writings, notified, access_done}
use Rattle.theorems_calls.proofs.of_transfer.computed.Goals as goal

cases : Computed
unfolding askings writings notified access_done tables_open
cases = record { notify = refl; record_access_lem = refl }

pub returns : goal.returns
returns c = cases
