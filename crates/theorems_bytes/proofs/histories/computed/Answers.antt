-- Computed.
use Rattle.theorems_bytes.proofs.CaseLaws.{computed}
use Rattle.theorems_bytes.proofs.histories.computed.Goals as goal

pub returns : goal.returns
returns c = computed
