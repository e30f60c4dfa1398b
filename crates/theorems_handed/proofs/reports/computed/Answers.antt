-- Computed.
use Rattle.theorems_handed.proofs.CaseLaws.{computed}
use Rattle.theorems_handed.proofs.reports.computed.Goals as goal

pub returns : goal.returns
returns c = computed
