-- The law `kept_below`: 64,000 is few enough.
use native.Mathlib.Omega.{arith}
use Rattle.theorems_fetch.specs.History.{presumed}
use Rattle.theorems_fetch.proofs.HistoryLaws.{kept_below}
use Rattle.theorems_fetch.proofs.history.kept.Goals as goal

pub returns : goal.returns
returns c = kept_below presumed (omega arith)
