-- By induction over the calls.
use Rattle.theorems_reports.proofs.ReachLaws.{reachable}
use Rattle.theorems_reports.proofs.reach.reachable.Goals as goal

pub returns : goal.returns
returns c = reachable
