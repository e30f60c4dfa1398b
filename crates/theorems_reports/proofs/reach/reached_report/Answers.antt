-- By Reachable, Calm calls and Heard report.
use Rattle.theorems_reports.proofs.ReachLaws.{reached_report}
use Rattle.theorems_reports.proofs.reach.reached_report.Goals as goal

pub returns : goal.returns
returns c = reached_report
