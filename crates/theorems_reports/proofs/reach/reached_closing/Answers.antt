-- By Reachable, Quiet calls and Closing report.
use Rattle.theorems_reports.proofs.ReachLaws.{reached_closing}
use Rattle.theorems_reports.proofs.reach.reached_closing.Goals as goal

pub returns : goal.returns
returns c = reached_closing
