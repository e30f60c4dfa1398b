-- By induction over the calls.
use Rattle.theorems_reports.proofs.ReportLaws.{heard_report}
use Rattle.theorems_reports.proofs.reports.heard_report.Goals as goal

pub returns : goal.returns
returns c = heard_report
