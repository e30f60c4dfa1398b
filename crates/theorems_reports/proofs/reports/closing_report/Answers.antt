-- By induction over the calls.
use Rattle.theorems_reports.proofs.ReportLaws.{closing_report}
use Rattle.theorems_reports.proofs.reports.closing_report.Goals as goal

pub returns : goal.returns
returns c = closing_report
