-- By the image, from the theorems by value.
use Rattle.theorems_bytes.proofs.ReportLaws.{finished_report_at}
use Rattle.theorems_bytes.proofs.histories.finished_report.Goals as goal

pub returns : goal.returns
returns c = finished_report_at
