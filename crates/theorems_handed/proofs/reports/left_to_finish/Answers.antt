-- Among quiet calls the course closes where the hearing does, and that closes by theorem Closing report.
use Rattle.theorems_handed.proofs.LeftLaws.{left_to_finish}
use Rattle.theorems_handed.proofs.reports.left_to_finish.Goals as goal

pub returns : goal.returns
returns c = left_to_finish
