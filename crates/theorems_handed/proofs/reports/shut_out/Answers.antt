-- Each is shown wrong on the computed table.
use Rattle.theorems_handed.proofs.WrongLaws.{shut_out}
use Rattle.theorems_handed.proofs.reports.shut_out.Goals as goal

pub returns : goal.returns
returns c = shut_out
