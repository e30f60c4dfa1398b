-- What is handed over and what is heard, by induction over the calls; by number, from the order of the held records.
use Rattle.theorems_handed.proofs.OnceLaws.{every_record_once}
use Rattle.theorems_handed.proofs.reports.every_record_once.Goals as goal

pub returns : goal.returns
returns c = every_record_once
