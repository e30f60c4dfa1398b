-- A report that was accepted over bytes was accepted by value, and its course is the same.
use Rattle.theorems_handed_bytes.proofs.OnceLaws.{every_record_once_at}
use Rattle.theorems_handed_bytes.proofs.histories.every_record_once.Goals as goal

pub returns : goal.returns
returns c = every_record_once_at
