-- The segments of a report fit together, and the bytes of a held record read back.
use Rattle.theorems_handed.proofs.ReadLaws.{every_record_joined}
use Rattle.theorems_handed.proofs.reports.every_record_joined.Goals as goal

pub returns : goal.returns
returns c = every_record_joined
