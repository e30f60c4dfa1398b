-- By Finished report over bytes and By number: what matches is the piece that each filter names.
use Rattle.theorems_bytes.proofs.NumberLaws.{reported_by_number}
use Rattle.theorems_bytes.proofs.histories.reported_by_number.Goals as goal

pub returns : goal.returns
returns c = reported_by_number
