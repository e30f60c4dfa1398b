-- The law `same_part`.
use Rattle.ramp_bytes.proofs.PartLaws.{same_part}
use Rattle.ramp_bytes.proofs.theorems.same_part.Goals as goal

pub returns : goal.returns
returns c = same_part
