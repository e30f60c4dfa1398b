-- By the sizes, which stay.
use Rattle.theorems_bytes.proofs.ImageLaws.{restarted}
use Rattle.theorems_bytes.proofs.histories.restarted.Goals as goal

pub returns : goal.returns
returns c = restarted
