-- By induction over the calls.
use Rattle.theorems_bytes.proofs.ImageLaws.{images}
use Rattle.theorems_bytes.proofs.histories.images.Goals as goal

pub returns : goal.returns
returns c = images
