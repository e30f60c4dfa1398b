-- By the image, from the theorem by value.
use Rattle.theorems_bytes.proofs.StampLaws.{holds_logged_at}
use Rattle.theorems_bytes.proofs.histories.holds_logged.Goals as goal

pub returns : goal.returns
returns c = holds_logged_at
