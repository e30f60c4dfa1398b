-- By the two tests of the theorem and the difference.
use Rattle.theorems_stamps.proofs.OneLaws.{one_carrying}
use Rattle.theorems_stamps.proofs.stamps.one_carrying.Goals as goal

pub returns : goal.returns
returns c = one_carrying
