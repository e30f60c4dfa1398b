-- Each by a history in which it differs.
use Rattle.theorems_stamps.proofs.WrongLaws.{shut_out}
use Rattle.theorems_stamps.proofs.stamps.shut_out.Goals as goal

pub returns : goal.returns
returns c = shut_out
