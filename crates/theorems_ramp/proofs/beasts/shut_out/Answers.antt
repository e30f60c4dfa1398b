-- The law `shut_out`.
use Rattle.theorems_ramp.proofs.WrongLaws.{shut_out}
use Rattle.theorems_ramp.proofs.beasts.shut_out.Goals as goal

pub returns : goal.returns
returns c = shut_out
