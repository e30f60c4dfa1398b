-- The law `one_beast_at_lem`.
use Rattle.theorems_ramp.proofs.ByteLaws.{one_beast_at_lem}
use Rattle.theorems_ramp.proofs.beasts.one_beast_at.Goals as goal

pub returns : goal.returns
returns c = one_beast_at_lem
