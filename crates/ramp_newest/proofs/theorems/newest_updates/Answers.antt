-- The laws `which_is_later` and `its_bytes`.
use Rattle.ramp_newest.proofs.PartLaws.{which_is_later, its_bytes}
use Rattle.ramp_newest.proofs.theorems.newest_updates.Goals as goal

pub returns : goal.returns
returns c = (which_is_later, its_bytes)
