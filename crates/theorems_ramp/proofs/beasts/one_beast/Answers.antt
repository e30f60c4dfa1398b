-- The laws `by_carrying`, `one_beast` and `between_reads`.
use Rattle.theorems_ramp.proofs.BeastLaws.{by_carrying, one_beast, between_reads}
use Rattle.theorems_ramp.proofs.beasts.one_beast.Goals as goal

pub returns : goal.returns
returns c = record { by_carrying = by_carrying; one_beast = one_beast; between_reads = between_reads }
