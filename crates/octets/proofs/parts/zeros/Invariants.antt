-- `zeros` is `zeros_b`: at each turn the bytes passed or to zero exactly where the test of them holds.
use Rattle.std.proofs.Common.{◌≡◌, drop}
use lib.Dec.{eqb}
use Rattle.octets.specs.Choice.{both}
use Rattle.octets.specs.Parts.{zeros_b}
use Rattle.octets.proofs.parts.zeros.Given as goal

abbrev pub invariant-loop-x : goal.invariant-loop-x
invariant-loop-x l = zeros_b l.s ≡ both (eqb l.any 0) (zeros_b (drop l.x-index l.s))
