-- `same` is `same_b`: at each turn what is left is the same exactly where the whole is.
use mathlib.Core.Path.{◌≡◌}
use lib.ListN.{drop}
use Rattle.octets.specs.Parts.{same_b}
use Rattle.state_bytes.proofs.state.same.Given as goal

abbrev pub invariant-loop-i : goal.invariant-loop-i
invariant-loop-i l = same_b l.a l.b ≡ same_b (drop l.i l.a) (drop l.i l.b)
