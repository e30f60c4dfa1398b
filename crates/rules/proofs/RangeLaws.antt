-- Base_Time's range, from the test to the two bounds and back; how large a status can be.
-- Assumes nothing.
use mathlib.Core.Path.{◌≡◌}
use mathlib.Core.Bool.{true}
use Prim.Native.Nat.{ℕ, ◌/◌, ◌≤◌, ◌<◌}
use native.Mathlib.Omega.{arith}
use borrow.Author.Tests.{leb-true, le-leb, eqb-true}
use lib.Dec.{leb, eqb}
use Rattle.octets.proofs.Tests.{both_reads}
use Rattle.rules.specs.Fields.{first_base_time, last_base_time, base_b, status_b}

pub base_reads : (b : ℕ) → base_b b ≡ true → (first_base_time ≤ b) × (b ≤ last_base_time)
unfolding base_b
base_reads b h =
    let x = both_reads (leb first_base_time b) (leb b last_base_time) h in
    (leb-true first_base_time b x.0, leb-true b last_base_time x.1)

pub base_makes : (b : ℕ) → first_base_time ≤ b → b ≤ last_base_time → base_b b ≡ true
unfolding base_b
base_makes b low high = simp (le-leb first_base_time b low, le-leb b last_base_time high)

-- a status that obeys the rules is a small number
pub status_small : (s : ℕ) → status_b s ≡ true → s < 65536
unfolding status_b
status_small s h = let e = eqb-true (s / 16) 1 (both_reads (eqb (s / 16) 1) _ h).0 in omega arith
