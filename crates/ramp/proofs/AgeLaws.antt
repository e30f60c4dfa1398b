-- Signed ages: how large they are, and that they fit.
-- Assumes nothing.
use mathlib.Core.Path.{◌≡◌, refl}
use Prim.Native.Nat.{ℕ, zero, suc, ◌+◌, ◌≤◌, ◌<◌}
use native.Mathlib.Omega.{arith}
use lib.IntN.{ℤ, pos, negsuc, neg_ℤ, nat_abs, ◌-ℤ◌}
use mir.Syntax.{w64}
use mir.Val.{SFits}
use Rattle.carry.proofs.IntLaws.{size_sum, fits}
use Rattle.ramp.specs.Bounds.{carried_bound}

size_neg : (z : ℤ) → nat_abs (neg_ℤ z) ≡ nat_abs z
size_neg (pos zero) = refl
size_neg (pos (suc n)) = refl
size_neg (negsuc n) = refl

-- a difference is no larger than both together
size_minus : (a b : ℤ) → nat_abs (a -ℤ b) ≤ nat_abs a + nat_abs b
size_minus a b = let s = size_sum a (neg_ℤ b) in omega (arith, size_neg b)

pub age_fits : (base : ℕ) (z : ℤ) → base < 4294967296 → nat_abs z ≤ carried_bound → SFits w64 (pos base -ℤ z)
age_fits base z h s = let m = size_minus (pos base) z in fits w64 (pos base -ℤ z) (omega arith)
