-- How large a signed sum can be, what fits, and the machine's difference of two times. `nat_abs z` is the size of z.
-- Assumes nothing.
use mathlib.Core.Path.{◌≡◌}
use mathlib.Core.Bool.{Bool, true, false, cond}
use Prim.Native.Nat.{ℕ, zero, suc, ◌+◌, ◌-◌, ◌^◌, ◌≤◌, ◌<◌}
use native.Mathlib.Nat.{le_of_lt}
use native.Mathlib.Omega.{arith}
use lib.Dec.{ltb}
use lib.IntN.{ℤ, pos, negsuc, nat_abs, ◌+ℤ◌, ◌-ℤ◌}
use mir.Syntax.{Width, w64}
use mir.Val.{SFits, hbits, to_z}
use mir.Facts.{to_z_pos}

size_cond : (b : Bool) (x y m : ℕ) → x < m → y ≤ m → nat_abs (cond b (negsuc x) (pos y)) ≤ m
size_cond true x y m p q = p
size_cond false x y m p q = q

-- two numbers of at most m are at most m apart
pub size_difference : (a b m : ℕ) → a ≤ m → b ≤ m → nat_abs (pos a -ℤ pos b) ≤ m
size_difference a zero m p q = omega arith
size_difference a (suc b) m p q = size_cond (ltb a (suc b)) (suc b - suc a) (a - suc b) m (omega arith) (omega arith)

pub size_sum : (a b : ℤ) → nat_abs (a +ℤ b) ≤ nat_abs a + nat_abs b
size_sum (pos a) (pos b) = omega arith
size_sum (pos a) (negsuc b) = size_cond (ltb a (suc b)) (suc b - suc a) (a - suc b) (a + suc b) (omega arith) (omega arith)
size_sum (negsuc a) (pos b) = size_cond (ltb b (suc a)) (suc a - suc b) (b - suc a) (suc a + b) (omega arith) (omega arith)
size_sum (negsuc a) (negsuc b) = omega arith

pub fits : (w : Width) (z : ℤ) → nat_abs z < 2 ^ hbits w → SFits w z
fits w (pos n) h = record { sfits = h }
fits w (negsuc n) h = record { sfits = le_of_lt h }

-- the machine's difference of two times: it is the difference, and it fits
module _ (a b : ℕ) (p : a < 2 ^ 32) (q : b < 2 ^ 32) where
  pub difference_is : to_z w64 a -ℤ to_z w64 b ≡ pos a -ℤ pos b
  difference_is = rw (to_z_pos w64 {n = a} (omega arith), to_z_pos w64 {n = b} (omega arith))

  pub difference_fits : SFits w64 (pos a -ℤ pos b)
  difference_fits = fits w64 (pos a -ℤ pos b) (omega (arith, size_difference a b 4294967295 (omega arith) (omega arith)))
