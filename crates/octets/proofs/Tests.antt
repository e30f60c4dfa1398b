-- How the words of `Choice` are read and made, and the test that a row of bytes is zero taken one byte at a time.
-- Assumes nothing.
use mathlib.Core.Path.{◌≡◌, refl, sym, ap, ◌∙◌}
use mathlib.Core.Bool.{Bool, true, false}
use mathlib.Core.List.{List}
use Prim.Native.Nat.{ℕ, zero, suc, ◌+◌, ◌≤◌, ◌<◌}
use native.Mathlib.Omega.{arith}
use native.Mathlib.Numerals.{add-one}
use borrow.Author.Tests.{ne_eqb}
use lib.Bits.{bit_or, or_add_and, and_le_r, or_zero_l}
use lib.Dec.{eqb}
use lib.ListN.{length, drop, drop_of_length-le}
use lib.Seq.{drop-cons}
use Rattle.octets.specs.Choice.{both}
use Rattle.octets.specs.Numbers.{at}
use Rattle.octets.specs.Parts.{zeros_b}

-- a test that cannot hold
pub false_by : (b : Bool) → (b ≡ true → ⊥) → b ≡ false
false_by true h = absurd (h refl)
false_by false h = refl

pub clash : (b : Bool) → b ≡ true → b ≡ false → ⊥
clash b p q = let z : ◌≡◌ {A = Bool} true false = sym p ∙ q in let o : ◌≡◌ {A = ℕ} 0 1 = cc in omega arith

pub both_yes : {a b : Bool} → a ≡ true → both a b ≡ b
both_yes h = rw h

pub both_no : (a b : Bool) → a ≡ false → both a b ≡ false
both_no a b h = rw h

pub both_not : (a : Bool) {b : Bool} → b ≡ false → both a b ≡ false
both_not true h = h
both_not false h = refl

pub both_reads : (a b : Bool) → both a b ≡ true → (a ≡ true) × (b ≡ true)
both_reads true b h = (refl, h)
both_reads false b h = absurd (clash false h refl)

pub both_assoc : (a b d : Bool) → both (both a b) d ≡ both a (both b d)
both_assoc true b d = refl
both_assoc false b d = refl

-- an or of two numbers is 0 where both are
pub or_zero : (a b : ℕ) → eqb (bit_or a b) 0 ≡ both (eqb a 0) (eqb b 0)
or_zero zero b = ap (λ (n : ℕ). eqb n 0) (or_zero_l b)
or_zero (suc a) b =
    ne_eqb (bit_or (suc a) b) 0 (λ h. omega (arith, or_add_and (suc a) b, and_le_r (suc a) b))
    ∙ sym (both_no (eqb (suc a) 0) (eqb b 0) (ne_eqb (suc a) 0 (λ h. omega arith)))

-- the loop of `zeros`: what is left of the test
pub zeros_step : (s : List ℕ) (i any : ℕ) → i < length s
    → both (eqb any 0) (zeros_b (drop i s)) ≡ both (eqb (bit_or any (at s i)) 0) (zeros_b (drop (i + 1) s))
unfolding zeros_b
zeros_step s i any h =
    rw (add-one, drop-cons s i 0 h, or_zero any (at s i)) (sym (both_assoc (eqb any 0) (eqb (at s i) 0) (zeros_b (drop (suc i) s))))

pub zeros_done : (s : List ℕ) (i any : ℕ) → length s ≤ i → both (eqb any 0) (zeros_b (drop i s)) ≡ eqb any 0
unfolding zeros_b
zeros_done s i any h = rw (drop_of_length-le s h) (last (eqb any 0))
  where
    last : (b : Bool) → both b true ≡ b
    last true = refl
    last false = refl
