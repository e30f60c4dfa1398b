-- `decimal` at some numbers, one digit at a time, and how many digits there are.
-- Assumes nothing.
use mathlib.Core.Path.{◌≡◌, refl, sym, ap, ◌∙◌}
use mathlib.Core.Bool.{Bool, true, false}
use mathlib.Core.List.{List, [], ◌∷◌, ◌++◌}
use Prim.Native.Nat.{ℕ, zero, suc, ◌+◌, ◌/◌, ◌%◌, ◌^◌, ◌≤◌, ◌<◌}
use native.Mathlib.Nat.{pow-suc, le_of_suc-le-suc, not-suc-le-zero}
use native.Mathlib.Omega.{arith}
use borrow.Author.Tests.{lt-ltb, le-ltb}
use lib.Dec.{ltb}
use lib.ListN.{length, length-append}
use Rattle.octets.specs.Choice.{pick}
use Rattle.text.specs.Line.{digits_up_to, decimal}

pub decimal_0 : decimal 0 ≡ 48 ∷ []
unfolding decimal digits_up_to
decimal_0 = refl

pub decimal_7 : decimal 7 ≡ 55 ∷ []
unfolding decimal digits_up_to
decimal_7 = refl

pub decimal_10 : decimal 10 ≡ 49 ∷ 48 ∷ []
unfolding decimal digits_up_to
decimal_10 = refl

pub decimal_65535 : decimal 65535 ≡ 54 ∷ 53 ∷ 53 ∷ 51 ∷ 53 ∷ []
unfolding decimal digits_up_to
decimal_65535 = refl

pub decimal_4294967295 : decimal 4294967295 ≡ 52 ∷ 50 ∷ 57 ∷ 52 ∷ 57 ∷ 54 ∷ 55 ∷ 50 ∷ 57 ∷ 53 ∷ []
unfolding decimal digits_up_to
decimal_4294967295 = refl

-- the greatest number of 64 bits
pub decimal_18446744073709551615 : decimal 18446744073709551615
    ≡ 49 ∷ 56 ∷ 52 ∷ 52 ∷ 54 ∷ 55 ∷ 52 ∷ 52 ∷ 48 ∷ 55 ∷ 51 ∷ 55 ∷ 48 ∷ 57 ∷ 53 ∷ 53 ∷ 49 ∷ 54 ∷ 49 ∷ 53 ∷ []
unfolding decimal digits_up_to
decimal_18446744073709551615 = refl

abbrev last_digit : ℕ → List ℕ
last_digit n = (48 + n % 10) ∷ []

digits_one : (k n : ℕ) → n < 10 → digits_up_to (suc k) n ≡ last_digit n
unfolding digits_up_to
digits_one k n h = rw (lt-ltb n 10 h)

digits_more : (k n : ℕ) → 10 ≤ n → digits_up_to (suc k) n ≡ digits_up_to k (n / 10) ++ last_digit n
unfolding digits_up_to
digits_more k n h = rw (le-ltb n 10 h)

-- where k + 1 digits are enough, a higher count gives the same
digits_enough : (k j n : ℕ) → k ≤ j → n < 10 ^ suc k → digits_up_to (suc k) n ≡ digits_up_to (suc j) n
unfolding digits_up_to
digits_enough zero j n le h = digits_one 0 n h ∙ sym (digits_one j n h)
digits_enough (suc k) zero n le h = absurd (not-suc-le-zero le)
digits_enough (suc k) (suc j) n le h =
    let low : n / 10 < 10 ^ suc k = omega (arith, rw (pow-suc 10 (suc k)) at h) in
    ap (λ (l : List ℕ). pick (ltb n 10) [] l ++ last_digit n) (digits_enough k j (n / 10) (le_of_suc-le-suc le) low)

digits_short : (k n : ℕ) → length (digits_up_to k n) ≤ k
unfolding digits_up_to
digits_short zero n = omega arith
digits_short (suc k) n = rw length-append (omega (arith, some (ltb n 10) (digits_up_to k (n / 10)) (digits_short k (n / 10))))
  where
    some : (b : Bool) (l : List ℕ) → length l ≤ k → length (pick b [] l) ≤ k
    some true l h = omega arith
    some false l h = h

-- the two steps of `with_number`
pub decimal_one : (n : ℕ) → n < 10 → decimal n ≡ (48 + n % 10) ∷ []
unfolding decimal
decimal_one n h = digits_one 19 n h

pub decimal_more : (n : ℕ) → 10 ≤ n → n < 18446744073709551616 → decimal n ≡ decimal (n / 10) ++ ((48 + n % 10) ∷ [])
unfolding decimal
decimal_more n h fits =
    digits_more 19 n h
    ∙ ap (λ (l : List ℕ). l ++ last_digit n) (digits_enough 18 19 (n / 10) (omega arith) (omega arith))

pub decimal_short : (n : ℕ) → n < 4294967296 → length (decimal n) ≤ 10
unfolding decimal
decimal_short n h = rw (digits_enough 9 19 n (omega arith) (omega arith)) at (digits_short 10 n)

pub decimal_short_any : (n : ℕ) → length (decimal n) ≤ 20
unfolding decimal
decimal_short_any n = digits_short 20 n
