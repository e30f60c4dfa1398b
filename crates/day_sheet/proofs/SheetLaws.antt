-- The pieces of a tag's line in a row, and that they are short enough for a line.
-- Assumes nothing.
use mathlib.Core.Path.{◌≡◌, refl, ap, subst, ◌∙◌}
use mathlib.Core.Bool.{Bool, true, false}
use mathlib.Core.List.{List, [], ◌∷◌, ◌++◌, append_assoc}
use Rattle.std.proofs.Common.{Option, Some, None, Ok, Err, Result}
use Prim.Native.Nat.{ℕ, zero, suc, ◌+◌, ◌/◌, ◌^◌, ◌≤◌, ◌<◌}
use native.Mathlib.Omega.{arith}
use native.Mathlib.Nat.{pow-suc, not-suc-le-zero}
use borrow.Author.Tests.{ltb-true, ltb-false}
use lib.Dec.{T, ltb}
use lib.IntN.{ℤ, pos, negsuc, nat_abs}
use lib.ListN.{length, length-append}
use lib.Signed.{lt_z, non_neg}
use Rattle.text.specs.Line.{fitted, decimal, digits_up_to, two_digits}
use Rattle.text.proofs.TextLaws.{fitted_short, fitted_then}
use Rattle.text.proofs.DecimalLaws.{decimal_one, decimal_more, decimal_short, decimal_short_any}
use Rattle.carry.specs.Stamp.{carrying_number}
use Rattle.ramp.specs.Beast.{Verdict, verdict_number}
use Rattle.ramp.specs.declared.beast.Beasts.TheVariants.{One, Two}
use Rattle.ramp.specs.declared.beast.RampError.TheVariants.{WindowTooWide, LeftRefused, RightRefused}
use Rattle.day_sheet.specs.Sheet.{time_of_day, noted_of, signed_of, outcome_of, carried_of, shown_text, seconds_in, gap, apart_text, pair_text, left_word, right_word, verdict_text, ruling_text, tag_line}
use Rattle.day_sheet.specs.declared.sheet.Shown.{Shown}
use Rattle.day_sheet.specs.declared.sheet.Shown.TheVariants.{Nothing, At, Before, Refused}
use Rattle.day_sheet.specs.declared.sheet.Sight.{Sight}
use Rattle.carry.specs.declared.stamp.CarryError.{CarryError}
use Rattle.carry.specs.declared.stamp.CarryError.TheVariants.{FaultAmong, NotHeld, TableNotSound}

-- a signed number below 0, and one that isn't
pub below : (z : ℤ) → lt_z z (pos 0) ≡ true → Before ≡ signed_of z
unfolding signed_of
below (pos n) t = absurd (not-suc-le-zero (ltb-true n 0 t))
below (negsuc n) t = refl

pub not_below_lem : (z : ℤ) → lt_z z (pos 0) ≡ false → T (non_neg z)
not_below_lem (pos n) t = tt
not_below_lem (negsuc n) t = subst T t tt

pub at_size : (z : ℤ) → lt_z z (pos 0) ≡ false → At (nat_abs z) ≡ signed_of z
unfolding signed_of
at_size (pos n) t = refl
at_size (negsuc n) t = absurd (subst T t tt)

-- what is no stamp carried is a refusal
pub refused_is : (c : Result ℤ CarryError) {n : ℕ} → ((z : ℤ) → c ≡ Ok z → ⊥) → n ≡ carrying_number c → Refused n ≡ outcome_of c
unfolding outcome_of
refused_is (Ok z) h e = absurd (h z refl)
refused_is (Err TableNotSound) h e = ap Refused e
refused_is (Err NotHeld) h e = ap Refused e
refused_is (Err FaultAmong) h e = ap Refused e

-- one of two that is no time leaves `-`
pub first_no_time : (x y : Shown) → ((n : ℕ) → x ≡ At n → ⊥) → 45 ∷ [] ≡ apart_text x y
unfolding apart_text
first_no_time Nothing y h = refl
first_no_time (At n) y h = absurd (h n refl)
first_no_time Before y h = refl
first_no_time (Refused n) y h = refl

pub second_no_time : (a : ℕ) (y : Shown) → ((n : ℕ) → y ≡ At n → ⊥) → 45 ∷ [] ≡ apart_text (At a) y
unfolding apart_text
second_no_time a Nothing h = refl
second_no_time a (At n) h = absurd (h n refl)
second_no_time a Before h = refl
second_no_time a (Refused n) h = refl

-- what was put at the end of a line, under another name
pub as_put : (t : List ℕ) {x a b : List ℕ} → a ≡ b → x ≡ fitted (t ++ a) → x ≡ fitted (t ++ b)
as_put t e f = f ∙ ap (λ (l : List ℕ). fitted (t ++ l)) e

pub pair_joined : (t x y a : List ℕ) {p q r s u v : List ℕ} → p ≡ fitted (t ++ (32 ∷ [])) → q ≡ fitted (p ++ x) → r ≡ fitted (q ++ (32 ∷ []))
    → s ≡ fitted (r ++ y) → u ≡ fitted (s ++ (32 ∷ [])) → v ≡ fitted (u ++ a)
    → v ≡ fitted (t ++ (32 ∷ (x ++ (32 ∷ (y ++ (32 ∷ a))))))
pair_joined t x y a ep eq er es eu ev =
    let w : List ℕ = 32 ∷ [] in
    let one = fitted_then t w x ep eq in
    let two = fitted_then t (w ++ x) w one er in
    let three = fitted_then t ((w ++ x) ++ w) y two es in
    let four = fitted_then t (((w ++ x) ++ w) ++ y) w three eu in
    fitted_then t ((((w ++ x) ++ w) ++ y) ++ w) a four ev ∙ simp append_assoc

-- two entries as the calls that gave them say
pub pair_put : (l : List ℕ) {x y a b : Shown} {r : List ℕ} → x ≡ a → y ≡ b → r ≡ fitted (l ++ pair_text x y) → r ≡ fitted (l ++ pair_text a b)
pair_put l e f g = rw (e, f) at g

-- a refusal's number, after its side where it has one
module _ (v : Verdict) {m : ℕ} (e : m ≡ verdict_number v) where
  pub no_side : v ≡ Err WindowTooWide → decimal m ≡ verdict_text v
  unfolding verdict_text verdict_number
  no_side f = rw (e, f)

  pub left_side : {n : ℕ} → v ≡ Err (LeftRefused n) → left_word ++ decimal m ≡ verdict_text v
  unfolding verdict_text verdict_number
  left_side f = rw (e, f)

  pub right_side : {n : ℕ} → v ≡ Err (RightRefused n) → right_word ++ decimal m ≡ verdict_text v
  unfolding verdict_text verdict_number
  right_side f = rw (e, f)

-- a number below 10 ^ (k + 1) has at most k + 1 digits
one_more : (k n : ℕ) → n < 18446744073709551616 → length (decimal (n / 10)) ≤ k → length (decimal n) ≤ suc k
one_more k n fits h = by_size (ltb n 10) refl
  where
    by_size : (b : Bool) → ltb n 10 ≡ b → length (decimal n) ≤ suc k
    by_size true e = rw (decimal_one n (ltb-true n 10 e)) (omega arith)
    by_size false e = rw (decimal_more n (ltb-false n 10 e) fits, length-append) (omega arith)

digits_within : (k n : ℕ) → n < 18446744073709551616 → n < 10 ^ suc k → length (decimal n) ≤ suc k
digits_within zero n fits h = rw (decimal_one n h) (omega arith)
digits_within (suc k) n fits h =
    one_more (suc k) n fits (digits_within k (n / 10) (omega arith) (omega (arith, rw (pow-suc 10 (suc k)) at h)))

byte_short : (n : ℕ) → n < 256 → length (decimal n) ≤ 3
byte_short n h = digits_within 2 n (omega arith) (omega arith)

-- a time has eight bytes
time_short : (n : ℕ) → length (time_of_day n) ≤ 8
unfolding time_of_day two_digits
time_short n = omega arith

signed_short : (z : ℤ) → length (shown_text (signed_of z)) ≤ 8
unfolding signed_of shown_text
signed_short (pos n) = time_short n
signed_short (negsuc n) = omega arith

outcome_short : (c : Result ℤ CarryError) → length (shown_text (outcome_of c)) ≤ 10
unfolding outcome_of shown_text carrying_number decimal digits_up_to
outcome_short (Ok z) = omega (arith, signed_short z)
outcome_short (Err TableNotSound) = omega arith
outcome_short (Err NotHeld) = omega arith
outcome_short (Err FaultAmong) = omega arith

carried_short : (s : Option Sight) → length (shown_text (carried_of s)) ≤ 10
unfolding carried_of shown_text
carried_short None = omega arith
carried_short (Some s) = outcome_short s.carried

-- three columns without their spaces: two times apart by any number, or two refusals
columns_short : (x y : Shown) → length (shown_text x) ≤ 10 → length (shown_text y) ≤ 10
    → length (shown_text x) + length (shown_text y) + length (apart_text x y) ≤ 36
unfolding apart_text shown_text
columns_short (At a) (At b) h k = omega (arith, time_short a, time_short b, decimal_short_any (gap a b))
columns_short (At a) Nothing h k = omega arith
columns_short (At a) Before h k = omega arith
columns_short (At a) (Refused n) h k = omega arith
columns_short Nothing y h k = omega arith
columns_short Before y h k = omega arith
columns_short (Refused n) y h k = omega arith

-- of two stamps the times are apart by a number of 32 bits
noted_short : (s u : Option Sight) → seconds_in (noted_of s) < 4294967296 → seconds_in (noted_of u) < 4294967296
    → length (shown_text (noted_of s)) + length (shown_text (noted_of u)) + length (apart_text (noted_of s) (noted_of u)) ≤ 26
unfolding noted_of seconds_in apart_text shown_text gap
noted_short (Some s) (Some u) h k = omega (arith, time_short s.stamp, time_short u.stamp, decimal_short (gap s.stamp u.stamp) (omega arith))
noted_short (Some s) None h k = omega (arith, time_short s.stamp)
noted_short None (Some u) h k = omega (arith, time_short u.stamp)
noted_short None None h k = omega arith

pair_short : (n : ℕ) (x y : Shown) → length (shown_text x) + length (shown_text y) + length (apart_text x y) ≤ n → length (pair_text x y) ≤ n + 3
unfolding pair_text
pair_short n x y h = simp length-append (omega arith)

-- a refusal's number is a byte
pub verdict_short : (v : Verdict) {n : ℕ} → n ≡ verdict_number v → n < 256 → length (verdict_text v) ≤ 9
unfolding verdict_text verdict_number
verdict_short (Ok One) e h = omega arith
verdict_short (Ok Two) e h = omega arith
verdict_short (Err WindowTooWide) e h = omega (arith, byte_short 18 (omega arith))
verdict_short (Err (LeftRefused n)) e h = omega (arith, byte_short n (omega arith))
verdict_short (Err (RightRefused n)) e h = omega (arith, byte_short n (omega arith))

module _ (tag : ℕ) (left right : Option Sight) (ruling : Option Verdict) where
  -- what is known of the numbers in a line by their types
  pub record Sized : Type 0 where
    pub tag_fits : tag < 65536
    pub left_fits : seconds_in (noted_of left) < 4294967296
    pub right_fits : seconds_in (noted_of right) < 4294967296
    pub ruling_short : length (ruling_text ruling) ≤ 9

  line_short : Sized → length (tag_line tag left right ruling) ≤ 88
  unfolding tag_line
  line_short z =
      simp length-append
      (omega (
        arith,
        digits_within 4 tag (omega arith) (omega arith),
        pair_short 26 (noted_of left) (noted_of right) (noted_short left right z.left_fits z.right_fits),
        pair_short 36 (carried_of left) (carried_of right) (columns_short (carried_of left) (carried_of right) (carried_short left) (carried_short right)),
      ))

  pub tag_joined : {p q r s w b u : List ℕ} → Sized → p ≡ fitted (decimal tag)
      → q ≡ fitted (p ++ pair_text (noted_of left) (noted_of right)) → r ≡ fitted (q ++ (32 ∷ 124 ∷ []))
      → s ≡ fitted (r ++ pair_text (carried_of left) (carried_of right)) → w ≡ fitted (s ++ (32 ∷ 124 ∷ 32 ∷ []))
      → b ≡ fitted (w ++ ruling_text ruling) → u ≡ fitted (b ++ (10 ∷ [])) → u ≡ tag_line tag left right ruling
  unfolding tag_line
  tag_joined z ep eq er es ew eb eu =
      let n = decimal tag in
      let x = pair_text (noted_of left) (noted_of right) in
      let bar : List ℕ = 32 ∷ 124 ∷ [] in
      let y = pair_text (carried_of left) (carried_of right) in
      let last : List ℕ = 32 ∷ 124 ∷ 32 ∷ [] in
      let one = fitted_then [] n x ep eq in
      let two = fitted_then [] (n ++ x) bar one er in
      let three = fitted_then [] ((n ++ x) ++ bar) y two es in
      let four = fitted_then [] (((n ++ x) ++ bar) ++ y) last three ew in
      let five = fitted_then [] ((((n ++ x) ++ bar) ++ y) ++ last) (ruling_text ruling) four eb in
      fitted_then [] (((((n ++ x) ++ bar) ++ y) ++ last) ++ ruling_text ruling) (10 ∷ []) five eu
      ∙ simp append_assoc (fitted_short _ (omega (arith, line_short z)))
