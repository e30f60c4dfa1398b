-- What lies inside a told range: from the oldest number to the newest, or where that comes first, all but what lies between.
-- Assumes nothing.
use mathlib.Core.Path.{◌≡◌, refl, sym, ap, ap₂, ◌∙◌}
use Rattle.std.proofs.Common.{Some, None}
use mathlib.Core.Bool.{Bool, true, false, not}
use Prim.Native.Nat.{ℕ, ◌+◌, ◌-◌, ◌^◌, ◌≤◌, ◌<◌}
use native.Mathlib.Omega.{arith}
use borrow.Author.Tests.{le-leb, lt-leb, lt-ltb, le-ltb, ltb-true, ltb-false}
use lib.Bits.{bit_and, bit_or}
use lib.Dec.{leb, ltb}
use Rattle.octets.specs.Choice.{both, either}
use Rattle.filter.specs.Filter.{place_by_age}
use Rattle.fetch_word.specs.Bits.{word_of}
use Rattle.fetch_word.proofs.BitLaws.{bits_none, word_and, word_or, word_not, word_alike}
use Rattle.fetch_told.specs.Told.{span, inside_b, range_size}
use Rattle.fetch_told.specs.Clamp.{clamped}

-- ---- how many of a word's numbers lie below a number

pub clamped_most : (end first : ℕ) → clamped end first ≤ 64
clamped_most end first = omega arith

-- bit b of such a word is below it exactly where the number is
below_is : (end first b : ℕ) → b < 64 → ltb b (clamped end first) ≡ ltb (first + b) end
below_is end first b h = go (ltb (first + b) end) refl
  where
    go : (u : Bool) → ltb (first + b) end ≡ u → ltb b (clamped end first) ≡ u
    go true f = lt-ltb b (clamped end first) (omega (arith, ltb-true (first + b) end f))
    go false f = le-ltb b (clamped end first) (omega (arith, ltb-false (first + b) end f))

-- ---- the two kinds of range

module _ (o n s : ℕ) (ho : o < 65536) (hn : n < 65536) (hs : s < 65536) where
  pub inside_straight : o ≤ n → inside_b (Some (span o n)) s ≡ both (ltb s (n + 1)) (not (ltb s o))
  unfolding inside_b
  inside_straight h = go (ltb s o) (ltb s (n + 1)) refl refl
    where
      go : (a b : Bool) → ltb s o ≡ a → ltb s (n + 1) ≡ b → leb (place_by_age o s) (place_by_age o n) ≡ both b (not a)
      go true true p q = lt-leb (place_by_age o s) (place_by_age o n) (omega (arith, ltb-true s o p))
      go true false p q = absurd (omega (arith, ltb-true s o p, ltb-false s (n + 1) q))
      go false true p q =
          le-leb (place_by_age o s) (place_by_age o n)
          (omega (arith, ltb-false s o p, ltb-true s (n + 1) q))
      go false false p q =
          lt-leb (place_by_age o s) (place_by_age o n)
          (omega (arith, ltb-false s o p, ltb-false s (n + 1) q))

  pub inside_round : n < o → inside_b (Some (span o n)) s ≡ either (ltb s (n + 1)) (not (ltb s o))
  unfolding inside_b
  inside_round h = go (ltb s o) (ltb s (n + 1)) refl refl
    where
      go : (a b : Bool) → ltb s o ≡ a → ltb s (n + 1) ≡ b → leb (place_by_age o s) (place_by_age o n) ≡ either b (not a)
      go true true p q =
          le-leb (place_by_age o s) (place_by_age o n)
          (omega (arith, ltb-true s o p, ltb-true s (n + 1) q))
      go true false p q =
          lt-leb (place_by_age o s) (place_by_age o n)
          (omega (arith, ltb-true s o p, ltb-false s (n + 1) q))
      go false true p q = le-leb (place_by_age o s) (place_by_age o n) (omega (arith, ltb-false s o p, ltb-true s (n + 1) q))
      go false false p q = le-leb (place_by_age o s) (place_by_age o n) (omega (arith, ltb-false s o p, ltb-false s (n + 1) q))

-- a range has 1 to 65,536 numbers
pub range_some : (o n : ℕ) → 1 ≤ range_size o n
unfolding range_size
range_some o n = omega arith

pub range_most : (o n : ℕ) → range_size o n ≤ 65536
unfolding range_size
range_most o n = omega arith

-- ---- the bits of a word that lie inside

abbrev pub lowest : ℕ → ℕ → ℕ
lowest end first = word_of (λ b. ltb b (clamped end first))

module _ (o n first : ℕ) (ho : o < 65536) (hn : n < 65536) (hf : first + 64 ≤ 65536) where
  pub straight_bits : o ≤ n
      → bit_and (lowest (n + 1) first) (2 ^ 64 - 1 - lowest o first) ≡ word_of (λ b. inside_b (Some (span o n)) (first + b))
  straight_bits h =
      ap (bit_and (lowest (n + 1) first)) (word_not (λ b. ltb b (clamped o first)))
      ∙ word_and (λ b. ltb b (clamped (n + 1) first)) (λ b. not (ltb b (clamped o first)))
      ∙ word_alike _ (λ b. inside_b (Some (span o n)) (first + b)) (λ b p.
      ap₂ (λ (u v : Bool). both u (not v)) (below_is (n + 1) first b p) (below_is o first b p)
      ∙ sym (inside_straight o n (first + b) ho hn (omega arith) h))

  pub round_bits : n < o
      → bit_or (lowest (n + 1) first) (2 ^ 64 - 1 - lowest o first) ≡ word_of (λ b. inside_b (Some (span o n)) (first + b))
  round_bits h =
      ap (bit_or (lowest (n + 1) first)) (word_not (λ b. ltb b (clamped o first)))
      ∙ word_or (λ b. ltb b (clamped (n + 1) first)) (λ b. not (ltb b (clamped o first)))
      ∙ word_alike _ (λ b. inside_b (Some (span o n)) (first + b)) (λ b p.
      ap₂ (λ (u v : Bool). either u (not v)) (below_is (n + 1) first b p) (below_is o first b p)
      ∙ sym (inside_round o n (first + b) ho hn (omega arith) h))

-- none where nothing is told
pub none_bits : (first : ℕ) → 0 ≡ word_of (λ b. inside_b None (first + b))
unfolding inside_b word_of
none_bits first = sym (bits_none 64)
