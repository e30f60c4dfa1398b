-- Which numbers are received after a telling and after a taking in, bit by bit; and taking in keeps the map's words.
-- Assumes nothing.
use mathlib.Core.Path.{◌≡◌, refl, sym, ap, ◌∙◌}
use mathlib.Core.Bool.{Bool, true, false}
use Rattle.std.proofs.Common.{Option}
use mathlib.Core.List.{List, [], ◌∷◌}
use Prim.Native.Nat.{ℕ, zero, suc, ◌+◌, ◌*◌, ◌/◌, ◌%◌, ◌<◌}
use native.Mathlib.Nat.{le_of_suc-le-suc, not-suc-le-zero}
use native.Mathlib.Omega.{arith}
use borrow.Author.Tests.{eqb-true, eqb-false, eq-eqb, ne_eqb}
use lib.Dec.{eqb}
use lib.ListN.{length, set, length-set}
use lib.Seq.{get_or-set_same, get_or-set_other}
use Rattle.octets.specs.Choice.{both, either, pick}
use Rattle.octets.specs.Numbers.{at}
use Rattle.octets.proofs.Tests.{both_not}
use Rattle.fetch_word.specs.Bits.{bit_b, with_bit}
use Rattle.fetch_word.proofs.BitLaws.{word_at}
use Rattle.fetch_told.specs.Told.{inside_b}
use Rattle.fetch_map.specs.Map.{received_b, inside_from, taken_in}
use Rattle.fetch_told.specs.declared.told.Span.{Span}

-- ---- telling

-- bit b of word w, where the first word's numbers begin with s
inside_bit : (told : Option Span) (s : ℕ) (m : List ℕ) (w b : ℕ) → w < length m → b < 64
    → bit_b (at (inside_from told s m) w) b ≡ both (bit_b (at m w) b) (inside_b told (s + 64 * w + b))
unfolding inside_from
inside_bit told s [] w b h k = absurd (not-suc-le-zero h)
inside_bit told s (x ∷ m) zero b h k =
    let e : s + b ≡ s + 64 * 0 + b = omega arith in
    word_at (λ i. both (bit_b x i) (inside_b told (s + i))) b k ∙ ap (λ (n : ℕ). both (bit_b x b) (inside_b told n)) e
inside_bit told s (x ∷ m) (suc w) b h k =
    let e : s + 64 + 64 * w + b ≡ s + 64 * suc w + b = omega arith in
    inside_bit told (s + 64) m w b (le_of_suc-le-suc h) k ∙ ap (λ (n : ℕ). both (bit_b (at m w) b) (inside_b told n)) e

pub tell_bit : (told : Option Span) (m : List ℕ) (s : ℕ) → length m ≡ 1024 → s < 65536
    → received_b (inside_from told 0 m) s ≡ both (received_b m s) (inside_b told s)
unfolding received_b
tell_bit told m s whole h =
    let e : 0 + 64 * (s / 64) + s % 64 ≡ s = omega arith in
    inside_bit told 0 m (s / 64) (s % 64) (omega arith) (omega arith)
    ∙ ap (λ (n : ℕ). both (bit_b (at m (s / 64)) (s % 64)) (inside_b told n)) e

-- ---- taking in

-- with the bit of the number n set
abbrev with_number : List ℕ → ℕ → List ℕ
with_number m n = set m (n / 64) (with_bit (at m (n / 64)) (n % 64))

pub take_words : (told : Option Span) (m : List ℕ) (n : ℕ) → length (taken_in m told n) ≡ length m
unfolding taken_in
take_words told m n = go (inside_b told n)
  where
    go : (t : Bool) → length (pick t (with_number m n) m) ≡ length m
    go true = length-set m (n / 64) (with_bit (at m (n / 64)) (n % 64))
    go false = refl

pub either_false : (b : Bool) → either b false ≡ b
either_false true = refl
either_false false = refl

pub both_true : (b : Bool) → both b true ≡ b
both_true true = refl
both_true false = refl

-- two numbers of one word are the same where their bits are
same_bit : (s n : ℕ) → s / 64 ≡ n / 64 → eqb (s % 64) (n % 64) ≡ eqb s n
same_bit s n w = go (eqb s n) refl
  where
    go : (t : Bool) → eqb s n ≡ t → eqb (s % 64) (n % 64) ≡ t
    go true e = let q = eqb-true s n e in eq-eqb (s % 64) (n % 64) (omega arith)
    go false e = ne_eqb (s % 64) (n % 64) (λ q. eqb-false s n e (omega arith))

module _ (m : List ℕ) (s n : ℕ) (whole : length m ≡ 1024) (small : n < 65536) where
  set_bit : received_b (with_number m n) s ≡ either (received_b m s) (eqb s n)
  unfolding received_b with_bit
  set_bit = go (eqb (s / 64) (n / 64)) refl
    where
      x : ℕ
      x = with_bit (at m (n / 64)) (n % 64)

      go : (t : Bool) → eqb (s / 64) (n / 64) ≡ t
          → bit_b (at (with_number m n) (s / 64)) (s % 64) ≡ either (bit_b (at m (s / 64)) (s % 64)) (eqb s n)
      go true e =
          let w : s / 64 ≡ n / 64 = eqb-true (s / 64) (n / 64) e in
          rw (w, get_or-set_same m (n / 64) x 0 (omega arith))
          (word_at (λ i. either (bit_b (at m (n / 64)) i) (eqb i (n % 64))) (s % 64) (omega arith)
          ∙ ap (either (bit_b (at m (n / 64)) (s % 64))) (same_bit s n w))
      go false e =
          let other : s / 64 ≡ n / 64 → ⊥ = eqb-false (s / 64) (n / 64) e in
          rw (get_or-set_other m (n / 64) (s / 64) x 0 other, ne_eqb s n (λ q. other (omega arith)))
          (sym (either_false (bit_b (at m (s / 64)) (s % 64))))

  pub take_bit : (told : Option Span) → received_b (taken_in m told n) s ≡ either (received_b m s) (both (eqb s n) (inside_b told n))
  unfolding taken_in
  take_bit told = go (inside_b told n)
    where
      go : (t : Bool) → received_b (pick t (with_number m n) m) s ≡ either (received_b m s) (both (eqb s n) t)
      go true = rw (both_true (eqb s n)) set_bit
      go false = rw (both_not (eqb s n) refl) (sym (either_false (received_b m s)))
