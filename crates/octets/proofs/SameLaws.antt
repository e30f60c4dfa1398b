-- Byte strings compared: one byte at a time, and what the answer says.
-- Assumes nothing.
use mathlib.Core.Path.{◌≡◌, refl, ◌∙◌}
use mathlib.Core.Bool.{true, false}
use mathlib.Core.List.{List, [], ◌∷◌}
use Prim.Native.Nat.{ℕ, ◌+◌, ◌≤◌, ◌<◌}
use native.Mathlib.Numerals.{add-one}
use borrow.Author.Tests.{eq-eqb, ne_eqb, eqb-true}
use lib.Dec.{eqb}
use lib.ListN.{length, drop, drop_of_length-le}
use lib.Seq.{drop-cons}
use Rattle.octets.specs.Numbers.{at}
use Rattle.octets.proofs.Tests.{both_yes, both_no, both_reads, clash}
use Rattle.octets.specs.Parts.{same_b}

module _ (a b : List ℕ) (i : ℕ) where
  pub same_step : i < length a → i < length b → at a i ≡ at b i → same_b (drop i a) (drop i b) ≡ same_b (drop (i + 1) a) (drop (i + 1) b)
  unfolding same_b
  same_step p q e = rw (add-one, drop-cons a i 0 p, drop-cons b i 0 q) (both_yes (eq-eqb (at a i) (at b i) e))

  pub same_differs : i < length a → i < length b → (at a i ≡ at b i → ⊥) → same_b (drop i a) (drop i b) ≡ false
  unfolding same_b
  same_differs p q e = rw (drop-cons a i 0 p, drop-cons b i 0 q) (both_no (eqb (at a i) (at b i)) _ (ne_eqb (at a i) (at b i) e))

  pub same_end : length a ≤ i → length b ≤ i → same_b (drop i a) (drop i b) ≡ true
  unfolding same_b
  same_end p q = rw (drop_of_length-le a p, drop_of_length-le b q)

pub same_reads : (a b : List ℕ) → same_b a b ≡ true → a ≡ b
unfolding same_b
same_reads [] [] h = refl
same_reads [] (y ∷ b) h = absurd (clash false h refl)
same_reads (x ∷ a) [] h = absurd (clash false h refl)
same_reads (x ∷ a) (y ∷ b) h =
    let r = both_reads (eqb x y) (same_b a b) h in rw (eqb-true x y r.0, same_reads a b r.1)

pub same_makes : (a : List ℕ) → same_b a a ≡ true
unfolding same_b
same_makes [] = refl
same_makes (x ∷ a) = both_yes (eq-eqb x x refl) ∙ same_makes a
