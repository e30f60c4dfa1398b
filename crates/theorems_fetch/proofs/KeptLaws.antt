-- The map and what is true of each record go on alike, step by step.
-- Assumes nothing.
use mathlib.Core.Path.{◌≡◌, refl, sym, ap, ap₂, ◌∙◌}
use mathlib.Core.Bool.{Bool, true, false}
use mathlib.Core.List.{List, [], ◌∷◌}
use Prim.Native.Nat.{ℕ, zero, suc, ◌/◌, ◌%◌, ◌≤◌, ◌<◌}
use native.Mathlib.Omega.{arith}
use borrow.Author.Tests.{eq-eqb, ne_eqb, eqb-true, eqb-false}
use lib.Dec.{eqb}
use lib.ListN.{length, replicate, length-replicate}
use Rattle.octets.specs.Choice.{both, either}
use Rattle.octets.specs.Numbers.{at}
use Rattle.octets.proofs.Tests.{both_no, both_not, both_reads, false_by, clash}
use Rattle.fetch_word.specs.Bits.{bit_b}
use Rattle.fetch_word.proofs.BitLaws.{half_bit}
use Rattle.fetch_told.specs.Told.{inside_b}
use Rattle.fetch_map.specs.Map.{Mapping, received_b, inside_from, taken_in}
use Rattle.fetch_map.proofs.MapLaws.{inside_length, tell_done, take_done}
use Rattle.fetch_map.proofs.ReceivedLaws.{tell_bit, take_words, take_bit}
use Rattle.theorems_fetch.specs.History.{Range, untold, Step, telling, taking, number_of, told_of, tell, take, map_from, last_from, new_map, map_of, last_of, held_b, kept_from, kept_b, Follows, FairFrom, Fair}
use Rattle.theorems_fetch.proofs.RangeLaws.{Holds, held_reads, not_held, inside_near}

-- What holds after each step: `kept` says of each record whether it is kept, and none is that is not held.
pub record Alike (m : List ℕ) (r : Range) (kept : ℕ → Bool) : Type 0 where
  pub words : length m ≡ 1024
  pub slots : r.held ≤ 1023
  pub bit : (k : ℕ) → held_b r k ≡ true → received_b m (number_of k) ≡ kept k
  pub clear : (s : ℕ) → s < 65536 → inside_b (told_of r) s ≡ false → received_b m s ≡ false
  pub held : (k : ℕ) → held_b r k ≡ false → kept k ≡ false

-- ---- s is told after r, and no number of a record that is new in it is received

module _ (m : List ℕ) (r s : Range) (kept : ℕ → Bool) (a : Alike m r kept) (slots : s.held ≤ 1023)
    (fresh : (k : ℕ) → held_b s k ≡ true → held_b r k ≡ false → received_b m (number_of k) ≡ false) where
  told_is : inside_from (told_of s) 0 m ≡ tell m (told_of s)
  told_is = ap (λ (x : Mapping). x.map) (tell_done m (told_of s) a.words)

  told_words : length (tell m (told_of s)) ≡ 1024
  told_words = ap length (sym told_is) ∙ inside_length (told_of s) 0 m ∙ a.words

  told_bit : (n : ℕ) → n < 65536 → received_b (tell m (told_of s)) n ≡ both (received_b m n) (inside_b (told_of s) n)
  told_bit n l = ap (λ (x : List ℕ). received_b x n) (sym told_is) ∙ tell_bit (told_of s) m n a.words l

  old_or_new : (k : ℕ) → held_b s k ≡ true → received_b m (number_of k) ≡ kept k
  old_or_new k h = go (held_b r k) refl
    where
      go : (t : Bool) → held_b r k ≡ t → received_b m (number_of k) ≡ kept k
      go true e = a.bit k e
      go false e = fresh k h e ∙ sym (a.held k e)

  tells : Alike (tell m (told_of s)) s (λ k. both (kept k) (held_b s k))
  tells = record {
    words = told_words;
    slots = slots;
    bit = λ k h.
        let p = held_reads s k h in
        told_bit (number_of k) (omega arith) ∙ ap₂ both (old_or_new k h) (inside_near s k (omega arith) (omega arith) (omega arith));
    clear = λ n l o. told_bit n l ∙ both_not (received_b m n) o;
    held = λ k o. both_not (kept k) o;
  }

-- fewer than 64,514 new ones: their numbers are none of r's
follows_fresh : (n : ℕ) → n ≤ 64514 → (m : List ℕ) (r s : Range) (kept : ℕ → Bool) → Alike m r kept → Follows n r s
    → (k : ℕ) → held_b s k ≡ true → held_b r k ≡ false → received_b m (number_of k) ≡ false
follows_fresh n most m r s kept a f k h o =
    let p = held_reads s k h in
    a.clear (number_of k) (omega arith) (inside_near r k (omega arith) (omega arith) (omega arith) ∙ o)

-- ---- record k is taken in, whose number lies inside exactly when it is held

-- two held records are the same where their numbers are
same_record : (r : Range) (j k : ℕ) → r.held ≤ 1023 → Holds r j → Holds r k → eqb (number_of j) (number_of k) ≡ eqb k j
same_record r j k few p q = go (eqb k j) refl
  where
    go : (t : Bool) → eqb k j ≡ t → eqb (number_of j) (number_of k) ≡ t
    go true e = let same = eqb-true k j e in eq-eqb (number_of j) (number_of k) (omega arith)
    go false e = ne_eqb (number_of j) (number_of k) (λ s. eqb-false k j e (omega arith))

module _ (m : List ℕ) (r : Range) (kept : ℕ → Bool) (a : Alike m r kept) (k : ℕ) (near : inside_b (told_of r) (number_of k) ≡ held_b r k) where
  took_is : taken_in m (told_of r) (number_of k) ≡ take m (told_of r) (number_of k)
  took_is = ap (λ (x : Mapping). x.map) (take_done m (told_of r) a.words (number_of k))

  took_words : length (take m (told_of r) (number_of k)) ≡ 1024
  took_words = ap length (sym took_is) ∙ take_words (told_of r) m (number_of k) ∙ a.words

  took_bit : (s : ℕ) → received_b (take m (told_of r) (number_of k)) s ≡ either (received_b m s) (both (eqb s (number_of k)) (held_b r k))
  took_bit s =
      ap (λ (x : List ℕ). received_b x s) (sym took_is)
      ∙ take_bit m s (number_of k) a.words (omega arith) (told_of r)
      ∙ ap (λ (t : Bool). either (received_b m s) (both (eqb s (number_of k)) t)) near

  this_record : (j : ℕ) → held_b r j ≡ true → both (eqb (number_of j) (number_of k)) (held_b r k) ≡ both (eqb k j) (held_b r j)
  this_record j h = go (held_b r k) refl
    where
      go : (t : Bool) → held_b r k ≡ t → both (eqb (number_of j) (number_of k)) t ≡ both (eqb k j) (held_b r j)
      go true e = ap₂ both (same_record r j k a.slots (held_reads r j h) (held_reads r k e)) (sym h)
      go false e =
          both_not (eqb (number_of j) (number_of k)) refl
          ∙ sym (both_no (eqb k j) (held_b r j) (ne_eqb k j (λ q. clash (held_b r j) h (ap (held_b r) (sym q) ∙ e))))

  other_number : (s : ℕ) → inside_b (told_of r) s ≡ false → both (eqb s (number_of k)) (held_b r k) ≡ false
  other_number s o = false_by (both (eqb s (number_of k)) (held_b r k)) (λ e.
      let p = both_reads (eqb s (number_of k)) (held_b r k) e in
      clash (inside_b (told_of r) s) (ap (inside_b (told_of r)) (eqb-true s (number_of k) p.0) ∙ near ∙ p.1) o)

  takes : Alike (take m (told_of r) (number_of k)) r (λ j. either (kept j) (both (eqb k j) (held_b r j)))
  takes = record {
    words = took_words;
    slots = a.slots;
    bit = λ j h. took_bit (number_of j) ∙ ap₂ either (a.bit j h) (this_record j h);
    clear = λ s l o. took_bit s ∙ ap₂ either (a.clear s l o) (other_number s o);
    held = λ j o. ap₂ either (a.held j o) (both_not (eqb k j) o);
  }

-- ---- a new map has no bit set

no_bit : (b : ℕ) → bit_b 0 b ≡ false
unfolding bit_b
no_bit zero = refl
no_bit (suc b) = half_bit 0 b ∙ no_bit b

no_word : (n w : ℕ) → at (replicate n 0) w ≡ 0
no_word zero w = refl
no_word (suc n) zero = refl
no_word (suc n) (suc w) = no_word n w

new_words : length new_map ≡ 1024
unfolding new_map
new_words = let none : ℕ = 0 in length-replicate 1024 none

new_bit : (s : ℕ) → received_b new_map s ≡ false
unfolding received_b new_map
new_bit s = ap (λ (x : ℕ). bit_b x (s % 64)) (no_word 1024 (s / 64)) ∙ no_bit (s % 64)

new_alike : Alike new_map untold (λ k. false)
new_alike = record {
  words = new_words;
  slots = omega arith;
  bit = λ k h. new_bit (number_of k);
  clear = λ s l o. new_bit s;
  held = λ k o. refl;
}

-- ---- the whole history, of fewer than n new records between two fetches

module _ (n : ℕ) (most : n ≤ 64514) where
  goes_on : (l : List Step) (m : List ℕ) (r : Range) (kept : ℕ → Bool) → Alike m r kept → FairFrom n r l
      → Alike (map_from tell take m r l) (last_from r l) (λ k. kept_from (kept k) r k l)
  unfolding map_from last_from kept_from
  goes_on [] m r kept a f = a
  goes_on (telling s ∷ l) m r kept a f =
      goes_on l (tell m (told_of s)) s (λ k. both (kept k) (held_b s k))
      (tells m r s kept a f.0.slots (follows_fresh n most m r s kept a f.0)) f.1
  goes_on (taking j ∷ l) m r kept a f =
      let near = f.0 in
      goes_on l (take m (told_of r) (number_of j)) r (λ k. either (kept k) (both (eqb j k) (held_b r k)))
      (takes m r kept a j (inside_near r j (omega arith) (omega arith) (omega arith))) f.1

  -- before the first telling no number lies inside
  starts : (l : List Step) (m : List ℕ) (kept : ℕ → Bool) → Alike m untold kept → Fair n l
      → Alike (map_from tell take m untold l) (last_from untold l) (λ k. kept_from (kept k) untold k l)
  unfolding map_from last_from kept_from inside_b
  starts [] m kept a f = a
  starts (telling s ∷ l) m kept a f =
      goes_on l (tell m (told_of s)) s (λ k. both (kept k) (held_b s k))
      (tells m untold s kept a f.0 (λ k h o. a.clear (number_of k) (omega arith) refl)) f.1
  starts (taking j ∷ l) m kept a f =
      starts l (take m (told_of untold) (number_of j)) (λ k. either (kept k) (both (eqb j k) (held_b untold k)))
      (takes m untold kept a j (sym (not_held untold j (λ p. omega arith)))) f

  pub alike : (l : List Step) → Fair n l → Alike (map_of tell take l) (last_of l) (kept_b l)
  alike l f = starts l new_map (λ k. false) new_alike f
