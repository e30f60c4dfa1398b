-- The told range by records instead of numbers: near it, a record's number lies inside exactly when the record does.
-- Assumes nothing.
use mathlib.Core.Path.{◌≡◌, refl, sym, ap, ◌∙◌}
use mathlib.Core.Bool.{Bool, true, false}
use Prim.Native.Nat.{ℕ, zero, suc, ◌+◌, ◌-◌, ◌≤◌, ◌<◌}
use native.Mathlib.Omega.{arith}
use borrow.Author.Tests.{ltb-true, ltb-false, leb-true, leb-false, lt-ltb, le-leb, lt-leb}
use lib.Dec.{leb, ltb, eqb-suc-zero}
use Rattle.octets.specs.Choice.{pick}
use Rattle.octets.proofs.Tests.{both_yes, both_reads, false_by}
use Rattle.filter.specs.Filter.{place_by_age}
use Rattle.std.proofs.Common.{Option, Some, None}
use Rattle.fetch_told.specs.Told.{span, inside_b, range_size}
use Rattle.fetch_told.specs.declared.told.Span.{Span}
use Rattle.theorems_fetch.specs.History.{Range, range, next, number_of, told_of, held_b}

-- ---- held, read and made

pub record Holds (r : Range) (k : ℕ) : Type 0 where
  pub from : r.first ≤ k
  pub below : k < next r

module _ (r : Range) (k : ℕ) where
  pub held_reads : held_b r k ≡ true → Holds r k
  held_reads h =
      let p = both_reads (leb r.first k) (ltb k (next r)) h in
      record { from = leb-true r.first k p.0; below = ltb-true k (next r) p.1 }

  pub held_makes : r.first ≤ k → k < next r → held_b r k ≡ true
  held_makes h l = both_yes (le-leb r.first k h) ∙ lt-ltb k (next r) l

  pub not_held : (Holds r k → ⊥) → held_b r k ≡ false
  not_held h = false_by (held_b r k) (λ e. h (held_reads e))

-- ---- how far the number of a record k lies after that of f

place_after : (f k : ℕ) → f ≤ k → k < f + 65536 → place_by_age (number_of f) (number_of k) ≡ k - f
place_after f k h l = omega arith

place_before : (f k : ℕ) → k < f → f ≤ k + 65536 → place_by_age (number_of f) (number_of k) ≡ k + 65536 - f
place_before f k h l = omega arith

-- ---- the range of h + 1 records from f on, as it is told

module _ (f h : ℕ) where
  pub told_some : told_of (range f (suc h)) ≡ Some (span (number_of f) (number_of (f + suc h - 1)))
  told_some = ap (λ (t : Bool). pick t None (Some (span (number_of f) (number_of (f + suc h - 1))))) (eqb-suc-zero h)

  module _ (few : h < 65536) where
    newest_place : place_by_age (number_of f) (number_of (f + suc h - 1)) ≡ h
    newest_place = place_after f (f + suc h - 1) (omega arith) (omega arith) ∙ omega arith

    pub range_size_lem : range_size (number_of f) (number_of (f + suc h - 1)) ≡ suc h
    unfolding range_size
    range_size_lem = omega (arith, newest_place)

    inside_some : (s : ℕ) → inside_b (told_of (range f (suc h))) s ≡ leb (place_by_age (number_of f) s) h
    unfolding inside_b
    inside_some s = ap (λ (told : Option Span). inside_b told s) told_some ∙ ap (leb (place_by_age (number_of f) s)) newest_place

-- ---- inside, by records

near : (f h k : ℕ) → h ≤ 65536 → k < f + 65536 → f + h ≤ k + 65536 → inside_b (told_of (range f h)) (number_of k) ≡ held_b (range f h) k
unfolding inside_b
near f zero k few new old = sym (not_held (range f zero) k (λ p. omega arith))
near f (suc h) k few new old = inside_some f h few (number_of k) ∙ go (ltb k f) refl
  where
    after : (t : Bool) → f ≤ k → leb (k - f) h ≡ t → t ≡ held_b (range f (suc h)) k
    after true l e = let m = leb-true (k - f) h e in sym (held_makes (range f (suc h)) k l (omega arith))
    after false l e = let m = leb-false (k - f) h e in sym (not_held (range f (suc h)) k (λ p. omega arith))

    go : (t : Bool) → ltb k f ≡ t → leb (place_by_age (number_of f) (number_of k)) h ≡ held_b (range f (suc h)) k
    go true e =
        let l = ltb-true k f e in
        rw (place_before f k l (omega arith)) (lt-leb (k + 65536 - f) h (omega arith) ∙ sym (not_held (range f (suc h)) k (λ p. omega arith)))
    go false e = let l = ltb-false k f e in rw (place_after f k l new) (after (leb (k - f) h) l refl)

pub inside_near : (r : Range) (k : ℕ) → r.held ≤ 65536 → k < r.first + 65536 → next r ≤ k + 65536 → inside_b (told_of r) (number_of k) ≡ held_b r k
inside_near r = near r.first r.held

-- a number that no held record has lies outside
outside : (f h s : ℕ) → h ≤ 65536 → s < 65536 → ((k : ℕ) → held_b (range f h) k ≡ true → number_of k ≡ s → ⊥) → inside_b (told_of (range f h)) s ≡ false
unfolding inside_b
outside f zero s few small none = refl
outside f (suc h) s few small none = false_by (inside_b (told_of (range f (suc h))) s) (λ e.
    let p = place_by_age (number_of f) s in
    let q : p ≤ h = leb-true p h (sym (inside_some f h few s) ∙ e) in
    none (f + p) (held_makes (range f (suc h)) (f + p) (omega arith) (omega arith)) (omega arith))

pub outside_none : (r : Range) (s : ℕ) → r.held ≤ 65536 → s < 65536 → ((k : ℕ) → held_b r k ≡ true → number_of k ≡ s → ⊥) → inside_b (told_of r) s ≡ false
outside_none r = outside r.first r.held
