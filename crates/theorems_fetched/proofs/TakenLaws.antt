-- What is received after records of a table, one after the other, were taken in by their numbers.
-- Assumes nothing.
use mathlib.Core.Path.{◌≡◌, refl, sym, ap, ap₂, ◌∙◌, subst}
use mathlib.Core.Bool.{Bool, true, false}
use mathlib.Core.List.{List, map}
use Prim.Native.Nat.{ℕ, zero, suc, ◌+◌, ◌-◌, ◌%◌, ◌≤◌, ◌<◌}
use native.Mathlib.Omega.{arith}
use borrow.Author.Tests.{le-leb, lt-leb, lt-ltb, le-ltb, leb-true, leb-false, ltb-true, ltb-false, eqb-true, eqb-false, eq-eqb, ne_eqb}
use lib.Dec.{leb, ltb, eqb}
use lib.ListN.{length, take, drop}
use Rattle.octets.specs.Choice.{both, either}
use Rattle.record.specs.Fields.{sequence_of}
use Rattle.filter.specs.Filter.{place_by_age}
use Rattle.table.specs.Table.{count, first, held, age_of, record_in, sound_b}
use Rattle.table.proofs.HeadLaws.{sound_head}
use Rattle.table.proofs.SlotLaws.{slot_at, first_small}
use Rattle.table_look.proofs.LookLaws.{drop_held, number_at_lem}
use Rattle.std.proofs.Common.{Option, Some}
use Rattle.fetch_told.specs.Told.{span, inside_b}
use Rattle.fetch_map.specs.Map.{Mapping, map_words, received_b, taken_in, take_of}
use Rattle.fetch_propose.specs.Propose.{number_at}
use Rattle.fetch_told.specs.declared.told.Span.{Span}
use Rattle.fetch_map.proofs.MapLaws.{take_done}
use Rattle.fetch_map.proofs.ReceivedLaws.{take_bit, take_words, either_false, both_true}
use Rattle.theorems_fetched.specs.Fetched.{newest_number, told_by, take_readings}
use Rattle.theorems_fetched.proofs.ProposalLaws.{told_held}

-- ---- ages in a row

-- is the age a one of the n from k on?
abbrev pub within_b : ℕ → ℕ → ℕ → Bool
within_b k n a = both (leb k a) (ltb a (k + n))

pub within_yes : (k n a : ℕ) → k ≤ a → a < k + n → within_b k n a ≡ true
within_yes k n a l h = rw (le-leb k a l, lt-ltb a (k + n) h)

within_none : (k a : ℕ) → within_b k 0 a ≡ false
within_none k a = go (leb k a) refl
  where
    go : (b : Bool) → leb k a ≡ b → both b (ltb a (k + 0)) ≡ false
    go true e = le-ltb a (k + 0) (omega (arith, leb-true k a e))
    go false e = refl

within_more : (k n a : ℕ) → either (eqb a k) (within_b (k + 1) n a) ≡ within_b k (suc n) a
within_more k n a = go (eqb a k) refl
  where
    later : (a ≡ k → ⊥) → (b : Bool) → leb k a ≡ b → leb (k + 1) a ≡ b
    later other true e = le-leb (k + 1) a (omega (arith, leb-true k a e))
    later other false e = lt-leb (k + 1) a (omega (arith, leb-false k a e))

    go : (b : Bool) → eqb a k ≡ b → either b (within_b (k + 1) n a) ≡ within_b k (suc n) a
    go true e = let q = eqb-true a k e in sym (within_yes k (suc n) a (omega arith) (omega arith))
    go false e =
        let more : k + 1 + n ≡ k + suc n = omega arith in
        ap₂ (λ (x : Bool) (y : ℕ). both x (ltb a y)) (later (eqb-false a k e) (leb k a) refl) more

-- the number k steps after f, back to its place
pub place_back : (f k : ℕ) → f < 65536 → k ≤ 1023 → place_by_age f (number_at f k) ≡ k
place_back f k hf hk = omega arith

-- the place of a number, counted from the one k steps after f
place_from : (f k s : ℕ) → f < 65536 → k ≤ 1023 → s < 65536 → place_by_age (number_at f k) s ≡ (place_by_age f s + 65536 - k) % 65536
place_from f k s hf hk hs = go (ltb (f + k) 65536) (ltb s f) refl refl
  where
    by : (x y : ℕ) → (f + k) % 65536 ≡ x → (s + 65536 - f) % 65536 ≡ y → (s + 65536 - x) % 65536 ≡ (y + 65536 - k) % 65536
        → (s + 65536 - (f + k) % 65536) % 65536 ≡ ((s + 65536 - f) % 65536 + 65536 - k) % 65536
    by x y p q e = rw (p, q) e

    go : (a b : Bool) → ltb (f + k) 65536 ≡ a → ltb s f ≡ b → (s + 65536 - (f + k) % 65536) % 65536 ≡ ((s + 65536 - f) % 65536 + 65536 - k) % 65536
    go true true p q =
        let g = ltb-true (f + k) 65536 p in
        let h = ltb-true s f q in
        by (f + k) (s + 65536 - f) (omega arith) (omega arith) (omega arith)
    go true false p q =
        let g = ltb-true (f + k) 65536 p in
        let h = ltb-false s f q in
        by (f + k) (s - f) (omega arith) (omega arith) (omega arith)
    go false true p q =
        let g = ltb-false (f + k) 65536 p in
        let h = ltb-true s f q in
        by (f + k - 65536) (s + 65536 - f) (omega arith) (omega arith) (omega arith)
    go false false p q =
        let g = ltb-false (f + k) 65536 p in
        let h = ltb-false s f q in
        by (f + k - 65536) (s - f) (omega arith) (omega arith) (omega arith)

-- the run that has the n numbers from the place k on, of numbers that begin with f
pub inside_run : (f k n s : ℕ) → f < 65536 → s < 65536 → 0 < n → k + n ≤ 1023
    → inside_b (Some (span (number_at f k) (number_at f (k + n - 1)))) s ≡ within_b k n (place_by_age f s)
unfolding inside_b
inside_run f k n s hf hs some few =
    ap₂ leb (place_from f k s hf (omega arith) hs) last ∙ by_place (place_by_age f s) (omega arith)
  where
    last : place_by_age (number_at f k) (number_at f (k + n - 1)) ≡ n - 1
    last =
        let e : (k + n - 1 + 65536 - k) % 65536 ≡ n - 1 = omega arith in
        place_from f k (number_at f (k + n - 1)) hf (omega arith) (omega arith)
        ∙ ap (λ (x : ℕ). (x + 65536 - k) % 65536) (place_back f (k + n - 1) hf (omega arith))
        ∙ e

    by_place : (p : ℕ) → p < 65536 → leb ((p + 65536 - k) % 65536) (n - 1) ≡ within_b k n p
    by_place p h = go (leb k p) (ltb p (k + n)) refl refl
      where
        go : (a b : Bool) → leb k p ≡ a → ltb p (k + n) ≡ b → leb ((p + 65536 - k) % 65536) (n - 1) ≡ both a b
        go true true x y = le-leb _ (n - 1) (omega (arith, leb-true k p x, ltb-true p (k + n) y))
        go true false x y = lt-leb _ (n - 1) (omega (arith, leb-true k p x, ltb-false p (k + n) y))
        go false b x y = lt-leb _ (n - 1) (omega (arith, leb-false k p x))

-- ---- taking in

-- Of the table t's records the n from the age k on were taken in: these are received now, every other as in m.
pub record Took (t m : List ℕ) (k n : ℕ) (x : List ℕ) : Type 0 where
  pub words : length x ≡ map_words
  pub received : (s : ℕ) → s < 65536 → received_b x s ≡ either (received_b m s) (within_b k n (age_of t s))

either_assoc : (a b c : Bool) → either (either a b) c ≡ either a (either b c)
either_assoc true b c = refl
either_assoc false b c = refl

-- a number is the one of age k exactly where its age is k
same_age : (f k s : ℕ) → f < 65536 → k ≤ 1023 → s < 65536 → eqb s (number_at f k) ≡ eqb (place_by_age f s) k
same_age f k s hf hk hs = go (eqb (place_by_age f s) k) refl
  where
    go : (b : Bool) → eqb (place_by_age f s) k ≡ b → eqb s (number_at f k) ≡ b
    go true e = let q = eqb-true (place_by_age f s) k e in eq-eqb s (number_at f k) (omega arith)
    go false e = ne_eqb s (number_at f k) (λ q. eqb-false (place_by_age f s) k e (ap (place_by_age f) q ∙ place_back f k hf hk))

module _ (t : List ℕ) (sd : sound_b t ≡ true) where
  few : count t ≤ 1023
  few = let d = sound_head t sd in omega arith

  pub inside_told : (k : ℕ) → k < count t → inside_b (told_by t) (number_at (first t) k) ≡ true
  unfolding inside_b newest_number
  inside_told k h =
      ap (λ (told : Option Span). inside_b told (number_at (first t) k)) (told_held t t sd (omega arith))
      ∙ ap₂ leb (place_back (first t) k (first_small t) (omega (arith, few))) (place_back (first t) (count t - 1) (first_small t) (omega (arith, few)))
      ∙ le-leb k (count t - 1) (omega arith)

  -- one record
  module _ (m : List ℕ) (k : ℕ) (whole : length m ≡ map_words) (h : k < count t) where
    abbrev number : ℕ
    number = number_at (first t) k

    abbrev with_one : List ℕ
    with_one = taken_in m (told_by t) number

    one_taken : (take_of m (told_by t) (sequence_of (record_in (slot_at t k)))).map ≡ with_one
    one_taken =
        ap (λ (s : ℕ). (take_of m (told_by t) s).map) (number_at_lem t k sd h)
        ∙ ap (λ (x : Mapping). x.map) (sym (take_done m (told_by t) whole number))

    one_received : (s : ℕ) → s < 65536 → received_b with_one s ≡ either (received_b m s) (eqb (age_of t s) k)
    one_received s small =
        take_bit m s number whole (omega arith) (told_by t)
        ∙ ap (λ (b : Bool). either (received_b m s) (both (eqb s number) b)) (inside_told k h)
        ∙ ap (either (received_b m s)) (both_true (eqb s number) ∙ same_age (first t) k s (first_small t) (omega (arith, few)) small)

    then : {n : ℕ} {x : List ℕ} → Took t with_one (k + 1) n x → Took t m k (suc n) x
    then {n} {x} rest =
        record {
          words = rest.words;
          received = λ s small.
              rest.received s small
              ∙ ap (λ (b : Bool). either b (within_b (k + 1) n (age_of t s))) (one_received s small)
              ∙ either_assoc (received_b m s) (eqb (age_of t s) k) (within_b (k + 1) n (age_of t s))
              ∙ ap (either (received_b m s)) (within_more k n (age_of t s));
        }

  pub takes : (n k : ℕ) (m : List ℕ) → length m ≡ map_words → k + n ≤ count t → Took t m k n (take_readings (told_by t) m (map Some (take n (drop k (held t)))))
  unfolding take_readings
  takes zero k m whole fits =
      record {
        words = whole;
        received = λ s small. sym (ap (either (received_b m s)) (within_none k (age_of t s)) ∙ either_false (received_b m s));
      }
  takes (suc n) k m whole fits =
      let h : k < count t = omega arith in
      let rest = takes n (k + 1) (with_one m k whole h) (take_words (told_by t) m (number m k whole h) ∙ whole) (omega arith) in
      let later : List ℕ → List ℕ = λ x. take_readings (told_by t) x (map Some (take n (drop (k + 1) (held t)))) in
      rw (drop_held t k h) (subst (λ (x : List ℕ). Took t m k (suc n) (later x)) (sym (one_taken m k whole h)) (then m k whole h rest))
