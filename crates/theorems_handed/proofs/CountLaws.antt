-- What is handed over, by number: the ages of the records that match rise, so each number occurs as often as it is asked for.
-- Assumes nothing.
use mathlib.Core.Path.{◌≡◌, refl, sym, ◌∙◌, ap}
use mathlib.Core.Bool.{Bool, true, false}
use mathlib.Core.List.{List, [], ◌∷◌, map}
use Prim.Native.Nat.{ℕ, zero, suc, ◌+◌, ◌≤◌, ◌<◌}
use native.Mathlib.Omega.{arith}
use borrow.Author.Tests.{le-leb, leb-true, ne_eqb, eqb-true}
use lib.Dec.{leb, eqb}
use lib.ListN.{length, take, drop}
use Rattle.octets.proofs.Tests.{both_yes, both_reads}
use Rattle.filter.specs.Filter.{matches_b}
use Rattle.filter.specs.declared.filter.Filter.{Filter}
use Rattle.record.specs.Fields.{sequence_of}
use Rattle.record.specs.declared.kinds.Record.{Record}
use Rattle.record.specs.declared.kinds.Record.TheVariants.{TimeUpdate, TimeFault}
use Rattle.record_write.specs.Layout.{bytes_of, update_bytes, fault_bytes}
use Rattle.table.specs.Table.{count, held, age_of, record_in, sound_b}
use Rattle.table.proofs.SlotLaws.{slot_at}
use Rattle.table_look.specs.Matching.{matching_from, matching}
use Rattle.table_look.proofs.LookLaws.{drop_held, none_left, number_at_lem, age_held}
use Rattle.racp_notify.specs.Notify.{bit}
use Rattle.theorems_handed.specs.Handed.{Course, HandedFrom, assembled}
use Rattle.theorems_handed.specs.Counted.{number_in, times, asked_from, rising_b, Counted}

-- a record's number stands first in its bytes
number_first : (r : Record) → sequence_of r < 65536 → number_in (bytes_of r) ≡ sequence_of r
unfolding sequence_of bytes_of update_bytes fault_bytes
number_first (TimeUpdate u) h = omega arith
number_first (TimeFault f) h = omega arith

-- among the first j of records, by their bytes, no number occurs more often
times_take : (n j : ℕ) (l : List (List ℕ)) → times n (map number_in (take j l)) ≤ times n (map number_in l)
unfolding times
times_take n zero l = omega arith
times_take n (suc j) [] = omega arith
times_take n (suc j) (b ∷ l) = omega (arith, times_take n j l)

-- rising, of the first and the rest
rising_reads : (k a : ℕ) (l : List ℕ) → rising_b k (a ∷ l) ≡ true → (k ≤ a) × (rising_b (a + 1) l ≡ true)
unfolding rising_b
rising_reads k a l h = let z = both_reads (leb k a) (rising_b (a + 1) l) h in (leb-true k a z.0, z.1)

rising_makes : (k a : ℕ) (l : List ℕ) → k ≤ a → rising_b (a + 1) l ≡ true → rising_b k (a ∷ l) ≡ true
unfolding rising_b
rising_makes k a l h z = both_yes (le-leb k a h) ∙ z

rising_less : (k : ℕ) (l : List ℕ) → rising_b (k + 1) l ≡ true → rising_b k l ≡ true
unfolding rising_b
rising_less k [] h = refl
rising_less k (a ∷ l) h = let z = rising_reads (k + 1) a l h in rising_makes k a l (omega arith) z.1

module _ (age : ℕ → ℕ) where
  rising_take : (k j : ℕ) (l : List (List ℕ)) → rising_b k (map age (map number_in l)) ≡ true
      → rising_b k (map age (map number_in (take j l))) ≡ true
  unfolding rising_b
  rising_take k zero l h = refl
  rising_take k (suc j) [] h = refl
  rising_take k (suc j) (b ∷ l) h =
      let a = age (number_in b) in
      let z = rising_reads k a (map age (map number_in l)) h in
      rising_makes k a (map age (map number_in (take j l))) z.0 (rising_take (a + 1) j l z.1)

  -- a number that is older than all of them is none of them
  rising_none : (n k : ℕ) (l : List ℕ) → rising_b k (map age l) ≡ true → age n < k → times n l ≡ 0
  unfolding times
  rising_none n k [] h o = refl
  rising_none n k (x ∷ l) h o =
      let z = rising_reads k (age x) (map age l) h in
      let later = rising_none n (age x + 1) l z.1 (omega arith) in
      rw (ne_eqb x n (λ e. omega (arith, ap age e))) (omega arith)

module _ (f : Filter) (t : List ℕ) where
  -- the numbers in the bytes of those that match, of records in a row, the first of them of age k
  abbrev matched : ℕ → List Record → List ℕ
  matched k l = map number_in (map bytes_of (matching_from f (count t) k l))

  -- their ages rise, and each number occurs as often as it is asked for
  record Row (k : ℕ) (l : List Record) : Type 0 where
    rising : rising_b k (map (age_of t) (matched k l)) ≡ true
    asked : (n : ℕ) → times n (matched k l) ≡ bit (asked_from f (count t) n k l)

  -- a record of age k before younger ones; its own number is none of theirs
  module _ (k : ℕ) (r : Record) (l : List Record) (z : Row (k + 1) l)
      (number : number_in (bytes_of r) ≡ sequence_of r) (age : age_of t (sequence_of r) ≡ k) where
    rises : (m : Bool) → matches_b f (count t) k (sequence_of r) ≡ m → rising_b k (map (age_of t) (matched k (r ∷ l))) ≡ true
    unfolding matching_from
    rises true e = rw (e, number, age) (rising_makes k k (map (age_of t) (matched (k + 1) l)) (omega arith) z.rising)
    rises false e = rw e (rising_less k (map (age_of t) (matched (k + 1) l)) z.rising)

    none : (n : ℕ) → eqb (sequence_of r) n ≡ true → times n (matched (k + 1) l) ≡ 0
    none n q =
        let a = ap (age_of t) (eqb-true (sequence_of r) n q) in
        rising_none (age_of t) n (k + 1) (matched (k + 1) l) z.rising (omega (arith, age, a))

    same : (n : ℕ) → eqb (sequence_of r) n ≡ true → matches_b f (count t) k n ≡ matches_b f (count t) k (sequence_of r)
    same n q = ap (matches_b f (count t) k) (sym (eqb-true (sequence_of r) n q))

    counts : (n : ℕ) (m : Bool) → matches_b f (count t) k (sequence_of r) ≡ m → (b : Bool) → eqb (sequence_of r) n ≡ b
        → times n (matched k (r ∷ l)) ≡ bit (asked_from f (count t) n k (r ∷ l))
    unfolding matching_from asked_from times
    counts n true e true q = rw (e, number, q, none n q, same n q ∙ e)
    counts n false e true q = rw (e, q, same n q ∙ e) (none n q)
    counts n true e false q = rw (e, number, q) (omega (arith, z.asked n))
    counts n false e false q = rw (e, q) (z.asked n)

    here : Row k (r ∷ l)
    here = record { rising = rises _ refl; asked = λ n. counts n _ refl _ refl }

  -- so it is of the held records of a sound table from any age on, of which n are left
  row : sound_b t ≡ true → (n k : ℕ) → k + n ≡ count t → Row k (drop k (held t))
  unfolding matching_from rising_b times asked_from
  row sd zero k e = rw (none_left t k (omega arith)) (record { rising = refl; asked = λ n. refl })
  row sd (suc n) k e =
      let h : k < count t = omega arith in
      let number = number_first (record_in (slot_at t k)) (omega (arith, number_at_lem t k sd h)) in
      rw (drop_held t k h) (here k _ _ (row sd n (k + 1) (omega arith)) number (age_held t k sd h))

-- handed over are the first j of those that match, and all of them once it is closed
pub counted : (f : Filter) (t : List ℕ) (c : Course) → sound_b t ≡ true → HandedFrom (matching f t) c → Counted f t c
unfolding matching
counted f t c sd x =
    let z = row f t sd (count t) 0 (omega arith) in
    let l = map bytes_of (matching f t) in
    let j = length (assembled c.notes).whole in
    record {
      order = rw x.beginning.whole (rising_take (age_of t) 0 j l z.rising);
      most = λ n. rw (x.beginning.whole, ← z.asked n) (times_take n j l);
      once = λ e n. ap (λ (w : List (List ℕ)). times n (map number_in w)) (x.complete e).whole ∙ z.asked n;
    }
