-- The held records of a sound table: a record's number tells its age, and its bytes read back.
-- Assumes nothing.
use mathlib.Core.Path.{◌≡◌, refl, ◌∙◌, ap}
use mathlib.Core.Bool.{Bool, true, false}
use mathlib.Core.List.{List, [], ◌∷◌}
use Prim.Native.Nat.{ℕ, zero, suc, ◌+◌, ◌-◌, ◌<◌, ◌≤◌}
use native.Mathlib.Omega.{arith}
use borrow.Author.Tests.{ltb-true, ltb-false}
use lib.Dec.{ltb}
use lib.ListN.{length, take, drop}
use Rattle.octets.specs.Numbers.{at}
use Rattle.octets.specs.Parts.{Bytes}
use Rattle.octets.proofs.PartLaws.{bytes_take, bytes_drop}
use Rattle.filter.specs.Filter.{matches_b}
use Rattle.filter.specs.declared.filter.Filter.{Filter}
use Rattle.record.specs.Fields.{sequence_of}
use Rattle.record_write.specs.Layout.{bytes_of, record_of}
use Rattle.record_read.specs.Reading.{well_formed_b, read_of}
use Rattle.record.specs.declared.kinds.Record.{Record}
use Rattle.record_read.proofs.RoundTrip.{write_back, length_bytes}
use Rattle.table.specs.Table.{count, oldest, slot, bytes_in, record_in, held, age_of, sound_b, steps}
use Rattle.table_look.specs.Matching.{matching_from, matches_at}
use Rattle.table.proofs.SlotLaws.{slot_at, held_slot}
use Rattle.table_look.proofs.LookLaws.{age_held, drop_held, matching_yes, matching_no, match_first, none_left, next_here, next_later, next_none}
use Rattle.racp_access.specs.Report.{first_number, left_at, left_from}
use Rattle.std.proofs.Common.{None, Option, Some}

read_well : (b : List ℕ) → well_formed_b b ≡ true → read_of b ≡ Some (record_of b)
unfolding read_of
read_well b h = rw h

pub bytes_slot : (t : List ℕ) (o : ℕ) → Bytes t → Bytes (bytes_in (slot t o))
unfolding bytes_in slot
bytes_slot t o h =
    let s = take 64 (drop o t) in bytes_take (at s 0) (drop 1 s) (bytes_drop 1 s (bytes_take 64 (drop o t) (bytes_drop o t h)))

module _ (t : List ℕ) (sd : sound_b t ≡ true) where
  -- the bytes of a held record read back as that record
  pub held_reads : (k : ℕ) → Bytes t → k < count t → read_of (bytes_of (record_in (slot_at t k))) ≡ Some (record_in (slot_at t k))
  unfolding record_in
  held_reads k hb h =
      let x = read_well (bytes_in (slot_at t k)) (held_slot t k sd h).well in
      ap read_of (write_back (bytes_in (slot_at t k)) _ (bytes_slot t (steps k (length t) (oldest t)) hb) x) ∙ x

  -- What a report has left, as a list: its next record and then those that match after it. `sent` bytes of the next one are sent.
  pub record Here (f : Filter) (number sent : ℕ) (x : Record) (rest : List Record) : Type 0 where
    pub inside : age_of t number < count t
    pub here : drop (age_of t number) (held t) ≡ x ∷ drop (age_of t number + 1) (held t)
    pub matches : matches_b f (count t) (age_of t number) number ≡ true
    pub later : rest ≡ matching_from f (count t) (age_of t number + 1) (drop (age_of t number + 1) (held t))
    pub unsent : sent < length (bytes_of x)
    pub reads : read_of (bytes_of x) ≡ Some x

  pub data Stands (f : Filter) : Option (ℕ × ℕ) → ℕ → List Record → Type 0 where
    none : Stands f None 0 []
    some : {number sent : ℕ} {x : Record} {rest : List Record} → Here f number sent x rest → Stands f (Some (number, sent)) sent (x ∷ rest)

  module _ (f : Filter) (hb : Bytes t) where
    nobody : (k : ℕ) → count t ≤ k → Stands f (left_from f t k) 0 (matching_from f (count t) k (drop k (held t)))
    unfolding left_from left_at matching_from
    nobody k h = rw (next_none f t k h, none_left t k h) none

    first_here : (k : ℕ) → k < count t → matches_at f (count t) k (drop k (held t)) ≡ true
        → Here f (sequence_of (record_in (slot_at t k))) 0 (record_in (slot_at t k)) (matching_from f (count t) (k + 1) (drop (k + 1) (held t)))
    first_here k h m =
        let e = drop_held t k h in
        let a = age_held t k sd h in
        record {
          inside = rw a h;
          here = rw a e;
          matches = rw a (match_first f (count t) k _ _ _ e ∙ m);
          later = rw a refl;
          unsent = omega (arith, (length_bytes (record_in (slot_at t k))).0);
          reads = held_reads k hb h;
        }

    found : (k : ℕ) → k < count t → matches_at f (count t) k (drop k (held t)) ≡ true
        → Stands f (left_from f t k) 0 (matching_from f (count t) k (drop k (held t)))
    unfolding left_from left_at first_number
    found k h m =
        let e = drop_held t k h in
        let x = first_here k h m in
        rw (next_here f t k h m, matching_yes f (count t) k _ _ _ e m, e) (some x)

    -- what `left_from` finds from an age on is the first of those that match
    pub left_stands : (n k : ℕ) → count t ≤ k + n → Stands f (left_from f t k) 0 (matching_from f (count t) k (drop k (held t)))
    unfolding left_from
    left_stands zero k h = nobody k (omega arith)
    left_stands (suc n) k h = go (left_stands n (k + 1) (omega arith)) (ltb k (count t)) refl _ refl
      where
        go : Stands f (left_from f t (k + 1)) 0 (matching_from f (count t) (k + 1) (drop (k + 1) (held t)))
            → (i : Bool) → ltb k (count t) ≡ i → (m : Bool) → matches_at f (count t) k (drop k (held t)) ≡ m
            → Stands f (left_from f t k) 0 (matching_from f (count t) k (drop k (held t)))
        go s false i m q = nobody k (ltb-false k (count t) i)
        go s true i true q = found k (ltb-true k (count t) i) q
        go s true i false q =
            let l = ltb-true k (count t) i in
            rw (next_later f t k l q, matching_no f (count t) k _ _ _ (drop_held t k l) q) s
