-- What the tablet reads of a report: its segments fit together, and the bytes of a held record read back.
-- Assumes nothing.
use mathlib.Core.Path.{◌≡◌, refl, sym, ◌∙◌, ap}
use mathlib.Core.Bool.{Bool, true, false}
use mathlib.Core.List.{List, [], ◌∷◌, map}
use Prim.Native.Nat.{ℕ, zero, suc, ◌+◌, ◌≤◌, ◌<◌}
use native.Mathlib.Omega.{arith}
use borrow.Author.Tests.{ltb-true, ltb-false}
use lib.Dec.{ltb}
use lib.ListN.{length, take, drop, length-take}
use Rattle.octets.specs.Parts.{Bytes}
use Rattle.filter.specs.declared.filter.Filter.{Filter}
use Rattle.record.specs.declared.kinds.Record.{Record}
use Rattle.record_write.specs.Layout.{bytes_of}
use Rattle.record_read.specs.Reading.{read_of}
use Rattle.record_read.proofs.RoundTrip.{length_bytes}
use Rattle.table.specs.Table.{count, held, record_in, sound_b}
use Rattle.table.proofs.SlotLaws.{slot_at}
use Rattle.table_look.specs.Matching.{matching_from, matching, matches_at}
use Rattle.table_look.proofs.LookLaws.{drop_held, matching_yes, matching_no, none_left}
use Rattle.racp_access.specs.Report.{first_bytes}
use Rattle.joining.specs.Joining.{empty_joining}
use Rattle.theorems_reports.specs.Joined.{got, join_all}
use Rattle.theorems_reports.proofs.HeldLaws.{held_reads}
use Rattle.theorems_reports.proofs.BeginLaws.{accepted}
use Rattle.theorems_handed.specs.Server.{right}
use Rattle.theorems_handed.specs.Handed.{Course, assembled, HandedFrom}
use Rattle.theorems_handed.specs.Joined.{Short, EveryRecordJoined}
use Rattle.theorems_handed.proofs.HandLaws.{is_accepted, hands_over}
use Rattle.theorems_handed.proofs.JoinedLaws.{joining_assembles}
use Rattle.std.proofs.Common.{Option, Some}

-- the bytes of each record of a list read back
abbrev Reads : List Record → Type 0
Reads l = map read_of (map bytes_of l) ≡ map Some l

map_take : {A B : Type 0} (g : A → B) (n : ℕ) (l : List A) → map g (take n l) ≡ take n (map g l)
map_take g zero l = refl
map_take g (suc n) [] = refl
map_take g (suc n) (x ∷ l) = ap (◌∷◌ (g x)) (map_take g n l)

-- a record has 24 bytes at most
short_take : (n : ℕ) (l : List Record) → Short (take n (map bytes_of l))
short_take zero l = tt
short_take (suc n) [] = tt
short_take (suc n) (r ∷ l) = (omega (arith, (length_bytes r).1), short_take n l)

few_first : (l : List Record) → length (first_bytes l) < 45
unfolding first_bytes
few_first [] = omega arith
few_first (r ∷ l) = omega (arith, (length_bytes r).1)

short_whole : (w : List (List ℕ)) (n : ℕ) (l : List Record) → w ≡ take n (map bytes_of l) → Short w
short_whole w n l e = rw e (short_take n l)

few_unfinished : (u : List ℕ) (n : ℕ) (l : List Record) → u ≡ take n (first_bytes l) → length u < 45
few_unfinished u n l e = rw e (omega (arith, length-take n (first_bytes l), few_first l))

joined : (l : List Record) (c : Course) → Reads l → HandedFrom l c
    → join_all empty_joining c.notes ≡ got (map Some (take (length (assembled c.notes).whole) l)) true
joined l c r h =
    let b = h.beginning in
    let a = assembled c.notes in
    let n = length a.whole in
    joining_assembles c.notes b.fitting (short_whole a.whole n l b.whole)
    (few_unfinished a.unfinished (length a.unfinished) (drop n l) b.unfinished)
    ∙ ap (λ (x : List (Option Record)). got x true)
    (ap (map read_of) b.whole ∙ map_take read_of n (map bytes_of l) ∙ ap (take n) r ∙ sym (map_take Some n l))

reads_here : (r : Record) (l : List Record) → read_of (bytes_of r) ≡ Some r → Reads l → Reads (r ∷ l)
reads_here r l e h = rw (e, h)

-- the held records of a sound table that match, from an age on
module _ (f : Filter) (t : List ℕ) (sd : sound_b t ≡ true) (hb : Bytes t) where
  abbrev from : ℕ → List Record
  from k = matching_from f (count t) k (drop k (held t))

  reads_from : (n k : ℕ) → count t ≤ k + n → Reads (from k)
  unfolding matching_from
  reads_from zero k h = rw (none_left t k (omega arith))
  reads_from (suc n) k h = go (reads_from n (k + 1) (omega arith)) (ltb k (count t)) refl (matches_at f (count t) k (drop k (held t))) refl
    where
      go : Reads (from (k + 1)) → (i : Bool) → ltb k (count t) ≡ i → (m : Bool) → matches_at f (count t) k (drop k (held t)) ≡ m → Reads (from k)
      go later false i m e = rw (none_left t k (ltb-false k (count t) i))
      go later true i true e =
          let l = ltb-true k (count t) i in
          rw (matching_yes f (count t) k _ _ _ (drop_held t k l) e) (reads_here (record_in (slot_at t k)) (from (k + 1)) (held_reads t sd k hb l) later)
      go later true i false e = rw (matching_no f (count t) k _ _ _ (drop_held t k (ltb-true k (count t) i)) e) later

matching_reads : (f : Filter) (t : List ℕ) → sound_b t ≡ true → Bytes t → Reads (matching f t)
unfolding matching
matching_reads f t sd hb = reads_from f t sd hb (count t) 0 (omega arith)

pub every_record_joined : EveryRecordJoined right
every_record_joined v w o f ks hb a =
    let sd = (accepted v w o f hb (is_accepted v w o f a)).sound in
    joined (matching f v.table) _ (matching_reads f v.table sd hb) (hands_over v w o f ks hb a)
