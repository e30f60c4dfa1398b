-- The wrong servers, each shown wrong on the computed table.
-- Assumes nothing.
use mathlib.Core.Path.{◌≡◌, refl, ap}
use mathlib.Core.Bool.{false}
use mathlib.Core.List.{List, [], ◌∷◌, ◌++◌, map}
use Prim.Native.Nat.{ℕ, ◌≤◌}
use native.Mathlib.Omega.{arith}
use lib.ListN.{length}
use Rattle.octets.specs.Numbers.{at, bytes4}
use Rattle.octets.specs.Parts.{Bytes}
use Rattle.octets.proofs.Tests.{clash}
use Rattle.filter.specs.declared.filter.Filter.TheVariants.{All}
use Rattle.theorems_reports.specs.World.{World, world, fault, disconnect, time_update}
use Rattle.racp_notify.specs.Notify.{room_b}
use Rattle.theorems_reports.specs.Reports.{asking_b, segments}
use Rattle.theorems_reports.specs.Cases.{table, reader, output, ask, asks}
use Rattle.theorems_reports.proofs.CaseLaws.{octets_b, octets_are, table_bytes_lem}
use Rattle.theorems_handed.specs.Server.{AnyCall, call, Server, Accepts, begins}
use Rattle.theorems_reports.specs.Endings.{aborted, faulted, disconnected, ended_b}
use Rattle.theorems_handed.specs.Handed.{course_by}
use Rattle.theorems_handed.specs.History.{notes_by, courses_by, notes_in}
use Rattle.theorems_handed.specs.Once.{EveryRecordOnce}
use Rattle.theorems_handed.specs.Left.{quiet_by, asked_by, LeftToFinish}
use Rattle.theorems_handed.specs.Cases.{all, abort, result_by}
use Rattle.theorems_handed.specs.Wrong as wrong
use Rattle.theorems_handed.specs.Wrong.{ShutOut}
use Rattle.theorems_handed.proofs.CaseLaws.{reader_good}

-- what was heard in all is the report's course and no more, so as many segments
module _ (s : Server) (h : EveryRecordOnce s) (a : Accepts s (world reader table) all output All) (ks : List AnyCall) where
  abbrev begun : World
  begun = begins s (world reader table) all output

  heard_more : length (notes_by s begun ks) ≡ 2 → length ((course_by s begun ks).notes ++ notes_in (courses_by s begun ks)) ≡ 1 → ⊥
  heard_more m n =
      let e = ap length (h.after (world reader table) all output All ks reader_good a) in
      omega arith

repeats : EveryRecordOnce wrong.repeats → ⊥
unfolding result_by wrong.repeats
repeats h = heard_more _ h (record { asked = refl; done = refl; silent = refl }) (map call (ask 21 ∷ abort ∷ ask 21 ∷ [])) refl refl

-- one that goes on after an ending is heard again
after_abort : EveryRecordOnce (wrong.goes_on_after aborted) → ⊥
unfolding result_by wrong.goes_on_after
after_abort h = heard_more _ h (record { asked = refl; done = refl; silent = refl }) (map call (ask 21 ∷ abort ∷ ask 20 ∷ [])) refl refl

after_fault : EveryRecordOnce (wrong.goes_on_after faulted) → ⊥
unfolding result_by wrong.goes_on_after
after_fault h = heard_more _ h (record { asked = refl; done = refl; silent = refl }) (map call (ask 21 ∷ fault output ∷ ask 20 ∷ [])) refl refl

after_disconnect : EveryRecordOnce (wrong.goes_on_after disconnected) → ⊥
unfolding result_by wrong.goes_on_after
after_disconnect h = heard_more _ h (record { asked = refl; done = refl; silent = refl }) (map call (ask 21 ∷ disconnect ∷ ask 20 ∷ [])) refl refl

-- closed, and two records of three were handed over
leaves_out_lem : EveryRecordOnce wrong.leaves_out → ⊥
unfolding result_by wrong.without_newest wrong.hiding wrong.leaves_out
leaves_out_lem h =
    let x = h.handed (world reader table) all output All (map call asks) table_bytes_lem (record { asked = refl; done = refl; silent = refl }) in
    let e : ◌≡◌ {A = ℕ} 2 3 = ap length (x.complete refl).whole in omega arith

-- the unfinished record is number 2, and its first byte is 1
mixes : EveryRecordOnce wrong.mixes → ⊥
unfolding result_by wrong.mixes
mixes h =
    let ks = map call (ask 21 ∷ ask 20 ∷ abort ∷ []) in
    let x = h.handed (world reader table) all output All ks table_bytes_lem (record { asked = refl; done = refl; silent = refl }) in
    let e : ◌≡◌ {A = ℕ} 1 2 = ap (λ (l : List ℕ). at l 0) x.beginning.unfinished in omega arith

-- the new report begins inside a record
abbrev inside : World
inside =
    let s = wrong.goes_on_inside in
    s.after (s.after (s.after (begins s (world reader table) all output) (call (ask 21))) (call (ask 20))) (call abort)

goes_on_inside_lem : EveryRecordOnce wrong.goes_on_inside → ⊥
unfolding result_by wrong.goes_on_inside
goes_on_inside_lem h =
    let x = h.handed inside all output All (call (ask 20) ∷ []) table_bytes_lem (record { asked = refl; done = refl; silent = refl }) in
    clash false x.beginning.fitting refl

-- of three records four are handed over
abbrev forced : List ℕ
forced = 3 ∷ 0x43 ∷ 0 ∷ (bytes4 800000500 ++ (4 ∷ 0 ∷ 2 ∷ 1 ∷ []))

forced_bytes : Bytes forced
unfolding octets_b
forced_bytes = octets_are forced refl

takes_in_lem : EveryRecordOnce wrong.takes_in → ⊥
unfolding result_by wrong.takes_in
takes_in_lem h =
    let ks = map call (ask 21 ∷ time_update forced output forced_bytes ∷ ask 25 ∷ ask 25 ∷ ask 25 ∷ []) in
    let x = h.handed (world reader table) all output All ks table_bytes_lem (record { asked = refl; done = refl; silent = refl }) in
    let e : 4 ≤ 3 = x.beginning.held in omega arith

-- asked for seven times, with six segments at P 20, and never closed
stops : LeftToFinish wrong.stops → ⊥
unfolding result_by wrong.stops quiet_by asked_by segments asking_b room_b
stops h =
    let ks = ask 20 ∷ ask 20 ∷ ask 20 ∷ ask 20 ∷ ask 20 ∷ ask 20 ∷ ask 20 ∷ [] in
    let e = h (world reader table) all output All ks table_bytes_lem (record { asked = refl; done = refl; silent = refl }) refl (omega arith) in
    clash _ (ap ended_b e) refl

pub shut_out : ShutOut
shut_out =
    record {
      repeats = repeats;
      leaves_out_lem = leaves_out_lem;
      mixes = mixes;
      goes_on_inside_lem = goes_on_inside_lem;
      after_abort = after_abort;
      after_fault = after_fault;
      after_disconnect = after_disconnect;
      takes_in_lem = takes_in_lem;
      stops = stops;
    }
