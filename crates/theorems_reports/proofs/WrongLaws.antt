-- The wrong transfers, shown wrong on the computed table: what they send is refused, or reads as other records.
-- Assumes nothing.
use mathlib.Core.Path.{◌≡◌, refl, sym, ◌∙◌, ap}
use mathlib.Core.Bool.{true, false}
use mathlib.Core.List.{List, [], ◌∷◌}
use Prim.Native.Nat.{ℕ}
use native.Mathlib.Omega.{arith}
use Rattle.octets.proofs.Tests.{clash}
use Rattle.filter.specs.declared.filter.Filter.TheVariants.{All}
use Rattle.record_read.specs.Reading.{reading_number}
use Rattle.clock.specs.declared.state.Clock.{Clock}
use Rattle.clock.specs.declared.state.Report.{Report}
use Rattle.racp_notify.specs.Notify.{room_b, Said, said_of, noticed, running_notice, notify_of, segment_of}
use Rattle.theorems_reports.specs.World.{world, Notifying}
use Rattle.theorems_reports.specs.Hearing.{hearing_by}
use Rattle.theorems_reports.specs.Joined.{Got}
use Rattle.theorems_reports.specs.Reports.{report_begun, asking_b, askings_b, Finished, FinishedReport}
use Rattle.theorems_reports.specs.Cases.{table, reader, output, asks, result_by}
use Rattle.theorems_reports.specs.Wrong.{way, said_by, notice_by, notify_by, right_way, rising, empty_cut, repeated_cut, early_cut, restarting, staying, again, ShutOut}
use Rattle.theorems_reports.proofs.CaseLaws.{table_bytes_lem, table_accepted}
use Rattle.record.specs.declared.kinds.Record.{Record}
use Rattle.std.proofs.Common.{None, Option, Some}

-- the right way is the right one
right_said : (c : Clock) (t : List ℕ) (q : ℕ) (r : Report) (l : Option (ℕ × ℕ)) → said_by right_way c t q r l ≡ said_of c t q r l
unfolding said_by said_of
right_said c t q r None = refl
right_said c t q r (Some (number, sent)) = refl

right_notice : (c : Clock) (t : List ℕ) (p : ℕ) (o : List ℕ) (x : Option Report) → notice_by right_way c t p o x ≡ running_notice c t p o x
unfolding notice_by running_notice
right_notice c t p o None = refl
right_notice c t p o (Some r) = ap (λ (s : Said). noticed s o) (right_said c t _ r r.left)

right : (c : Clock) (t : List ℕ) (p : ℕ) (o : List ℕ) → notify_by right_way c t p o ≡ notify_of c t p o
unfolding notify_by notify_of
right c t p o = rw (right_notice c t p o c.running)

askings : askings_b asks ≡ true
unfolding askings_b asking_b room_b
askings = refl

-- the number of the first reading: 11 where its bytes are no record
abbrev first_number : List (Option Record) → ℕ
first_number [] = 0
first_number (r ∷ l) = reading_number r

-- what would have to hold of the computed report
module _ (n : Notifying) (h : FinishedReport n) where
  finish : (hearing_by n (report_begun (world reader table) (1 ∷ 1 ∷ []) output) asks).closed ≡ true
      → Finished table (1 ∷ 1 ∷ []) All (hearing_by n (report_begun (world reader table) (1 ∷ 1 ∷ []) output) asks)
  finish c = ((h (world reader table) (1 ∷ 1 ∷ []) output All table_bytes_lem table_accepted).heard asks askings).finished c

  not_refused : (result_by n (1 ∷ 1 ∷ []) asks).closed ≡ true → (result_by n (1 ∷ 1 ∷ []) asks).got.fine ≡ false → ⊥
  unfolding result_by
  not_refused c f = clash _ (ap (λ (g : Got). g.fine) (finish c).joined) f

  reads : (result_by n (1 ∷ 1 ∷ []) asks).closed ≡ true → first_number (result_by n (1 ∷ 1 ∷ []) asks).got.records ≡ 11 → ⊥
  unfolding result_by
  reads c f = let e : ◌≡◌ {A = ℕ} 0 11 = sym (ap (λ (g : Got). first_number g.records) (finish c).joined) ∙ f in omega arith

empty : FinishedReport (notify_by (way empty_cut rising)) → ⊥
unfolding result_by notify_by notice_by said_by empty_cut
empty h = not_refused _ h refl refl

repeated : FinishedReport (notify_by (way repeated_cut rising)) → ⊥
unfolding result_by notify_by notice_by said_by repeated_cut
repeated h = reads _ h refl refl

early : FinishedReport (notify_by (way early_cut rising)) → ⊥
unfolding result_by notify_by notice_by said_by early_cut
early h = not_refused _ h refl refl

restarts : FinishedReport (notify_by (way segment_of restarting)) → ⊥
unfolding result_by notify_by notice_by said_by restarting
restarts h = not_refused _ h refl refl

stays : FinishedReport (notify_by (way segment_of staying)) → ⊥
unfolding result_by notify_by notice_by said_by staying
stays h = not_refused _ h refl refl

again_out : FinishedReport again → ⊥
unfolding result_by again
again_out h = clash _ ((h (world reader table) (1 ∷ 1 ∷ []) output All table_bytes_lem table_accepted).heard asks askings).fine refl

pub shut_out : ShutOut
shut_out =
    record {
      right = right;
      empty = empty;
      repeated = repeated;
      early = early;
      restarts = restarts;
      stays = stays;
      again = again_out;
    }
