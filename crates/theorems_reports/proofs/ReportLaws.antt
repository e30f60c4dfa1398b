-- The theorems about reports, from what an accepted record access begins.
-- Assumes nothing.
use mathlib.Core.Path.{◌≡◌, ◌∙◌, ap}
use mathlib.Core.Bool.{true}
use mathlib.Core.List.{List, [], ◌∷◌, map}
use Prim.Native.Nat.{ℕ}
use native.Mathlib.Omega.{arith}
use lib.ListN.{length}
use Rattle.octets.specs.Numbers.{bytes2}
use Rattle.octets.specs.Parts.{Bytes}
use Rattle.filter.specs.declared.filter.Filter.{Filter}
use Rattle.table.specs.Table.{sound_b}
use Rattle.table_look.specs.Matching.{matching}
use Rattle.clock.specs.Obeys.{opcode_b}
use Rattle.codes.specs.Response.{code_of, code_bytes, count_bytes}
use Rattle.racp_request.specs.Request.{opcode_in}
use Rattle.racp_notify.specs.Notify.{notify_of}
use Rattle.joining.specs.Joining.{empty_joining}
use Rattle.theorems_reports.specs.Hearing.{Hearing}
use Rattle.theorems_reports.specs.Joined.{got, join_all}
use Rattle.theorems_reports.specs.Reports.{report_begun, Finished, HeardReport, CalmCalls, FinishedReport}
use Rattle.theorems_reports.specs.Closing.{QuietCalls, ClosingReport}
use Rattle.theorems_reports.proofs.RequestLaws.{request_report}
use Rattle.theorems_reports.proofs.JoinLaws.{synced_empty}
use Rattle.theorems_reports.proofs.RunLaws.{ending}
use Rattle.theorems_reports.proofs.HeardLaws.{Holds, holds}
use Rattle.theorems_reports.proofs.BeginLaws.{accepted}
use Rattle.theorems_reports.proofs.CloseLaws.{closes_soon, exactly}
use Rattle.theorems_reports.proofs.CalmLaws.{quiet_undisturbed, calm_quiet, askings_calm}
use Rattle.theorems_reports.proofs.AmongLaws.{closes_among}
use Rattle.record.specs.declared.kinds.Record.{Record}
use Rattle.std.proofs.Common.{Option, Some}

-- the closing response in the paper's numbers
module _ (t : List ℕ) (sd : sound_b t ≡ true) (hb : Bytes t) (f : Filter) where
  ending_1 : (opcode : ℕ) → opcode ≡ 1 → ending t sd hb opcode f ≡ 6 ∷ 0 ∷ 1 ∷ 1 ∷ []
  unfolding ending code_bytes code_of
  ending_1 opcode e = rw e

  ending_7 : (opcode : ℕ) → opcode ≡ 7 → ending t sd hb opcode f ≡ 8 ∷ 0 ∷ bytes2 (length (matching f t))
  unfolding ending count_bytes
  ending_7 opcode e = rw e

finished : (t w : List ℕ) (sd : sound_b t ≡ true) (hb : Bytes t) (f : Filter) (h : Hearing)
    → opcode_b (opcode_in w) ≡ true → Holds t sd hb (opcode_in w) f empty_joining (matching f t) h → h.closed ≡ true → Finished t w f h
unfolding opcode_b
finished t w sd hb f h k s c =
    record {
      opcode = k;
      joined = ap (λ (l : List (Option Record)). got l (join_all empty_joining h.notes).fine) (s.all c) ∙ ap (got (map Some (matching f t))) s.fine;
      closes_1 = λ e. s.response c ∙ ending_1 t sd hb f (opcode_in w) e;
      closes_7 = λ e. s.response c ∙ ending_7 t sd hb f (opcode_in w) e;
    }

pub heard_report : HeardReport
heard_report v w o f ks hb a u =
    let b = accepted v w o f hb a in
    let s = holds v.table b.sound hb (opcode_in w) f ks b.clock 0 0 (matching f v.table) empty_joining b.runs (synced_empty _ 0) (rw b.is at u) in
    rw b.is (record { fine = s.fine; finished = finished v.table w b.sound hb f _ (request_report w f a.asked) s })

pub quiet_calls : QuietCalls
quiet_calls v w o f ks hb a h =
    let b = accepted v w o f hb a in
    rw b.is (quiet_undisturbed v.table b.sound hb (opcode_in w) f ks b.clock 0 0 (matching f v.table) b.runs (rw b.is at h))

pub calm_calls : CalmCalls
calm_calls v w o f ks hb a h = quiet_calls v w o f ks hb a (calm_quiet ks (report_begun v w o) h)

pub closing_report : ClosingReport
closing_report v w o f ks hb a u =
    let b = accepted v w o f hb a in
    rw b.is (closes_among v.table b.sound hb (opcode_in w) f ks b.clock (matching f v.table) b.runs (rw b.is at u))

pub finished_report : FinishedReport notify_of
finished_report v w o f hb a =
    let b = accepted v w o f hb a in
    record {
      heard = λ ks h. heard_report v w o f ks hb a (calm_calls v w o f ks hb a (askings_calm ks h));
      closes = λ ks h n. rw b.is (closes_soon v.table b.sound hb (opcode_in w) f ks h b.clock 0 (matching f v.table) b.runs n);
      exact = λ p os least most h.
          rw b.is (exactly v.table b.sound hb (opcode_in w) f p (omega arith) (omega arith) os h b.clock 0 (matching f v.table) b.runs);
    }
