-- Wrong servers that Every record once and Left to finish shut out: each is the right one but for what is said of it.
use Rattle.std.specs.Prelude.{Bool, true, false, not, List, ◌++◌, ℕ, ◌+◌, ◌-◌, ltb, eqb, length, take, None, Option, Some, Err}
use Rattle.octets.specs.Choice.{both, pick}
use Rattle.filter.specs.declared.filter.Filter.TheVariants.{All}
use Rattle.table.specs.Table.{count, held, age_of}
use Rattle.clock.specs.State.{with_running}
use Rattle.rows.specs.Rows.{idle_b}
use Rattle.racp_access.specs.Report.{report, first_bytes, left_from}
use Rattle.theorems_reports.specs.World.{World, world, seconds, switches, disconnect, fault, time_update, record_access, notify}
use Rattle.theorems_reports.specs.Hearing.{Heard, nothing, segment, closing}
use Rattle.theorems_reports.specs.Reports.{response_to}
use Rattle.theorems_reports.specs.Closing.{heard_b}
use Rattle.theorems_handed.specs.Server.{AnyCall, start, call, Server, after_of, answer_to, heard_to}
use Rattle.theorems_reports.specs.Endings.{Ending, ongoing, closed, aborted, faulted, disconnected, restarted}
use Rattle.theorems_handed.specs.Endings.{ending_any}
use Rattle.theorems_handed.specs.Handed.{last_set_b}
use Rattle.theorems_handed.specs.Once.{EveryRecordOnce}
use Rattle.theorems_handed.specs.Left.{LeftToFinish}
use Rattle.clock.specs.declared.state.Report.{Report}
use Rattle.clock.specs.declared.answers.Refusal.TheVariants.{NothingRunning}

-- the world with another report running
abbrev running : World → Option Report → World
running v r = world (with_running v.clock r) v.table

abbrev idle : World → Bool
idle v = idle_b v.clock.running

-- Repeats a record after an Abort: while no report runs, a notification is the first of a report of all records.
unfoldable pub repeats : Server
repeats =
    record {
      after = after_of;
      answer = answer_to;
      response = response_to;
      heard = λ v k. heard_to (pick (idle v) (running v (Some (report 1 All 0 (left_from All v.table 0)))) v) k;
    }

-- Leaves out the newest held record: closes in its place.
unfoldable pub without_newest : List ℕ → Option (ℕ × ℕ) → Option (ℕ × ℕ)
without_newest t None = None
without_newest t (Some (number, sent)) = pick (eqb (age_of t number + 1) (count t)) None (Some (number, sent))

unfoldable pub hiding : List ℕ → Option Report → Option Report
hiding t None = None
hiding t (Some r) = Some (report r.opcode r.filter r.counter (without_newest t r.left))

unfoldable pub leaves_out : Server
leaves_out =
    record {
      after = λ v k. after_of (running v (hiding v.table v.clock.running)) k;
      answer = answer_to;
      response = response_to;
      heard = λ v k. heard_to (running v (hiding v.table v.clock.running)) k;
    }

-- A segment that is not a record's last has the bytes of the oldest held record.
abbrev oldest_in : List ℕ → Heard → Heard
oldest_in t nothing = nothing
oldest_in t (segment n) = segment (pick (last_set_b n) n (take 1 n ++ take (length n - 1) (first_bytes (held t))))
oldest_in t (closing n) = closing n

unfoldable pub mixes : Server
mixes = record { after = after_of; answer = answer_to; response = response_to; heard = λ v k. oldest_in v.table (heard_to v k) }

-- is it a record access; a time update?
abbrev access_b : AnyCall → Bool
access_b start = false
access_b (call (seconds n)) = false
access_b (call (switches a b d)) = false
access_b (call disconnect) = false
access_b (call (fault o)) = false
access_b (call (time_update w o h)) = false
access_b (call (record_access w o)) = true
access_b (call (notify p o)) = false

abbrev sets_b : AnyCall → Bool
sets_b start = false
sets_b (call (seconds n)) = false
sets_b (call (switches a b d)) = false
sets_b (call disconnect) = false
sets_b (call (fault o)) = false
sets_b (call (time_update w o h)) = true
sets_b (call (record_access w o)) = false
sets_b (call (notify p o)) = false

abbrev rank_of : Ending → ℕ
rank_of ongoing = 0
rank_of closed = 1
rank_of aborted = 2
rank_of faulted = 3
rank_of disconnected = 4
rank_of restarted = 5

abbrev ends_with_b : Ending → AnyCall → Bool
ends_with_b e k = eqb (rank_of (ending_any k)) (rank_of e)

-- Goes on with the old report inside a new one: an Abort is answered as it should be, any other record access as if no report ran, and the one that
-- runs stays.
abbrev freed : World → AnyCall → World
freed v k = pick (ends_with_b aborted k) v (running v None)

unfoldable pub goes_on_inside : Server
goes_on_inside =
    record {
      after = λ v k. pick (both (access_b k) (not (idle v))) v (after_of v k);
      answer = λ v k. answer_to (pick (access_b k) (freed v k) v) k;
      response = λ v w o. response_to (freed v (call (record_access w o))) w o;
      heard = heard_to;
    }

-- Goes on after an ending e: the call is answered, and the report stays.
unfoldable pub goes_on_after : Ending → Server
goes_on_after e =
    record {
      after = λ v k. pick (ends_with_b e k) (running (after_of v k) v.clock.running) (after_of v k);
      answer = answer_to;
      response = response_to;
      heard = heard_to;
    }

-- Takes a time update while a report runs, which then hands over the new record too.
unfoldable pub takes_in : Server
takes_in =
    record {
      after = λ v k. pick (sets_b k) (running (after_of (running v None) k) v.clock.running) (after_of v k);
      answer = λ v k. answer_to (pick (sets_b k) (running v None) v) k;
      response = response_to;
      heard = heard_to;
    }

-- Stops after the first segment: no notification is answered any more.
abbrev begun_b : Option Report → Bool
begun_b None = false
begun_b (Some r) = ltb 0 r.counter

abbrev silenced_b : World → AnyCall → Bool
silenced_b v k = both (begun_b v.clock.running) (heard_b (heard_to v k))

unfoldable pub stops : Server
stops =
    record {
      after = λ v k. pick (silenced_b v k) v (after_of v k);
      answer = λ v k. pick (silenced_b v k) (Err NothingRunning) (answer_to v k);
      response = response_to;
      heard = λ v k. pick (silenced_b v k) nothing (heard_to v k);
    }

pub record ShutOut : Type 0 where
  pub repeats : EveryRecordOnce repeats → ⊥
  pub leaves_out_lem : EveryRecordOnce leaves_out → ⊥
  pub mixes : EveryRecordOnce mixes → ⊥
  pub goes_on_inside_lem : EveryRecordOnce goes_on_inside → ⊥
  pub after_abort : EveryRecordOnce (goes_on_after aborted) → ⊥
  pub after_fault : EveryRecordOnce (goes_on_after faulted) → ⊥
  pub after_disconnect : EveryRecordOnce (goes_on_after disconnected) → ⊥
  pub takes_in_lem : EveryRecordOnce takes_in → ⊥
  pub stops : LeftToFinish stops → ⊥
