-- Theorem Closing report: a report heard among other calls closes (document 01, "RACP and notifications"). Which calls end no report: theorem
-- Quiet calls.
use Rattle.std.specs.Prelude.{◌≡◌, Bool, true, false, not, List, [], ◌∷◌, ◌++◌, ℕ, ◌+◌, ◌-◌, ◌<◌, leb, eqb, length, drop}
use Rattle.octets.specs.Choice.{both, either, pick}
use Rattle.octets.specs.Parts.{Bytes}
use Rattle.filter.specs.declared.filter.Filter.{Filter}
use Rattle.record_write.specs.Layout.{bytes_of}
use Rattle.record.specs.declared.kinds.Record.{Record}
use Rattle.table.specs.Table.{size_b}
use Rattle.table_look.specs.Matching.{matching}
use Rattle.clock.specs.Events.{seconds_of, switches_of, disconnect_of}
use Rattle.rows.specs.Reply.{done_b}
use Rattle.update.specs.Fault.{fault_of}
use Rattle.update.specs.TimeUpdate.{update_of}
use Rattle.racp_access.specs.Access.{access_of}
use Rattle.racp_notify.specs.Notify.{bit, notify_of}
use Rattle.theorems_reports.specs.World.{World, new_world, Call, seconds, switches, disconnect, fault, time_update, record_access, notify, step_of, run_of}
use Rattle.theorems_reports.specs.Hearing.{Heard, nothing, segment, closing, heard_of, Hearing, hearing_of, undisturbed_b, calm_b}
use Rattle.theorems_reports.specs.Reports.{Accepted, report_begun, asking_b, segments, Exact}
use Rattle.clock.specs.Answers.{Answer}

-- what answers a call
unfoldable pub answer_of : World → Call → Answer
answer_of v (seconds n) = (seconds_of v.clock n).answer
answer_of v (switches a b d) = (switches_of v.clock a b d).answer
answer_of v disconnect = (disconnect_of v.clock).answer
answer_of v (fault o) = (fault_of v.clock v.table o).reply.answer
answer_of v (time_update w o h) = (update_of v.clock v.table w o).reply.answer
answer_of v (record_access w o) = (access_of v.clock v.table w o).reply.answer
answer_of v (notify p o) = (notify_of v.clock v.table p o).reply.answer

-- A call that ends no report: neither a disconnect, nor a fault, nor an Abort; or one of these that is refused.
abbrev pub quiet_b : World → Call → Bool
quiet_b v k = either (calm_b k) (not (done_b (answer_of v k)))

unfoldable pub all_quiet_b : World → List Call → Bool
all_quiet_b v [] = true
all_quiet_b v (k ∷ ks) = both (quiet_b v k) (all_quiet_b (step_of v k) ks)

-- Theorem Quiet calls: "A refused fault or Abort" ends nothing.
abbrev pub QuietCalls : Type 0
QuietCalls = (v : World) (w o : List ℕ) (f : Filter) (ks : List Call) → Bytes v.table → Accepted v w o f
    → all_quiet_b (report_begun v w o) ks ≡ true → undisturbed_b (report_begun v w o) ks ≡ true

-- the payload size that a call names
abbrev pub size_in : Call → ℕ
size_in (seconds n) = 0
size_in (switches a b d) = 0
size_in disconnect = 0
size_in (fault o) = 0
size_in (time_update w o h) = 0
size_in (record_access w o) = 0
size_in (notify p o) = p

-- a notification answered 0 is heard
abbrev pub heard_b : Heard → Bool
heard_b nothing = false
heard_b (segment b) = true
heard_b (closing b) = true

-- after the closing response nothing counts
abbrev pub unless_closing : Heard → List ℕ → List ℕ
unless_closing nothing l = l
unless_closing (segment b) l = l
unless_closing (closing b) l = []

-- The payload sizes of the notifications answered 0, in their order, up to the closing response and with it.
unfoldable pub answered_in : World → List Call → List ℕ
answered_in v [] = []
answered_in v (k ∷ ks) =
    let rest = unless_closing (heard_of v k) (answered_in (step_of v k) ks) in
    pick (heard_b (heard_of v k)) (size_in k ∷ rest) rest

-- The same of the askings: notifications with a payload size of 20 to 244 and an output as long.
unfoldable pub asked_in : World → List Call → List ℕ
asked_in v [] = []
asked_in v (k ∷ ks) =
    let rest = unless_closing (heard_of v k) (asked_in (step_of v k) ks) in
    pick (asking_b k) (size_in k ∷ rest) rest

-- every size is p
unfoldable pub all_of_b : ℕ → List ℕ → Bool
all_of_b p [] = true
all_of_b p (q ∷ l) = both (eqb q p) (all_of_b p l)

-- the bytes of records in a row; the bodies of segments in a row; that each has a body
unfoldable pub all_bytes : List Record → List ℕ
all_bytes [] = []
all_bytes (r ∷ l) = bytes_of r ++ all_bytes l

unfoldable pub bodies : List (List ℕ) → List ℕ
bodies [] = []
bodies (n ∷ l) = drop 1 n ++ bodies l

unfoldable pub bodied_b : List (List ℕ) → Bool
bodied_b [] = true
bodied_b (n ∷ l) = both (leb 2 (length n)) (bodied_b l)

-- b begins with a
pub record Begins (a b : List ℕ) : Type 0 where
  pub rest : List ℕ
  pub is : a ++ rest ≡ b

-- A report of the records l: ps are the payload sizes that were answered, qs those that were asked for, h is what was heard.
pub record Closes (l : List Record) (ps qs : List ℕ) (h : Hearing) : Type 0 where
  -- every asking is answered 0, and nothing else
  pub answered : ps ≡ qs
  -- each of these is a segment, or the closing response
  pub each : length ps ≡ length h.notes + bit h.closed
  -- With P the same in all of them: after as many as there are segments the next closes, and none before it.
  pub exact : (p : ℕ) → all_of_b p ps ≡ true → Exact (segments (p - 1) l) (length ps) h
  -- With any sizes: each segment sends at least one byte more of the records' bytes, in their order; all are sent where it closes. That is at
  -- the latest after as many as the smallest payload size needs, and after one for each record at the earliest.
  pub bodied : bodied_b h.notes ≡ true
  pub sends : Begins (bodies h.notes) (all_bytes l)
  pub all : h.closed ≡ true → bodies h.notes ≡ all_bytes l
  pub latest : segments 19 l < length ps → h.closed ≡ true
  pub earliest : h.closed ≡ true → length l < length ps

-- heard among the calls ks from v on
abbrev pub ClosesIn : List Record → World → List Call → Type 0
ClosesIn l v ks = Closes l (answered_in v ks) (asked_in v ks) (hearing_of v ks)

-- Theorem Closing report: an accepted report among other calls, of which none ended it.
abbrev pub ClosingReport : Type 0
ClosingReport = (v : World) (w o : List ℕ) (f : Filter) (ks : List Call) → Bytes v.table → Accepted v w o f
    → undisturbed_b (report_begun v w o) ks ≡ true → ClosesIn (matching f v.table) (report_begun v w o) ks

-- Theorem Reached closing: from start, over any calls, an accepted report among calls that end none.
abbrev pub ReachedClosing : Type 0
ReachedClosing = (t : List ℕ) (before ks : List Call) (w o : List ℕ) (f : Filter) → size_b (length t) ≡ true
    → Accepted (run_of (new_world t) before) w o f → all_quiet_b (report_begun (run_of (new_world t) before) w o) ks ≡ true
    → ClosesIn (matching f (run_of (new_world t) before).table) (report_begun (run_of (new_world t) before) w o) ks
