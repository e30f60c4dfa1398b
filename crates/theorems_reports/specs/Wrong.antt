-- Wrong transfers that Finished report shuts out (document 01, "What the drivers hold each promise to"): "a transfer that sends its first
-- segment rightly and then empty or repeated ones", and others.
use Rattle.std.specs.Prelude.{◌≡◌, true, false, List, [], ◌∷◌, ℕ, ◌-◌, eqb, take, drop, None, Option, Some, Err}
use Rattle.octets.specs.Choice.{pick}
use Rattle.table.specs.Table.{held, age_of}
use Rattle.clock.specs.State.{with_running}
use Rattle.clock.specs.declared.state.Clock.{Clock}
use Rattle.clock.specs.declared.state.Report.{Report}
use Rattle.rows.specs.Reply.{done_b}
use Rattle.rows.specs.Rows.{first_failed}
use Rattle.racp_access.specs.Report.{report, first_bytes}
use Rattle.racp_notify.specs.Notify.{notify_rows, header_of, counter_after, last_b, segment_of, left_after, closing_of, Said, said, Notice, notice, unsaid, noticed, notify_of}
use Rattle.theorems_reports.specs.World.{Notifying}
use Rattle.theorems_reports.specs.Reports.{FinishedReport}
use Rattle.clock.specs.declared.answers.Refusal.TheVariants.{NothingRunning}

-- A transfer by how it cuts a segment (body, bytes sent, counter, the record's bytes) and by the counter after it (what is left, the counter).
-- All else is as it should be: the rows, which record is next, how many of its bytes count as sent, the closing response.
pub record Way : Type 0 where
  pub cut : ℕ → ℕ → ℕ → List ℕ → List ℕ
  pub count : Option (ℕ × ℕ) → ℕ → ℕ

abbrev pub way : (ℕ → ℕ → ℕ → List ℕ → List ℕ) → (Option (ℕ × ℕ) → ℕ → ℕ) → Way
way x y = record { cut = x; count = y }

unfoldable pub said_by : Way → Clock → List ℕ → ℕ → Report → Option (ℕ × ℕ) → Said
said_by y c t q r None = said true (with_running c None) (closing_of t r)
said_by y c t q r (Some (number, sent)) =
    let b = first_bytes (drop (age_of t number) (held t)) in
    let rest = left_after r.filter t q number sent b in
    said false
    (with_running c (Some (report r.opcode r.filter (y.count rest r.counter) rest)))
    (y.cut q sent r.counter b)

unfoldable pub notice_by : Way → Clock → List ℕ → ℕ → List ℕ → Option Report → Notice
notice_by y c t p o None = unsaid (Err NothingRunning) c o
notice_by y c t p o (Some r) = noticed (said_by y c t (p - 1) r r.left) o

unfoldable pub notify_by : Way → Notifying
notify_by y c t p o =
    let a = first_failed (notify_rows c t p o) in
    pick (done_b a) (notice_by y c t p o c.running) (unsaid a c o)

-- the right way
abbrev pub rising : Option (ℕ × ℕ) → ℕ → ℕ
rising rest k = counter_after k

abbrev pub right_way : Way
right_way = way segment_of rising

-- the first segment rightly, then empty ones
unfoldable pub empty_cut : ℕ → ℕ → ℕ → List ℕ → List ℕ
empty_cut q sent k b = header_of (eqb sent 0) (last_b q sent b) k ∷ pick (eqb sent 0) (take q b) []

-- the first segment rightly, then its body again
unfoldable pub repeated_cut : ℕ → ℕ → ℕ → List ℕ → List ℕ
repeated_cut q sent k b = header_of (eqb sent 0) (last_b q sent b) k ∷ take q b

-- the last bit set before the last segment
unfoldable pub early_cut : ℕ → ℕ → ℕ → List ℕ → List ℕ
early_cut q sent k b = header_of (eqb sent 0) true k ∷ take q (drop sent b)

-- a counter that starts at 0 with each record, and one that stays
unfoldable pub restarting : Option (ℕ × ℕ) → ℕ → ℕ
restarting None k = counter_after k
restarting (Some (number, sent)) k = pick (eqb sent 0) 0 (counter_after k)

unfoldable pub staying : Option (ℕ × ℕ) → ℕ → ℕ
staying rest k = k

-- the same segment again and again, since the clock stays as it is
unfoldable pub again : Notifying
again c t p o =
    let n = notify_of c t p o in
    notice (record { answer = n.reply.answer; closes = n.reply.closes; clock = c; len = n.reply.len }) n.output

pub record ShutOut : Type 0 where
  pub right : (c : Clock) (t : List ℕ) (p : ℕ) (o : List ℕ) → notify_by right_way c t p o ≡ notify_of c t p o
  pub empty : FinishedReport (notify_by (way empty_cut rising)) → ⊥
  pub repeated : FinishedReport (notify_by (way repeated_cut rising)) → ⊥
  pub early : FinishedReport (notify_by (way early_cut rising)) → ⊥
  pub restarts : FinishedReport (notify_by (way segment_of restarting)) → ⊥
  pub stays : FinishedReport (notify_by (way segment_of staying)) → ⊥
  pub again : FinishedReport again → ⊥
