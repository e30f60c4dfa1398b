-- A notification of the running report (document 01, "RACP and notifications"): the rows, then a segment of its next record, or the closing
-- response.
use Rattle.std.specs.Prelude.{Bool, true, false, not, List, [], ◌∷◌, ◌++◌, ℕ, ◌+◌, ◌*◌, ◌-◌, ◌%◌, leb, eqb, length, take, drop, None, Option, Some, Result, Err, Ok}
use Rattle.octets.specs.Choice.{both, pick}
use Rattle.octets.specs.Parts.{over}
use Rattle.filter.specs.declared.filter.Filter.{Filter}
use Rattle.table.specs.Table.{held, age_of}
use Rattle.table_look.specs.Matching.{matching}
use Rattle.clock.specs.State.{with_running}
use Rattle.clock.specs.declared.state.Clock.{Clock}
use Rattle.clock.specs.declared.state.Report.{Report}
use Rattle.rows.specs.Reply.{done_b}
use Rattle.rows.specs.Rows.{Row, row, first_failed, idle_b, table_rows}
use Rattle.codes.specs.Racp.{report_opcode, combined_opcode, combined_response}
use Rattle.codes.specs.Response.{code_bytes, count_bytes}
use Rattle.codes.specs.declared.response.Code.TheVariants.{Success}
use Rattle.racp_notify.specs.declared.notify.Notification.{Notification}
use Rattle.racp_notify.specs.declared.notify.Notification.TheVariants.{Segment, Closing}
use Rattle.racp_access.specs.Report.{report, first_bytes, left_from}
use Rattle.clock.specs.Answers.{Answer}
use Rattle.clock.specs.declared.answers.Refusal.{Refusal}
use Rattle.clock.specs.declared.answers.Refusal.TheVariants.{NothingRunning}

-- "payload size P outside 20 to 244"
abbrev pub least_payload : ℕ
least_payload = 20

abbrev pub greatest_payload : ℕ
greatest_payload = 244

-- row 3: "for a notification, payload size P outside 20 to 244 or output shorter than P"
unfoldable pub room_b : ℕ → ℕ → Bool
room_b p o = both (both (leb least_payload p) (leb p greatest_payload)) (leb p o)

-- rows 1, 2, 3 and 8: "notification asked for, no report running"
unfoldable pub notify_rows : Clock → List ℕ → ℕ → List ℕ → List Row
notify_rows c t p o = table_rows c t (room_b p (length o)) ++ (row (not (idle_b c.running)) (Err NothingRunning) ∷ [])

abbrev pub bit : Bool → ℕ
bit true = 1
bit false = 0

-- "Header byte: bit 0 first, bit 1 last, bits 2-7 a counter"
unfoldable pub header_of : Bool → Bool → ℕ → ℕ
header_of first last counter = bit first + 2 * bit last + 4 * counter

-- "rises by 1 per notification, 63 then 0"
abbrev pub counter_after : ℕ → ℕ
counter_after k = (k + 1) % 64

-- are b bytes all sent with a body of q bytes after the sent ones?
abbrev pub last_b : ℕ → ℕ → List ℕ → Bool
last_b q sent b = leb (length b) (sent + q)

-- "Each is cut into bodies of P-1 bytes, the last of 1 to P-1": the header and the next q bytes of b, or as many as are left
unfoldable pub segment_of : ℕ → ℕ → ℕ → List ℕ → List ℕ
segment_of q sent counter b = header_of (eqb sent 0) (last_b q sent b) counter ∷ take q (drop sent b)

-- what is left after it: the record's other bytes, or the next held record that matches
unfoldable pub left_after : Filter → List ℕ → ℕ → ℕ → ℕ → List ℕ → Option (ℕ × ℕ)
left_after f t q number sent b = pick (last_b q sent b) (left_from f t (age_of t number + 1)) (Some (number, (sent + q)))

-- "the closing response (06 00 01 01, or 08 00 and the count of matching held records)"
unfoldable pub closing_of : List ℕ → Report → List ℕ
closing_of t r =
    pick (eqb r.opcode combined_opcode)
    (count_bytes combined_response (length (matching r.filter t)))
    (code_bytes report_opcode Success)

-- what is said: does it close the report, the clock after it, the bytes
pub record Said : Type 0 where
  pub closes : Bool
  pub clock : Clock
  pub bytes : List ℕ

abbrev pub said : Bool → Clock → List ℕ → Said
said closes c b = record { closes = closes; clock = c; bytes = b }

unfoldable pub said_of : Clock → List ℕ → ℕ → Report → Option (ℕ × ℕ) → Said
said_of c t q r None = said true (with_running c None) (closing_of t r)
said_of c t q r (Some (number, sent)) =
    let b = first_bytes (drop (age_of t number) (held t)) in
    let rest = left_after r.filter t q number sent b in
    said false
    (with_running c (Some (report r.opcode r.filter (counter_after r.counter) rest)))
    (segment_of q sent r.counter b)

-- the answer; do these bytes close the report? the clock after it; so many bytes of the output are the segment or the closing response
pub record Notified : Type 0 where
  pub answer : Answer
  pub closes : Bool
  pub clock : Clock
  pub len : ℕ

-- what a call answers: a segment or the closing response, of so many bytes, or a refusal, which has none
abbrev pub said_answer : Result Notification Refusal → Answer
said_answer (Ok n) = Ok tt
said_answer (Err why) = Err why

abbrev pub said_closes : Result Notification Refusal → Bool
said_closes (Ok (Segment n)) = false
said_closes (Ok (Closing n)) = true
said_closes (Err why) = false

abbrev pub said_len : Result Notification Refusal → ℕ
said_len (Ok (Segment n)) = n
said_len (Ok (Closing n)) = n
said_len (Err why) = 0

-- and with the clock after it
abbrev pub notified_by : Result Notification Refusal → Clock → Notified
notified_by r c = record { answer = said_answer r; closes = said_closes r; clock = c; len = said_len r }

-- the answer, and the output after it
pub record Notice : Type 0 where
  pub reply : Notified
  pub output : List ℕ

abbrev pub notice : Notified → List ℕ → Notice
notice n o = record { reply = n; output = o }

-- "A refusal leaves state, log and output untouched"
abbrev pub unsaid : Answer → Clock → List ℕ → Notice
unsaid a c o = notice (record { answer = a; closes = false; clock = c; len = 0 }) o

unfoldable pub noticed : Said → List ℕ → Notice
noticed s o =
    notice (record { answer = Ok tt; closes = s.closes; clock = s.clock; len = length s.bytes }) (over o 0 s.bytes)

-- no report is running: row 8
unfoldable pub running_notice : Clock → List ℕ → ℕ → List ℕ → Option Report → Notice
running_notice c t p o None = unsaid (Err NothingRunning) c o
running_notice c t p o (Some r) = noticed (said_of c t (p - 1) r r.left) o

unfoldable pub notify_of : Clock → List ℕ → ℕ → List ℕ → Notice
notify_of c t p o =
    let a = first_failed (notify_rows c t p o) in
    pick (done_b a) (running_notice c t p o c.running) (unsaid a c o)
