-- The theorems about reports (document 01, "RACP and notifications") as the C side sees them: of results, outputs and the tablet's 48 bytes
-- alone.
use Rattle.std.specs.Prelude.{◌≡◌, Bool, true, false, not, List, [], ◌∷◌, map, ℕ, ◌-◌, ◌≤◌, ◌<◌, ltb, eqb, ℤ, pos, negsuc, length, take, replicate, Ok}
use Rattle.octets.specs.Choice.{both, either, pick}
use Rattle.octets.specs.Numbers.{bytes2}
use Rattle.octets.specs.Parts.{part, Bytes}
use Rattle.filter.specs.declared.filter.Filter.{Filter}
use Rattle.record.specs.declared.kinds.Record.{Record}
use Rattle.table.specs.Table.{size_b}
use Rattle.table_look.specs.Matching.{matching}
use Rattle.racp_request.specs.Request.{opcode_in, request_of}
use Rattle.racp_notify.specs.Notify.{room_b}
use Rattle.state_bytes.specs.State.{state_bytes}
use Rattle.state_bytes.specs.JoiningState.{joining_bytes}
use Rattle.tablet_bytes.specs.Calls.{join_at, fields_in, ReadNumbers, reading, read_at}
use Rattle.theorems_reports.specs.Hearing.{Heard, nothing, segment, closing, Hearing, hearing, onward, all_calm_b}
use Rattle.theorems_reports.specs.Reports.{askings_b, long_b, segments, Exact}
use Rattle.theorems_reports.specs.Closing.{heard_b, unless_closing, Closes}
use Rattle.theorems_bytes.specs.World.{ByteWorld, ByteCall, seconds, switches, disconnect, fault, dtcp_write, racp_write, notify, device_time, called_at, step_at, EntryCall, history_at, started_at, call_of, calls_of}
use Rattle.theorems_bytes.specs.Stamps.{done_at}
use Rattle.racp_request.specs.declared.request.Request.TheVariants.{Report}

-- a notification by its result: so many bytes of the output, "+ 256 where these bytes close the report"
abbrev pub heard_from : ℤ → List ℕ → Heard
heard_from (pos n) o = pick (ltb n 256) (segment (take n o)) (closing (take (n - 256) o))
heard_from (negsuc n) o = nothing

unfoldable pub heard_at : ByteWorld → ByteCall → Heard
heard_at b (seconds n) = nothing
heard_at b (switches x y z) = nothing
heard_at b disconnect = nothing
heard_at b (fault o) = nothing
heard_at b (dtcp_write w o h) = nothing
heard_at b (racp_write w o h) = nothing
heard_at b (notify p o) = heard_from (called_at b (notify p o)).result (called_at b (notify p o)).output
heard_at b (device_time o) = nothing

unfoldable pub hearing_at : ByteWorld → List ByteCall → Hearing
hearing_at b [] = hearing [] false []
hearing_at b (k ∷ ks) = let rest = hearing_at (step_at b k) ks in onward (heard_at b k) rest

-- Notifications fed in order to `dts_join`: what `dts_read` then gives of each whole record, over the eleven numbers e; was none refused?
pub record GotAt : Type 0 where
  pub numbers : List ReadNumbers
  pub fine : Bool

abbrev pub got_at : List ReadNumbers → Bool → GotAt
got_at n f = record { numbers = n; fine = f }

-- "0 more to come, 1 to 45: a whole record of that length stands in joining", from its byte 3 on
abbrev pub add_at : List ℕ → List ℕ → ℤ → GotAt → GotAt
add_at e j (pos n) g = pick (eqb n 0) g (got_at (read_at (part j 3 n) e ∷ g.numbers) g.fine)
add_at e j (negsuc n) g = got_at g.numbers false

unfoldable pub join_all_at : List ℕ → List ℕ → List (List ℕ) → GotAt
join_all_at e j [] = got_at [] true
join_all_at e j (n ∷ ns) =
    let rest = join_all_at e (join_at j n).joining ns in
    add_at e (join_at j n).joining (join_at j n).result rest

-- what `dts_read` gives of a record's bytes
abbrev pub shown_of : Record → ReadNumbers
shown_of r = reading (pos 0) (fields_in r)

-- a report that was accepted: the result is 0
pub record AcceptedAt (b : ByteWorld) (w o : List ℕ) (hw : Bytes w) (f : Filter) : Type 0 where
  pub asked : request_of w ≡ Ok (Report f)
  pub zero : (called_at b (racp_write w o hw)).result ≡ pos 0

-- However far a report came, no notification was refused, from a joining state of zeros; and once closed the numbers are those of exactly
-- the held records that match, oldest first, once each; "06 00 01 01, or 08 00 and the count of matching held records".
pub record HearsAt (e t w : List ℕ) (f : Filter) (h : Hearing) : Type 0 where
  pub fine : (join_all_at e (replicate joining_bytes 0) h.notes).fine ≡ true
  pub all : h.closed ≡ true → (join_all_at e (replicate joining_bytes 0) h.notes).numbers ≡ map shown_of (matching f t)
  pub closes_1 : h.closed ≡ true → opcode_in w ≡ 1 → h.response ≡ 6 ∷ 0 ∷ 1 ∷ 1 ∷ []
  pub closes_7 : h.closed ≡ true → opcode_in w ≡ 7 → h.response ≡ 8 ∷ 0 ∷ bytes2 (length (matching f t))

-- A call that ends no report: neither a disconnect, nor a fault, nor an Abort; or one of these that is refused.
abbrev pub quiet_at : ByteWorld → ByteCall → Bool
quiet_at b k = either (all_calm_b (call_of k)) (not (done_at (called_at b k).result))

unfoldable pub all_quiet_at : ByteWorld → List ByteCall → Bool
all_quiet_at b [] = true
all_quiet_at b (k ∷ ks) = both (quiet_at b k) (all_quiet_at (step_at b k) ks)

-- the payload size that a call names
abbrev pub size_at : ByteCall → ℕ
size_at (seconds n) = 0
size_at (switches x y z) = 0
size_at disconnect = 0
size_at (fault o) = 0
size_at (dtcp_write w o h) = 0
size_at (racp_write w o h) = 0
size_at (notify p o) = p
size_at (device_time o) = 0

-- The payload sizes of the notifications whose result is no refusal, in their order, up to the closing response and with it.
unfoldable pub answered_at : ByteWorld → List ByteCall → List ℕ
answered_at b [] = []
answered_at b (k ∷ ks) =
    let rest = unless_closing (heard_at b k) (answered_at (step_at b k) ks) in
    pick (heard_b (heard_at b k)) (size_at k ∷ rest) rest

-- an asking: a notification with a payload size of 20 to 244 and an output as long
abbrev pub asking_at : ByteCall → Bool
asking_at (seconds n) = false
asking_at (switches x y z) = false
asking_at disconnect = false
asking_at (fault o) = false
asking_at (dtcp_write w o h) = false
asking_at (racp_write w o h) = false
asking_at (notify p o) = room_b p (length o)
asking_at (device_time o) = false

unfoldable pub asked_at : ByteWorld → List ByteCall → List ℕ
asked_at b [] = []
asked_at b (k ∷ ks) =
    let rest = unless_closing (heard_at b k) (asked_at (step_at b k) ks) in
    pick (asking_at k) (size_at k ∷ rest) rest

-- at b a report was accepted
pub record ReportsAt (b : ByteWorld) (w o : List ℕ) (hw : Bytes w) (f : Filter) : Type 0 where
  -- heard among any calls without a disconnect, a fault and an Abort, but those that are refused
  pub heard : (e : List ℕ) (ks : List ByteCall) → all_quiet_at (step_at b (racp_write w o hw)) ks ≡ true
      → HearsAt e b.table w f (hearing_at (step_at b (racp_write w o hw)) ks)
  -- among the same calls it closes: with P fixed after exactly its number of segments, with any sizes after at most so many
  pub closing : (ks : List ByteCall) → all_quiet_at (step_at b (racp_write w o hw)) ks ≡ true
      → Closes (matching f b.table) (answered_at (step_at b (racp_write w o hw)) ks) (asked_at (step_at b (racp_write w o hw)) ks)
      (hearing_at (step_at b (racp_write w o hw)) ks)
  -- a call without a disconnect, a fault and an Abort is quiet whatever comes of it
  pub calm : (ks : List ByteCall) → all_calm_b (calls_of ks) ≡ true → all_quiet_at (step_at b (racp_write w o hw)) ks ≡ true
  -- the closing response comes, at the latest after as many askings as the smallest payload size needs
  pub closes : (ks : List ByteCall) → askings_b (calls_of ks) ≡ true → segments 19 (matching f b.table) < length (calls_of ks)
      → (hearing_at (step_at b (racp_write w o hw)) ks).closed ≡ true
  -- "With P fixed and no other event, a report closes after exactly its number of segments"
  pub exact : (p : ℕ) (os : List (List ℕ)) → 20 ≤ p → p ≤ 244 → long_b p os ≡ true
      → Exact (segments (p - 1) (matching f b.table)) (length os) (hearing_at (step_at b (racp_write w o hw)) (map (notify p) os))

-- Theorem Finished report, over bytes, from start.
abbrev pub FinishedReportAt : Type 0
FinishedReportAt = (s t : List ℕ) (before : List EntryCall) (w o : List ℕ) (hw : Bytes w) (f : Filter) → length s ≡ state_bytes
    → size_b (length t) ≡ true → AcceptedAt (history_at (started_at s t) before) w o hw f → ReportsAt (history_at (started_at s t) before) w o hw f
