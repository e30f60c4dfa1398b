-- The theorems about reports (document 01, "RACP and notifications"): Heard report, Calm calls, and Finished report, for which a way of notifying is left open, so that wrong ways can be shown wrong.
use Rattle.std.specs.Prelude.{◌≡◌, Bool, true, false, List, [], ◌∷◌, map, ℕ, ◌+◌, ◌-◌, ◌/◌, ◌≤◌, ◌<◌, leb, ltb, eqb, length, take, Ok, Some}
use Rattle.octets.specs.Choice.{both, either}
use Rattle.octets.specs.Numbers.{bytes2}
use Rattle.octets.specs.Parts.{Bytes}
use Rattle.filter.specs.declared.filter.Filter.{Filter}
use Rattle.record_write.specs.Layout.{bytes_of}
use Rattle.record.specs.declared.kinds.Record.{Record}
use Rattle.table_look.specs.Matching.{matching}
use Rattle.rows.specs.Reply.{done_b}
use Rattle.racp_request.specs.Request.{opcode_in, request_of}
use Rattle.racp_access.specs.Access.{access_of}
use Rattle.racp_notify.specs.Notify.{room_b}
use Rattle.joining.specs.Joining.{empty_joining}
use Rattle.theorems_reports.specs.World.{World, Call, seconds, switches, disconnect, fault, time_update, record_access, notify, Notifying, world_after}
use Rattle.theorems_reports.specs.Hearing.{Hearing, hearing_by, hearing_of, undisturbed_b, all_calm_b}
use Rattle.theorems_reports.specs.Joined.{got, join_all}
use Rattle.racp_request.specs.declared.request.Request.TheVariants.{Report}

-- the bytes that answer a record access
abbrev pub response_to : World → List ℕ → List ℕ → List ℕ
response_to v w o = let u = access_of v.clock v.table w o in take u.reply.len u.output

-- A report that was accepted: "An accepted 1 or 7 is a 0 without response bytes." That the table was sound and the clock obeyed its rules
-- follows: rows 1 and 2 were passed.
pub record Accepted (v : World) (w o : List ℕ) (f : Filter) : Type 0 where
  pub asked : request_of w ≡ Ok (Report f)
  pub done : done_b (access_of v.clock v.table w o).reply.answer ≡ true
  pub silent : response_to v w o ≡ []

abbrev pub report_begun : World → List ℕ → List ℕ → World
report_begun v w o = world_after (access_of v.clock v.table w o)

-- Up to the closing response: exactly the held records that match, oldest first, once each, none refused; "06 00 01 01, or 08 00 and the
-- count of matching held records".
pub record Finished (t w : List ℕ) (f : Filter) (h : Hearing) : Type 0 where
  pub opcode : either (eqb (opcode_in w) 1) (eqb (opcode_in w) 7) ≡ true
  pub joined : join_all empty_joining h.notes ≡ got (map Some (matching f t)) true
  pub closes_1 : opcode_in w ≡ 1 → h.response ≡ 6 ∷ 0 ∷ 1 ∷ 1 ∷ []
  pub closes_7 : opcode_in w ≡ 7 → h.response ≡ 8 ∷ 0 ∷ bytes2 (length (matching f t))

-- however far a report came, no notification was refused; and once closed it is finished
pub record Hears (t w : List ℕ) (f : Filter) (h : Hearing) : Type 0 where
  pub fine : (join_all empty_joining h.notes).fine ≡ true
  pub finished : h.closed ≡ true → Finished t w f h

-- Theorem Heard report: a report heard among other calls, of which none ended it. Seconds and switches may come between its segments, and
-- writes, notifications and faults that are refused.
abbrev pub HeardReport : Type 0
HeardReport = (v : World) (w o : List ℕ) (f : Filter) (ks : List Call) → Bytes v.table → Accepted v w o f
    → undisturbed_b (report_begun v w o) ks ≡ true → Hears v.table w f (hearing_of (report_begun v w o) ks)

-- Theorem Calm calls: calls without a disconnect, a fault and an Abort end no report.
abbrev pub CalmCalls : Type 0
CalmCalls = (v : World) (w o : List ℕ) (f : Filter) (ks : List Call) → Bytes v.table → Accepted v w o f
    → all_calm_b ks ≡ true → undisturbed_b (report_begun v w o) ks ≡ true

-- notifications only, each with a payload size of 20 to 244 and an output as long
unfoldable pub asking_b : Call → Bool
asking_b (seconds n) = false
asking_b (switches a b d) = false
asking_b disconnect = false
asking_b (fault o) = false
asking_b (time_update w o h) = false
asking_b (record_access w o) = false
asking_b (notify p o) = room_b p (length o)

unfoldable pub askings_b : List Call → Bool
askings_b [] = true
askings_b (k ∷ ks) = both (asking_b k) (askings_b ks)

-- outputs that are long enough for a payload size
unfoldable pub long_b : ℕ → List (List ℕ) → Bool
long_b p [] = true
long_b p (o ∷ os) = both (leb p (length o)) (long_b p os)

-- "Each is cut into bodies of P-1 bytes, the last of 1 to P-1": how many bodies of q bytes n bytes make, and how many records in a row make
abbrev pub pieces : ℕ → ℕ → ℕ
pieces q n = (n - 1) / q + 1

unfoldable pub segments : ℕ → List Record → ℕ
segments q [] = 0
segments q (r ∷ rs) = pieces q (length (bytes_of r)) + segments q rs

-- "With P fixed and no other event, a report closes after exactly its number of segments", n: the closing response has come exactly where
-- more was asked for, and n segments before it
pub record Exact (n asked : ℕ) (h : Hearing) : Type 0 where
  pub closed : h.closed ≡ ltb n asked
  pub notes : n ≤ asked → length h.notes ≡ n

pub record FinishedFrom (n : Notifying) (v : World) (t w : List ℕ) (f : Filter) : Type 0 where
  pub heard : (ks : List Call) → askings_b ks ≡ true → Hears t w f (hearing_by n v ks)
  -- the closing response comes, at the latest after as many askings as the smallest payload size needs
  pub closes : (ks : List Call) → askings_b ks ≡ true → segments 19 (matching f t) < length ks → (hearing_by n v ks).closed ≡ true
  pub exact : (p : ℕ) (os : List (List ℕ)) → 20 ≤ p → p ≤ 244 → long_b p os ≡ true
      → Exact (segments (p - 1) (matching f t)) (length os) (hearing_by n v (map (notify p) os))

-- Theorem Finished report: an accepted report, asked for with any payload sizes.
abbrev pub FinishedReport : Notifying → Type 0
FinishedReport n = (v : World) (w o : List ℕ) (f : Filter) → Bytes v.table → Accepted v w o f → FinishedFrom n (report_begun v w o) v.table w f
