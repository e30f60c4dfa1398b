-- What the tablet hears of a report among any calls: the segments in their order, up to the closing response; and whether a call ended the
-- report before it.
use Rattle.std.specs.Prelude.{Bool, true, false, not, List, [], ◌∷◌, ℕ, take}
use Rattle.octets.specs.Choice.{both, pick}
use Rattle.rows.specs.Reply.{done_b}
use Rattle.rows.specs.Rows.{idle_b}
use Rattle.racp_notify.specs.Notify.{Notice, notify_of}
use Rattle.theorems_reports.specs.Endings.{ending_by, ended_b}
use Rattle.theorems_reports.specs.World.{World, Call, seconds, switches, disconnect, fault, time_update, record_access, notify, Notifying, step_by, step_of}

pub data Heard : Type 0 where
  nothing : Heard
  segment : List ℕ → Heard
  closing : List ℕ → Heard

-- the bytes of the output that are the segment or the closing response
abbrev pub sent_in : Notice → List ℕ
sent_in n = take n.reply.len n.output

unfoldable pub heard_in : Notice → Heard
heard_in n = pick (done_b n.reply.answer) (pick n.reply.closes (closing (sent_in n)) (segment (sent_in n))) nothing

-- of a report only notifications are heard
unfoldable pub heard_by : Notifying → World → Call → Heard
heard_by n v (seconds k) = nothing
heard_by n v (switches a b d) = nothing
heard_by n v disconnect = nothing
heard_by n v (fault o) = nothing
heard_by n v (time_update w o h) = nothing
heard_by n v (record_access w o) = nothing
heard_by n v (notify p o) = heard_in (n v.clock v.table p o)

abbrev pub heard_of : World → Call → Heard
heard_of = heard_by notify_of

-- the segments; did the closing response come; its bytes
pub record Hearing : Type 0 where
  pub notes : List (List ℕ)
  pub closed : Bool
  pub response : List ℕ

abbrev pub hearing : List (List ℕ) → Bool → List ℕ → Hearing
hearing n c r = record { notes = n; closed = c; response = r }

-- what is heard, and then the rest
abbrev pub onward : Heard → Hearing → Hearing
onward nothing h = h
onward (segment b) h = hearing (b ∷ h.notes) h.closed h.response
onward (closing b) h = hearing [] true b

unfoldable pub hearing_by : Notifying → World → List Call → Hearing
hearing_by n v [] = hearing [] false []
hearing_by n v (k ∷ ks) = let rest = hearing_by n (step_by n v k) ks in onward (heard_by n v k) rest

abbrev pub hearing_of : World → List Call → Hearing
hearing_of = hearing_by notify_of

-- Up to the closing response no call ended the report: neither a fault, nor an Abort, nor a disconnect.
abbrev pub rising_on : Heard → Bool → Bool → Bool
rising_on nothing runs rest = both runs rest
rising_on (segment b) runs rest = both runs rest
rising_on (closing b) runs rest = true

unfoldable pub undisturbed_b : World → List Call → Bool
undisturbed_b v [] = true
undisturbed_b v (k ∷ ks) =
    let rest = undisturbed_b (step_of v k) ks in
    rising_on (heard_of v k) (not (idle_b (step_of v k).clock.running)) rest

-- Calls that end no report, whatever comes of them: all but a disconnect, a fault and an Abort.
unfoldable pub calm_b : Call → Bool
unfolding ending_by
calm_b k = not (ended_b (ending_by k))

unfoldable pub all_calm_b : List Call → Bool
all_calm_b [] = true
all_calm_b (k ∷ ks) = both (calm_b k) (all_calm_b ks)
