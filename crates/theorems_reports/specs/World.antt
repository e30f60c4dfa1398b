-- The reader as its radio calls it: "Clock and log go from each call to the next as the call left them" (document 01, "Carrying a stamp").
use Rattle.std.specs.Prelude.{Bool, List, [], ◌∷◌, ℕ}
use Rattle.octets.specs.Parts.{Bytes}
use Rattle.clock.specs.Events.{seconds_of, switches_of, disconnect_of}
use Rattle.clock.specs.declared.state.Clock.{Clock}
use Rattle.rows.specs.Reply.{Outcome}
use Rattle.update.specs.Start.{new_reader_of}
use Rattle.update.specs.Fault.{fault_of}
use Rattle.update.specs.TimeUpdate.{update_of}
use Rattle.racp_access.specs.Access.{access_of}
use Rattle.racp_notify.specs.Notify.{Notice, notify_of}

pub record World : Type 0 where
  pub clock : Clock
  pub table : List ℕ

abbrev pub world : Clock → List ℕ → World
world c t = record { clock = c; table = t }

-- A new reader: the clock and the table that the start call leaves of a buffer. A buffer that it refuses is the table as it was.
abbrev pub new_world : List ℕ → World
new_world t = let b = new_reader_of t in world b.event.clock b.table

-- Every call of the server with what it is lent: o is the output, w a write, p a payload size. A write to the DTCP is bytes.
pub data Call : Type 0 where
  seconds : ℕ → Call
  switches : Bool → Bool → Bool → Call
  disconnect : Call
  fault : (o : List ℕ) → Call
  time_update : (w o : List ℕ) → Bytes w → Call
  record_access : (w o : List ℕ) → Call
  notify : (p : ℕ) (o : List ℕ) → Call

-- clock and table after a call that takes both
abbrev pub world_after : Outcome → World
world_after u = world u.reply.clock u.table

-- how notifications are made: `notify_of`, or a wrong way that a theorem shuts out
abbrev pub Notifying : Type 0
Notifying = Clock → List ℕ → ℕ → List ℕ → Notice

unfoldable pub step_by : Notifying → World → Call → World
step_by n v (seconds k) = world (seconds_of v.clock k).clock v.table
step_by n v (switches a b d) = world (switches_of v.clock a b d).clock v.table
step_by n v disconnect = world (disconnect_of v.clock).clock v.table
step_by n v (fault o) = world_after (fault_of v.clock v.table o)
step_by n v (time_update w o h) = world_after (update_of v.clock v.table w o)
step_by n v (record_access w o) = world_after (access_of v.clock v.table w o)
step_by n v (notify p o) = world (n v.clock v.table p o).reply.clock v.table

abbrev pub step_of : World → Call → World
step_of = step_by notify_of

unfoldable pub run_of : World → List Call → World
run_of v [] = v
run_of v (k ∷ ks) = run_of (step_of v k) ks
