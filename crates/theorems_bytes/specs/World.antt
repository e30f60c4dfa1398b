-- The reader as the C radio firmware calls it: state and table are two buffers, and each entry point leaves in them what the next finds.
use Rattle.std.specs.Prelude.{List, [], ◌∷◌, ◌++◌, ℕ, ℤ, pos}
use Rattle.octets.specs.Parts.{Bytes}
use Rattle.clock.specs.Events.{seconds_of, switches_of, disconnect_of}
use Rattle.update.specs.Fault.{fault_of}
use Rattle.update.specs.TimeUpdate.{update_of}
use Rattle.characteristics.specs.Value.{device_time_of}
use Rattle.racp_access.specs.Access.{access_of}
use Rattle.racp_notify.specs.Notify.{Notice, notify_of}
use Rattle.rows.specs.Reply.{Outcome}
use Rattle.state_bytes.specs.State.{image_of}
use Rattle.server_bytes.specs.Results.{result_of, closing_length, Ran}
use Rattle.server_bytes.specs.Start.{start_at}
use Rattle.server_bytes.specs.Events.{on_b, seconds_at, switches_at, disconnect_at}
use Rattle.server_bytes.specs.Calls.{Called, called, fault_at, dtcp_at, racp_at, notify_at}
use Rattle.server_bytes.specs.ValuesRead.{device_time_at}
use Rattle.theorems_reports.specs.World.{World, new_world, Call, run_of}
use Rattle.theorems_reports.specs.World as calls

pub record ByteWorld : Type 0 where
  pub state : List ℕ
  pub table : List ℕ

abbrev pub byte_world : List ℕ → List ℕ → ByteWorld
byte_world s t = record { state = s; table = t }

-- Every entry point that is lent the state of a started reader, with what else it is lent: o is the output, w a write, p a payload size. A
-- write is bytes. But for `dts_start`, below, the other entry points are lent neither, or the table to read alone.
pub data ByteCall : Type 0 where
  seconds : (n : ℕ) → ByteCall
  switches : (dtcp racp log : ℕ) → ByteCall
  disconnect : ByteCall
  fault : (o : List ℕ) → ByteCall
  dtcp_write : (w o : List ℕ) → Bytes w → ByteCall
  racp_write : (w o : List ℕ) → Bytes w → ByteCall
  notify : (p : ℕ) (o : List ℕ) → ByteCall
  device_time : (o : List ℕ) → ByteCall

-- the whole outcome of a call; without an output its bytes are none
abbrev pub ran_with : List ℕ → Ran → Called
ran_with t r = called r.result r.state t []

unfoldable pub called_at : ByteWorld → ByteCall → Called
called_at b (seconds n) = ran_with b.table (seconds_at b.state n)
called_at b (switches x y z) = ran_with b.table (switches_at b.state x y z)
called_at b disconnect = ran_with b.table (disconnect_at b.state)
called_at b (fault o) = fault_at b.state b.table o
called_at b (dtcp_write w o h) = dtcp_at b.state b.table w o
called_at b (racp_write w o h) = racp_at b.state b.table w o
called_at b (notify p o) = notify_at b.state b.table p o
called_at b (device_time o) =
    let r = device_time_at b.state b.table o in
    called r.result b.state b.table r.output

unfoldable pub step_at : ByteWorld → ByteCall → ByteWorld
step_at b k = byte_world (called_at b k).state (called_at b k).table

unfoldable pub run_at : ByteWorld → List ByteCall → ByteWorld
run_at b [] = b
run_at b (k ∷ ks) = run_at (step_at b k) ks

-- One of the calls in a history: `dts_start` over the same two buffers, or a call of the started reader.
pub data EntryCall : Type 0 where
  start : EntryCall
  call : ByteCall → EntryCall

unfoldable pub entered_at : ByteWorld → EntryCall → Called
entered_at b start = let r = start_at b.state b.table in called r.result r.state r.table []
entered_at b (call k) = called_at b k

unfoldable pub enter_at : ByteWorld → EntryCall → ByteWorld
enter_at b k = byte_world (entered_at b k).state (entered_at b k).table

unfoldable pub history_at : ByteWorld → List EntryCall → ByteWorld
history_at b [] = b
history_at b (k ∷ ks) = history_at (enter_at b k) ks

-- the two buffers after `dts_start`
abbrev pub started_at : List ℕ → List ℕ → ByteWorld
started_at s t = byte_world (start_at s t).state (start_at s t).table

-- The same by value: the call, or none where clock and table are only read,
unfoldable pub call_of : ByteCall → List Call
call_of (seconds n) = calls.seconds n ∷ []
call_of (switches x y z) = calls.switches (on_b x) (on_b y) (on_b z) ∷ []
call_of disconnect = calls.disconnect ∷ []
call_of (fault o) = calls.fault o ∷ []
call_of (dtcp_write w o h) = calls.time_update w o h ∷ []
call_of (racp_write w o h) = calls.record_access w o ∷ []
call_of (notify p o) = calls.notify p o ∷ []
call_of (device_time o) = []

unfoldable pub calls_of : List ByteCall → List Call
calls_of [] = []
calls_of (k ∷ ks) = call_of k ++ calls_of ks

-- and what it says: the number of bytes or minus the refusal's number, and the output
pub record Said : Type 0 where
  pub result : ℤ
  pub output : List ℕ

abbrev pub said : ℤ → List ℕ → Said
said z o = record { result = z; output = o }

abbrev pub said_by : Outcome → Said
said_by u = said (result_of u.reply.answer u.reply.len) u.output

abbrev pub notice_by : Notice → Said
notice_by n = said (result_of n.reply.answer (closing_length n.reply.closes n.reply.len)) n.output

unfoldable pub said_of : World → ByteCall → Said
said_of v (seconds n) = said (result_of (seconds_of v.clock n).answer 0) []
said_of v (switches x y z) = said (result_of (switches_of v.clock (on_b x) (on_b y) (on_b z)).answer 0) []
said_of v disconnect = said (result_of (disconnect_of v.clock).answer 0) []
said_of v (fault o) = said_by (fault_of v.clock v.table o)
said_of v (dtcp_write w o h) = said_by (update_of v.clock v.table w o)
said_of v (racp_write w o h) = said_by (access_of v.clock v.table w o)
said_of v (notify p o) = notice_by (notify_of v.clock v.table p o)
said_of v (device_time o) = said_by (device_time_of v.clock v.table o)

-- the image of a world: its clock's image, and its table
abbrev pub image_in : World → ByteWorld
image_in v = byte_world (image_of v.clock) v.table

-- the whole outcome of a call by value, as an entry point would leave it
unfoldable pub called_of : World → ByteCall → Called
called_of v k =
    let after = run_of v (call_of k) in
    called (said_of v k).result (image_of after.clock) after.table (said_of v k).output

-- The same in a history: a start makes a new reader of the table's buffer.
unfoldable pub entry_of : World → EntryCall → World
entry_of v start = new_world v.table
entry_of v (call k) = run_of v (call_of k)

unfoldable pub history_of : World → List EntryCall → World
history_of v [] = v
history_of v (k ∷ ks) = history_of (entry_of v k) ks

unfoldable pub entered_of : World → EntryCall → Called
entered_of v start = let after = new_world v.table in called (pos 0) (image_of after.clock) after.table []
entered_of v (call k) = called_of v k

-- all outcomes in a row
unfoldable pub outcomes_at : ByteWorld → List EntryCall → List Called
outcomes_at b [] = []
outcomes_at b (k ∷ ks) = entered_at b k ∷ outcomes_at (enter_at b k) ks

unfoldable pub outcomes_of : World → List EntryCall → List Called
outcomes_of v [] = []
outcomes_of v (k ∷ ks) = entered_of v k ∷ outcomes_of (entry_of v k) ks

-- the calls of a history since its last start; `all` where it has none
unfoldable pub since_start : List ByteCall → List EntryCall → List ByteCall
since_start all [] = all
since_start all (start ∷ ks) = since_start [] ks
since_start all (call k ∷ ks) = since_start (all ++ (k ∷ [])) ks
