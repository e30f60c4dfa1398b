-- One antenna's reader over a day: each thing that happens is a call of the server, and "Clock and log go from each call to the next as the call
-- left them".
use Rattle.std.specs.Prelude.{true, Option, Some, None, List, [], ◌∷◌, ◌++◌, ℕ, ltb, replicate, set}
use Rattle.octets.specs.Choice.{both, pick}
use Rattle.octets.specs.Numbers.{bytes4}
use Rattle.table.specs.Table.{next, sound_b}
use Rattle.clock.specs.Events.{seconds_of, switches_of, disconnect_of}
use Rattle.clock.specs.declared.state.Clock.{Clock}
use Rattle.codes.specs.Dtcp.{propose_opcode}
use Rattle.rows.specs.Reply.{Outcome}
use Rattle.rows.specs.Rows.{least_output}
use Rattle.update.specs.Start.{new_reader_of}
use Rattle.update.specs.Fault.{fault_of}
use Rattle.update.specs.TimeUpdate.{update_of}
use Rattle.day_play.specs.declared.reader.Event.{Event}
use Rattle.day_play.specs.declared.reader.Event.TheVariants.{Seconds, Connect, Disconnect, Propose, Fault, Read}
use Rattle.day_play.specs.declared.reader.Note.{Note}
use Rattle.day_play.specs.declared.reader.Reader.{Reader}

-- Propose, UTC and qualified local, epoch 2000; zone 4, DST 0, GPS, accuracy 1: the fields "kept in all updates" of the paper's cases
unfoldable pub proposal_bytes : ℕ → List ℕ
proposal_bytes base = propose_opcode ∷ 0x43 ∷ 0x00 ∷ (bytes4 base ++ (4 ∷ 0 ∷ 2 ∷ 1 ∷ []))

-- the output lent with each write
abbrev pub output : List ℕ
output = replicate least_output 0

abbrev pub reader : Clock → List ℕ → List (Option Note) → Reader
reader c t n = record { clock = c; table = t; notes = n }

-- a buffer of eight slots, started; no tag was read
unfoldable pub started_of : Reader
started_of = let b = new_reader_of (replicate 528 0) in reader b.event.clock b.table (replicate 8 None)

unfoldable pub with_clock : Reader → Clock → Reader
with_clock r c = reader c r.table r.notes

-- clock and log as a call left them
abbrev pub reader_after : Reader → Outcome → Reader
reader_after r u = reader u.reply.clock u.table r.notes

unfoldable pub set_of : Reader → ℕ → Reader
set_of r base = reader_after r (update_of r.clock r.table (proposal_bytes base) output)

unfoldable pub failed_of : Reader → Reader
failed_of r = reader_after r (fault_of r.clock r.table output)

-- "a stamp (unsigned 32 bits), its next sequence number q": the clock's Base_Time and the log's next number, at the tag's place
abbrev pub note_of : Reader → Note
note_of r = record { stamp = r.clock.time.base; q = next r.table }

unfoldable pub read_of : Reader → ℕ → Reader
read_of r place =
    pick (both (ltb place 8) (sound_b r.table))
    (reader r.clock r.table (set r.notes place (Some (note_of r))))
    r

unfoldable pub lived_of : Reader → Event → Reader
lived_of r (Seconds n) = with_clock r (seconds_of r.clock n).clock
lived_of r Connect = with_clock r (switches_of r.clock true true true).clock
lived_of r Disconnect = with_clock r (disconnect_of r.clock).clock
lived_of r (Propose base) = set_of r base
lived_of r Fault = failed_of r
lived_of r (Read place) = read_of r place
