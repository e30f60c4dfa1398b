-- The evening: the tablet asks a reader for all its records, joins and keeps them in a table of its own, whatever number the reader's log
-- begins with, carries the day's stamps by that table, and asks the ramp whether two are of one beast.
use Rattle.std.specs.Prelude.{Bool, true, false, List, [], ◌∷◌, ℕ, zero, suc, eqb, replicate, take, Option, Some, None}
use Rattle.octets.specs.Choice.{pick}
use Rattle.codes.specs.Racp.{report_opcode, all_records}
use Rattle.clock.specs.declared.state.Clock.{Clock}
use Rattle.update.specs.Start.{new_reader_of}
use Rattle.racp_access.specs.Access.{access_of}
use Rattle.racp_notify.specs.Notify.{least_payload, Notice, notify_of}
use Rattle.joining.specs.Joining.{empty_joining, join_of, joined_in}
use Rattle.joining.specs.declared.joining.Answer.{Answer}
use Rattle.joining.specs.declared.joining.Answer.TheVariants.{More, Whole, Refused}
use Rattle.joining.specs.declared.joining.Joining.{Joining}
use Rattle.joining.specs.declared.joining.Joined.{Joined}
use Rattle.keep.specs.Keep.{Keeping, keep_of, keeping_number}
use Rattle.carry.specs.Stamp.{carry_of}
use Rattle.ramp.specs.Beast.{Verdict, one_beast_of}
use Rattle.ramp.specs.declared.beast.Seen.{Seen as Stamped}
use Rattle.day_sheet.specs.Sheet.{seen}
use Rattle.day_sheet.specs.declared.sheet.Sight.{Sight}
use Rattle.day_play.specs.Reader.{output}
use Rattle.day_play.specs.declared.reader.Note.{Note}
use Rattle.day_play.specs.declared.reader.Reader.{Reader}
use Rattle.day_evening.specs.declared.fetch.Fetch.{Fetch}

-- no table: zeros are not sound, so that nothing more is kept in them and carrying refuses with 1
abbrev pub no_table : List ℕ
no_table = replicate 528 0

-- "a refusal changes nothing" of the table, but a record would be missing in it: the tablet then has none
abbrev pub unless_refused : Keeping → List ℕ
unless_refused k = pick (eqb (keeping_number k.answer) 0) k.table no_table

-- a whole record is kept in the tablet's own table
unfoldable pub stored_in : List ℕ → Joining → List ℕ
stored_in copy j = unless_refused (keep_of copy (joined_in j))

-- after a segment that was refused a record would be missing too
abbrev pub answered_in : List ℕ → Answer → Joining → List ℕ
answered_in copy More j = copy
answered_in copy Whole j = stored_in copy j
answered_in copy Refused j = no_table

unfoldable pub kept_in : List ℕ → Joined → List ℕ
kept_in copy j = answered_in copy j.answer j.joining

abbrev pub fetch : Clock → Joining → List ℕ → Bool → Fetch
fetch c j t b = record { clock = c; joining = j; copy = t; closed = b }

-- "1 Report Stored Records", of all; "Joining is restarted for each new report"
unfoldable pub asked_of : Clock → List ℕ → Fetch
asked_of c t = fetch (access_of c t (report_opcode ∷ all_records ∷ []) output).reply.clock empty_joining (new_reader_of (replicate 528 0)).table false

-- so many bytes are a segment, where they don't close the report
abbrev pub segment_in : Bool → ℕ → Option ℕ
segment_in closes n = pick closes None (Some n)

-- a segment is joined; the closing response ends the fetching
abbrev pub took_of : Fetch → Notice → Fetch
took_of f n =
    let x = join_of f.joining (take n.reply.len n.output) in
    pick n.reply.closes
    (fetch n.reply.clock f.joining f.copy true)
    (fetch n.reply.clock x.joining (kept_in f.copy x) false)

unfoldable pub heard_of : List ℕ → Fetch → Fetch
heard_of t f = pick f.closed f (took_of f (notify_of f.clock t least_payload output))

-- so many notifications asked for
unfoldable pub heard_all : ℕ → List ℕ → Fetch → Fetch
heard_all zero t f = f
heard_all (suc n) t f = heard_all n t (heard_of t f)

-- of a report that did not close the tablet has no table either
unfoldable pub finished_of : Fetch → List ℕ
finished_of f = pick f.closed f.copy no_table

-- a report of all records: of eight each has two segments, and one asking more closes it
unfoldable pub report_of : Reader → Fetch
report_of r = heard_all 17 r.table (asked_of r.clock r.table)

unfoldable pub fetched_of : Reader → List ℕ
fetched_of r = finished_of (report_of r)

-- what the sheet shows of a note: its stamp, and the stamp carried
unfoldable pub sight_of : Option Note → List ℕ → Option Sight
sight_of (Some n) t = seen n.stamp (carry_of n.stamp n.q t)
sight_of None t = None

-- in seconds: beasts take seconds from one antenna to the other, three to six on an ordinary day
abbrev pub window : ℕ
window = 10

-- a note, with its clock's Base_Time in the evening
abbrev pub stamped : Note → ℕ → Stamped
stamped n base = record { base = base; stamp = n.stamp; next = n.q }

-- whether two notes of a tag are of one beast; where one of them is missing there is nothing to compare
unfoldable pub ruling_of : Option Note → ℕ → List ℕ → Option Note → ℕ → List ℕ → Option Verdict
ruling_of (Some l) leftBase leftTable (Some r) rightBase rightTable =
    Some (one_beast_of (stamped l leftBase) leftTable (stamped r rightBase) rightTable window)
ruling_of (Some l) leftBase leftTable None rightBase rightTable = None
ruling_of None leftBase leftTable r rightBase rightTable = None
