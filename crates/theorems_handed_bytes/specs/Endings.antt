-- One call over bytes: what is heard of a report, and how the call ends it. By the definitions by value: only results and outputs are read
-- here.
use Rattle.std.specs.Prelude.{List, [], ◌∷◌, ◌++◌, map}
use Rattle.octets.specs.Choice.{pick}
use Rattle.theorems_reports.specs.Hearing.{Heard, nothing}
use Rattle.theorems_handed.specs.Server.{AnyCall}
use Rattle.theorems_handed.specs.Server as calls
use Rattle.theorems_reports.specs.Endings.{Ending, ongoing}
use Rattle.theorems_handed.specs.Endings.{ending_any}
use Rattle.theorems_bytes.specs.World.{ByteWorld, EntryCall, start, call, entered_at, call_of}
use Rattle.theorems_bytes.specs.Reports.{heard_at}
use Rattle.theorems_bytes.specs.Stamps.{done_at}

-- The same by value: the call, or none where clock and table are only read.
unfoldable pub entry_by : EntryCall → List AnyCall
entry_by start = calls.start ∷ []
entry_by (call k) = map calls.call (call_of k)

unfoldable pub entries_of : List EntryCall → List AnyCall
entries_of [] = []
entries_of (k ∷ ks) = entry_by k ++ entries_of ks

-- of a report only notifications are heard
unfoldable pub heard_entry : ByteWorld → EntryCall → Heard
heard_entry b start = nothing
heard_entry b (call k) = heard_at b k

-- how the call by value ends a report; where there is none, it goes on
abbrev pub ending_first : List AnyCall → Ending
ending_first [] = ongoing
ending_first (k ∷ ks) = ending_any k

abbrev pub ending_entry : EntryCall → Ending
ending_entry k = ending_first (entry_by k)

-- a call whose result is a refusal ends nothing
abbrev pub ending_at : ByteWorld → EntryCall → Ending
ending_at b k = pick (done_at (entered_at b k).result) (ending_entry k) ongoing
