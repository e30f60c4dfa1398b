-- Every record once, carried over to the tablet's joining.
use Rattle.std.specs.Prelude.{◌≡◌, true, List, [], ◌∷◌, map, ℕ, ◌≤◌, ◌<◌, length, take, Some}
use Rattle.octets.specs.Parts.{Bytes}
use Rattle.filter.specs.declared.filter.Filter.{Filter}
use Rattle.record.specs.Fields.{most_bytes}
use Rattle.record_read.specs.Reading.{read_of}
use Rattle.table_look.specs.Matching.{matching}
use Rattle.joining.specs.Joining.{empty_joining}
use Rattle.theorems_reports.specs.World.{World}
use Rattle.theorems_reports.specs.Joined.{got, join_all}
use Rattle.theorems_handed.specs.Server.{AnyCall, Server, Accepts, begins}
use Rattle.theorems_handed.specs.Handed.{course_by, assembled}

-- each has 45 bytes at most
abbrev pub Short : List (List ℕ) → Type 0
Short [] = Unit {0}
Short (b ∷ l) = (length b ≤ most_bytes) × Short l

-- Joining is assembling: of any segments that fit together, make no record longer than 45 bytes and leave fewer than 45 unfinished, none is
-- refused, and what the tablet reads are the whole records.
abbrev pub JoiningAssembles : Type 0
JoiningAssembles = (ns : List (List ℕ)) → (assembled ns).fitting ≡ true → Short (assembled ns).whole → length (assembled ns).unfinished < most_bytes
    → join_all empty_joining ns ≡ got (map read_of (assembled ns).whole) true

-- So of a report: no segment is refused, and read are the first of the matching records, as many as were handed over whole.
abbrev pub EveryRecordJoined : Server → Type 0
EveryRecordJoined s = (v : World) (w o : List ℕ) (f : Filter) (ks : List AnyCall) → Bytes v.table → Accepts s v w o f
    → (let c = course_by s (begins s v w o) ks in
    join_all empty_joining c.notes ≡ got (map Some (take (length (assembled c.notes).whole) (matching f v.table))) true)
