-- The course of a report over bytes, all segments of a whole history, and the reports that they are of: each as by value, call by call.
use Rattle.std.specs.Prelude.{Bool, false, List, [], ◌∷◌, ℕ}
use Rattle.octets.specs.Choice.{both, pick}
use Rattle.racp_request.specs.Request.{request_of}
use Rattle.theorems_reports.specs.Endings.{ongoing}
use Rattle.theorems_handed.specs.Handed.{Course, course, until, further}
use Rattle.theorems_handed.specs.History.{segment_then, asks_report_b}
use Rattle.theorems_bytes.specs.World.{ByteWorld, seconds, switches, disconnect, fault, dtcp_write, racp_write, notify, device_time, called_at, EntryCall, start, call, enter_at}
use Rattle.theorems_bytes.specs.Stamps.{zero_at}
use Rattle.theorems_handed_bytes.specs.Endings.{heard_entry, ending_at}

-- the segments of a report up to its ending, or up to the last call
unfoldable pub course_at : ByteWorld → List EntryCall → Course
course_at b [] = course [] ongoing
course_at b (k ∷ ks) = let rest = course_at (enter_at b k) ks in further (heard_entry b k) (until (ending_at b k) rest)

-- every segment that is heard, of whatever report
unfoldable pub notes_at : ByteWorld → List EntryCall → List (List ℕ)
notes_at b [] = []
notes_at b (k ∷ ks) = let rest = notes_at (enter_at b k) ks in segment_then (heard_entry b k) rest

-- does a call begin a report: a 1 or 7 whose result is 0?
unfoldable pub begins_at : ByteWorld → EntryCall → Bool
begins_at b start = false
begins_at b (call (seconds n)) = false
begins_at b (call (switches x y z)) = false
begins_at b (call disconnect) = false
begins_at b (call (fault o)) = false
begins_at b (call (dtcp_write w o h)) = false
begins_at b (call (racp_write w o h)) = both (asks_report_b (request_of w)) (zero_at (called_at b (racp_write w o h)).result)
begins_at b (call (notify p o)) = false
begins_at b (call (device_time o)) = false

-- the courses of the reports that begin, one after another
unfoldable pub courses_at : ByteWorld → List EntryCall → List Course
courses_at b [] = []
courses_at b (k ∷ ks) =
    let after = enter_at b k in
    let rest = courses_at after ks in
    pick (begins_at b k) (course_at after ks ∷ rest) rest
