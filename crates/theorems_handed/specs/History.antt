-- All segments of a whole history, and the reports that they are of.
use Rattle.std.specs.Prelude.{Bool, true, false, List, [], ◌∷◌, ◌++◌, ℕ, eqb, length, Err, Ok, Result}
use Rattle.octets.specs.Choice.{both, pick}
use Rattle.rows.specs.Reply.{done_b}
use Rattle.racp_request.specs.Request.{request_of}
use Rattle.theorems_reports.specs.World.{World, seconds, switches, disconnect, fault, time_update, record_access, notify}
use Rattle.theorems_reports.specs.Hearing.{Heard, nothing, segment, closing}
use Rattle.theorems_handed.specs.Server.{AnyCall, start, call, Server}
use Rattle.theorems_handed.specs.Handed.{Course, course_by}
use Rattle.codes.specs.declared.response.Code.{Code}
use Rattle.racp_request.specs.declared.request.Request.{Request}
use Rattle.racp_request.specs.declared.request.Request.TheVariants.{Abort, Number, Report}

-- every segment that is heard, of whatever report
abbrev pub segment_then : Heard → List (List ℕ) → List (List ℕ)
segment_then nothing l = l
segment_then (segment b) l = b ∷ l
segment_then (closing b) l = l

unfoldable pub notes_by : Server → World → List AnyCall → List (List ℕ)
notes_by s v [] = []
notes_by s v (k ∷ ks) = let rest = notes_by s (s.after v k) ks in segment_then (s.heard v k) rest

-- does a call begin a report: a 1 or 7 that is answered with 0 and without response bytes?
abbrev pub asks_report_b : Result Request Code → Bool
asks_report_b (Ok (Report f)) = true
asks_report_b (Ok (Number f)) = false
asks_report_b (Ok Abort) = false
asks_report_b (Err k) = false

unfoldable pub begins_b : Server → World → AnyCall → Bool
begins_b s v start = false
begins_b s v (call (seconds n)) = false
begins_b s v (call (switches a b d)) = false
begins_b s v (call disconnect) = false
begins_b s v (call (fault o)) = false
begins_b s v (call (time_update w o h)) = false
begins_b s v (call (record_access w o)) =
    both (asks_report_b (request_of w)) (both (done_b (s.answer v (call (record_access w o)))) (eqb (length (s.response v w o)) 0))
begins_b s v (call (notify p o)) = false

-- the courses of the reports that begin, one after another
unfoldable pub courses_by : Server → World → List AnyCall → List Course
courses_by s v [] = []
courses_by s v (k ∷ ks) =
    let w = s.after v k in
    let rest = courses_by s w ks in
    pick (begins_b s v k) (course_by s w ks ∷ rest) rest

unfoldable pub notes_in : List Course → List (List ℕ)
notes_in [] = []
notes_in (c ∷ l) = c.notes ++ notes_in l
