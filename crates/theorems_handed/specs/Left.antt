-- A report that is left to finish comes to its closing response.
use Rattle.std.specs.Prelude.{◌≡◌, Bool, true, not, List, [], ◌∷◌, map, ℕ, ◌+◌, ◌<◌}
use Rattle.octets.specs.Choice.{both}
use Rattle.octets.specs.Parts.{Bytes}
use Rattle.filter.specs.declared.filter.Filter.{Filter}
use Rattle.table_look.specs.Matching.{matching}
use Rattle.racp_notify.specs.Notify.{bit}
use Rattle.theorems_reports.specs.World.{World, Call}
use Rattle.theorems_reports.specs.Endings.{closed, ended_b}
use Rattle.theorems_reports.specs.Hearing.{Heard, nothing, segment, closing}
use Rattle.theorems_reports.specs.Reports.{asking_b, segments}
use Rattle.theorems_handed.specs.Server.{call, Server, Accepts, begins}
use Rattle.theorems_handed.specs.Endings.{ending_in}
use Rattle.theorems_handed.specs.Handed.{course_by}

-- no call is an ending
unfoldable pub quiet_by : Server → World → List Call → Bool
quiet_by s v [] = true
quiet_by s v (k ∷ ks) = both (not (ended_b (ending_in s v (call k)))) (quiet_by s (s.after v (call k)) ks)

-- how often it is asked for, with a payload size of 20 to 244 and an output as long, up to the closing response
abbrev pub until_closing : Heard → ℕ → ℕ
until_closing nothing n = n
until_closing (segment b) n = n
until_closing (closing b) n = 0

unfoldable pub asked_by : Server → World → List Call → ℕ
asked_by s v [] = 0
asked_by s v (k ∷ ks) = bit (asking_b k) + until_closing (s.heard v (call k)) (asked_by s (s.after v (call k)) ks)

-- Theorem Left to finish: among any calls that end no report, asked for more often than the smallest payload size needs segments.
abbrev pub LeftToFinish : Server → Type 0
LeftToFinish s = (v : World) (w o : List ℕ) (f : Filter) (ks : List Call) → Bytes v.table → Accepts s v w o f
    → quiet_by s (begins s v w o) ks ≡ true → segments 19 (matching f v.table) < asked_by s (begins s v w o) ks
    → (course_by s (begins s v w o) (map call ks)).ending ≡ closed
