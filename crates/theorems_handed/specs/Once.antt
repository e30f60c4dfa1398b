-- Theorem Every record once (change request E11).
use Rattle.std.specs.Prelude.{◌≡◌, true, List, ◌++◌, ℕ}
use Rattle.octets.specs.Parts.{Bytes}
use Rattle.filter.specs.declared.filter.Filter.{Filter}
use Rattle.table_look.specs.Matching.{matching}
use Rattle.rows.specs.Rows.{idle_b}
use Rattle.theorems_reports.specs.World.{World}
use Rattle.theorems_reports.specs.Reach.{Good}
use Rattle.theorems_handed.specs.Server.{AnyCall, Server, Accepts, begins}
use Rattle.theorems_handed.specs.Handed.{course_by, HandedFrom}
use Rattle.theorems_handed.specs.Counted.{Counted}
use Rattle.theorems_handed.specs.History.{notes_by, courses_by, notes_in}

-- Of every report that is accepted, whatever its operator and whatever calls come after it, payload sizes that change among them.
pub record EveryRecordOnce (s : Server) : Type 0 where
  pub handed : (v : World) (w o : List ℕ) (f : Filter) (ks : List AnyCall) → Bytes v.table → Accepts s v w o f
      → HandedFrom (matching f v.table) (course_by s (begins s v w o) ks)
  pub counted : (v : World) (w o : List ℕ) (f : Filter) (ks : List AnyCall) → Bytes v.table → Accepts s v w o f
      → Counted f v.table (course_by s (begins s v w o) ks)
  -- After its ending no segment of it comes: what else is heard is of reports that begin later.
  pub after : (v : World) (w o : List ℕ) (f : Filter) (ks : List AnyCall) → Good v → Accepts s v w o f
      → (let u = begins s v w o in notes_by s u ks ≡ (course_by s u ks).notes ++ notes_in (courses_by s u ks))
  -- Nor does a segment come of no report: with none running, all that is heard is of those that begin.
  pub nothing_else : (v : World) (ks : List AnyCall) → Good v → idle_b v.clock.running ≡ true
      → notes_by s v ks ≡ notes_in (courses_by s v ks)
