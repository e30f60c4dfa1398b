-- Theorem Every record once (change request E11) as the C side sees it: of results, outputs and the tablet's 48 bytes alone.
use Rattle.std.specs.Prelude.{◌≡◌, true, List, ◌++◌, map, ℕ, ◌<◌, length, take, replicate}
use Rattle.octets.specs.Parts.{Bytes}
use Rattle.filter.specs.declared.filter.Filter.{Filter}
use Rattle.table.specs.Table.{size_b}
use Rattle.table_look.specs.Matching.{matching}
use Rattle.state_bytes.specs.State.{state_bytes}
use Rattle.state_bytes.specs.JoiningState.{joining_bytes}
use Rattle.theorems_reports.specs.Reports.{segments}
use Rattle.theorems_reports.specs.Endings.{closed}
use Rattle.theorems_handed.specs.Handed.{assembled, HandedFrom}
use Rattle.theorems_handed.specs.Counted.{Counted}
use Rattle.theorems_handed.specs.History.{notes_in}
use Rattle.theorems_bytes.specs.World.{ByteWorld, ByteCall, racp_write, step_at, EntryCall, call, history_at, started_at}
use Rattle.theorems_bytes.specs.Reports.{got_at, join_all_at, shown_of, AcceptedAt, all_quiet_at, asked_at}
use Rattle.theorems_handed_bytes.specs.Courses.{course_at, notes_at, courses_at}

-- at b a report was accepted; ks are whatever calls come after it
pub record OnceAt (b : ByteWorld) (w o : List ℕ) (hw : Bytes w) (f : Filter) : Type 0 where
  -- the first so many of the held records that match, with at most one unfinished after them; all of them once it is closed
  pub handed : (ks : List EntryCall) → HandedFrom (matching f b.table) (course_at (step_at b (racp_write w o hw)) ks)
  -- by number: none that was not asked for, none twice, oldest first
  pub counted : (ks : List EntryCall) → Counted f b.table (course_at (step_at b (racp_write w o hw)) ks)
  -- after its ending no segment of it comes: what else is heard is of reports that begin later
  pub after : (ks : List EntryCall)
      → (let u = step_at b (racp_write w o hw) in notes_at u ks ≡ (course_at u ks).notes ++ notes_in (courses_at u ks))
  -- the tablet's `dts_join` refuses no segment, from a joining state of zeros, and `dts_read` gives the records that were handed over whole
  pub joined : (e : List ℕ) (ks : List EntryCall)
      → (let c = course_at (step_at b (racp_write w o hw)) ks in
      join_all_at e (replicate joining_bytes 0) c.notes
      ≡ got_at (map shown_of (take (length (assembled c.notes).whole) (matching f b.table))) true)
  -- among calls that end no report, asked for more often than the smallest payload size needs segments, it is closed
  pub finishes : (ks : List ByteCall) → all_quiet_at (step_at b (racp_write w o hw)) ks ≡ true
      → segments 19 (matching f b.table) < length (asked_at (step_at b (racp_write w o hw)) ks)
      → (course_at (step_at b (racp_write w o hw)) (map call ks)).ending ≡ closed

-- Theorem Every record once, over bytes, from start.
abbrev pub EveryRecordOnceAt : Type 0
EveryRecordOnceAt = (s t : List ℕ) (before : List EntryCall) (w o : List ℕ) (hw : Bytes w) (f : Filter) → length s ≡ state_bytes
    → size_b (length t) ≡ true → AcceptedAt (history_at (started_at s t) before) w o hw f → OnceAt (history_at (started_at s t) before) w o hw f

-- Theorem Nothing else: from start, over any calls, all that is heard is of the reports that begin.
abbrev pub NothingElseAt : Type 0
NothingElseAt = (s t : List ℕ) (ks : List EntryCall) → length s ≡ state_bytes → size_b (length t) ≡ true
    → notes_at (started_at s t) ks ≡ notes_in (courses_at (started_at s t) ks)
