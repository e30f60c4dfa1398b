-- What holds of a reader from start on, over any calls: theorem Reachable, and theorem Reached report.
use Rattle.std.specs.Prelude.{◌≡◌, true, List, ℕ, ◌<◌, length}
use Rattle.octets.specs.Parts.{Bytes}
use Rattle.filter.specs.declared.filter.Filter.{Filter}
use Rattle.table.specs.Table.{size_b, next, sound_b}
use Rattle.clock.specs.Obeys.{clock_b}
use Rattle.rows.specs.Rows.{running_whole_b}
use Rattle.theorems_reports.specs.World.{World, new_world, Call, run_of}
use Rattle.theorems_reports.specs.Hearing.{hearing_of, all_calm_b}
use Rattle.theorems_reports.specs.Reports.{Accepted, report_begun, Hears}

-- The clock obeys its rules, alone and with the table; the table is sound, and every byte of it a byte.
pub record Good (v : World) : Type 0 where
  pub clock : clock_b v.clock ≡ true
  pub running : running_whole_b v.table v.clock.running ≡ true
  pub faults : v.clock.time.faults < 65536
  pub sound : sound_b v.table ≡ true
  pub next : next v.table < 65536
  pub bytes : Bytes v.table

-- Theorem Reachable, over every call of the server: from start the clock obeys its rules, alone and with the table; the table is sound, and every
-- byte of it a byte.
abbrev pub Reachable : Type 0
Reachable = (t : List ℕ) (ks : List Call) → size_b (length t) ≡ true → Good (run_of (new_world t) ks)

-- Theorem Reached report: from start, over any calls, an accepted report, heard among any calls without a disconnect, a fault and an Abort.
abbrev pub ReachedReport : Type 0
ReachedReport = (t : List ℕ) (before ks : List Call) (w o : List ℕ) (f : Filter) → size_b (length t) ≡ true
    → Accepted (run_of (new_world t) before) w o f → all_calm_b ks ≡ true
    → Hears (run_of (new_world t) before).table w f (hearing_of (report_begun (run_of (new_world t) before) w o) ks)
