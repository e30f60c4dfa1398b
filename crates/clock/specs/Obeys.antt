-- When a clock obeys the rules of document 01, "Clock state", alone: of the running report's next record, "is held, matches and has
-- bytes unsent (tested only by calls that take the table)", nothing is said here. No rule couples two fields beyond those listed.
use Rattle.std.specs.Prelude.{◌≡◌, Bool, true, ℕ, ◌≤◌, leb, eqb, None, Option, Some}
use Rattle.octets.specs.Choice.{both, either}
use Rattle.rules.specs.Fields.{first_base_time, last_base_time, base_b, zone_b, dst_b, source_b, status_b}
use Rattle.codes.specs.Racp.{report_opcode, combined_opcode}
use Rattle.clock.specs.declared.state.Clock.{Clock}
use Rattle.clock.specs.declared.state.Report.{Report}
use Rattle.clock.specs.declared.state.Time.{Time}

-- "the running report, if any: opcode 1 or 7"
unfoldable pub opcode_b : ℕ → Bool
opcode_b o = either (eqb o report_opcode) (eqb o combined_opcode)

abbrev pub last_counter : ℕ
last_counter = 63

-- "counter 0 to 63"
unfoldable pub counter_b : ℕ → Bool
counter_b n = leb n last_counter

-- "a filter that passes the checks below": each does, an operator of 1 to 6 with its values, since "response 0x05 for minimum above maximum
-- goes" (change request E1)
unfoldable pub report_b : Report → Bool
report_b r = both (opcode_b r.opcode) (counter_b r.counter)

unfoldable pub running_b : Option Report → Bool
running_b None = true
running_b (Some r) = report_b r

-- Base_Time; zone and DST; source and status; the last accepted UTC-aligned value. "Accuracy: any byte", and any fault count.
unfoldable pub time_b : Time → Bool
time_b t =
    both (base_b t.base)
    (both (both (zone_b t.zone) (dst_b t.dst))
    (both (both (source_b t.source) (status_b t.status)) (base_b t.aligned)))

-- any switches
unfoldable pub clock_b : Clock → Bool
clock_b c = both (time_b c.time) (running_b c.running)

-- The same rules as facts, part by part.
pub record TimeRules (t : Time) : Type 0 where
  pub base_low : first_base_time ≤ t.base
  pub base_high : t.base ≤ last_base_time
  pub zone : zone_b t.zone ≡ true
  pub dst : dst_b t.dst ≡ true
  pub source : source_b t.source ≡ true
  pub status : status_b t.status ≡ true
  pub aligned_low : first_base_time ≤ t.aligned
  pub aligned_high : t.aligned ≤ last_base_time

pub record Rules (c : Clock) : Type 0 where
  pub time : TimeRules c.time
  pub running : running_b c.running ≡ true

pub record ReportRules (r : Report) : Type 0 where
  pub opcode : opcode_b r.opcode ≡ true
  pub counter : r.counter ≤ last_counter
