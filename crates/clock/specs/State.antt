-- The clock state's values with a name, the clock of a new reader, and a clock with one part changed (document 01, "Clock state").
use Rattle.std.specs.Prelude.{false, ℕ, None, Option}
use Rattle.rules.specs.Fields.{first_base_time}
use Rattle.clock.specs.declared.state.Clock.{Clock}
use Rattle.clock.specs.declared.state.Switches.{Switches}
use Rattle.clock.specs.declared.state.Time.{Time}
use Rattle.clock.specs.declared.state.Report.{Report}

-- "-128 for unknown", as its byte
abbrev pub unknown_zone : ℕ
unknown_zone = 128

-- "255 for unknown"
abbrev pub unknown_dst : ℕ
unknown_dst = 255

-- "Unknown (0xFF)" (document 002, Section 3.4.1.14)
abbrev pub unknown_accuracy : ℕ
unknown_accuracy = 255

-- bits 0, 3 and 4 of Table 3.7: in time fault, an update is asked for, epoch 2000
abbrev pub fault_status : ℕ
fault_status = 0x0019

-- "New reader: Base_Time 631,152,000, zone -128, DST 255, source 0, accuracy 255, status 0x0019, fault count 0"; the last accepted
-- UTC-aligned value is "631,152,000 before the first".
abbrev pub new_time : Time
new_time =
    record {
      base = first_base_time;
      zone = unknown_zone;
      dst = unknown_dst;
      source = 0;
      accuracy = unknown_accuracy;
      status = fault_status;
      faults = 0;
      aligned = first_base_time;
    }

abbrev pub all_off : Switches
all_off = record { dtcp = false; racp = false; log = false }

-- "all switches off, no report"
unfoldable pub new_reader : Clock
new_reader = record { time = new_time; switches = all_off; running = None }

-- another time, other switches, another running report or none: the other parts stay
abbrev pub with_time : Clock → Time → Clock
with_time c t = record { time = t; switches = c.switches; running = c.running }

abbrev pub with_switches : Clock → Switches → Clock
with_switches c s = record { time = c.time; switches = s; running = c.running }

abbrev pub with_running : Clock → Option Report → Clock
with_running c r = record { time = c.time; switches = c.switches; running = r }
