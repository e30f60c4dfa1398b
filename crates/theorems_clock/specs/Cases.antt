-- Cases of the clock events that take no table, run by the checker on the definitions that the calls' promises cite. SE1 to SE25, SE27
-- and SW1 to SW4 are test vectors worked out from document 01 apart from these definitions.
use Rattle.std.specs.Prelude.{◌≡◌, Bool, true, false, List, [], ◌∷◌, map, ℕ, None, Option, Some}
use Rattle.rules.specs.Fields.{base_b, zone_b, dst_b, source_b, status_b, bits_b}
use Rattle.filter.specs.declared.filter.Filter.{Filter}
use Rattle.filter.specs.declared.filter.Filter.TheVariants.{All, Range}
use Rattle.clock.specs.Answers.{number_of}
use Rattle.clock.specs.Obeys.{opcode_b, counter_b, report_b, running_b, time_b, clock_b}
use Rattle.clock.specs.Events.{unless_broken, with_base, on_off, disconnected, seconds_of, switches_of, disconnect_of, Event}
use Rattle.clock.specs.declared.state.Clock.{Clock}
use Rattle.clock.specs.declared.state.Report.{Report}

pub data Call : Type 0 where
  seconds : ℕ → Call
  switches : Bool → Bool → Bool → Call
  disconnect : Call

-- a case: the clock, the call on it, then the number that is answered and the clock after
pub record Case : Type 0 where
  pub clock : Clock
  pub call : Call
  pub number : ℕ
  pub after : Clock

abbrev pub done : Clock → Call → Clock → Case
done c k a = record { clock = c; call = k; number = 0; after = a }

abbrev pub refused : Clock → Call → ℕ → Case
refused c k n = record { clock = c; call = k; number = n; after = c }

pub record Outcome : Type 0 where
  pub number : ℕ
  pub clock : Clock

unfoldable pub event_of : Clock → Call → Event
unfolding seconds_of switches_of disconnect_of unless_broken with_base disconnected clock_b time_b running_b report_b opcode_b counter_b base_b zone_b dst_b source_b status_b bits_b
event_of c (seconds n) = seconds_of c n
event_of c (switches dtcp racp log) = switches_of c dtcp racp log
event_of c disconnect = disconnect_of c

-- what the definitions give, and what the case says is right
unfoldable pub got : Case → Outcome
unfolding event_of number_of
got k = let e = event_of k.clock k.call in record { number = number_of e.answer; clock = e.clock }

unfoldable pub expected : Case → Outcome
expected k = record { number = k.number; clock = k.after }

-- a clock with no fault counted: the three switches, base, zone, DST, source, accuracy, status, last UTC-aligned value, report
abbrev switched : Bool → Bool → Bool → ℕ → ℕ → ℕ → ℕ → ℕ → ℕ → ℕ → Option Report → Clock
switched x y w b z d o a t u r =
    record {
      time = record { base = b; zone = z; dst = d; source = o; accuracy = a; status = t; faults = 0; aligned = u };
      switches = on_off x y w;
      running = r;
    }

abbrev on : ℕ → ℕ → ℕ → ℕ → ℕ → ℕ → ℕ → Option Report → Clock
on = switched true true true

abbrev off : ℕ → ℕ → ℕ → ℕ → ℕ → ℕ → ℕ → Option Report → Clock
off = switched false false false

-- a report: opcode, filter, counter, the next record's number; none of its bytes sent
abbrev report : ℕ → Filter → ℕ → ℕ → Option Report
report o f n s = Some (record { opcode = o; filter = f; counter = n; left = Some (s, 0) })

unfoldable pub table : List Case
table =
    -- SE1 to SE4: row 7
    done (on 631152000 128 255 0 255 0x19 631152000 None) (seconds 0) (on 631152000 128 255 0 255 0x19 631152000 None)
    ∷ done (on 631152000 128 255 0 255 0x19 631152000 None) (seconds 2524607999) (on 3155759999 128 255 0 255 0x19 631152000 None)
    ∷ refused (on 631152000 128 255 0 255 0x19 631152000 None) (seconds 2524608000) 7
    ∷ refused (on 631152000 128 255 0 255 0x19 631152000 None) (seconds 4294967295) 7
    -- SE5 to SE20: row 2, the clock state's list
    ∷ refused (on 631151999 128 255 0 255 0x19 631152000 None) (seconds 5) 2
    ∷ refused (on 3155760000 128 255 0 255 0x19 631152000 None) (seconds 5) 2
    ∷ refused (on 631152000 0x39 255 0 255 0x19 631152000 None) (seconds 5) 2
    ∷ refused (on 631152000 0xcf 255 0 255 0x19 631152000 None) (seconds 5) 2
    ∷ done (on 631152000 0xd0 255 0 255 0x19 631152000 None) (seconds 5) (on 631152005 0xd0 255 0 255 0x19 631152000 None)
    ∷ refused (on 631152000 128 1 0 255 0x19 631152000 None) (seconds 5) 2
    ∷ refused (on 631152000 128 255 8 255 0x19 631152000 None) (seconds 5) 2
    ∷ refused (on 631152000 128 255 0 255 0x09 631152000 None) (seconds 5) 2
    ∷ refused (on 631152000 128 255 0 255 0x1b 631152000 None) (seconds 5) 2
    ∷ refused (on 631152000 128 255 0 255 0x14 631152000 None) (seconds 5) 2
    ∷ refused (on 631152000 128 255 0 255 0x11 631152000 None) (seconds 5) 2
    ∷ done (on 631152000 128 255 0 255 0x10 631152000 None) (seconds 5) (on 631152005 128 255 0 255 0x10 631152000 None)
    ∷ done (on 631152000 128 255 0 255 0x1e 631152000 None) (seconds 5) (on 631152005 128 255 0 255 0x1e 631152000 None)
    ∷ refused (on 631152000 128 255 0 255 0x36 631152000 None) (seconds 5) 2
    ∷ refused (on 631152000 128 255 0 255 0x19 631151999 None) (seconds 5) 2
    ∷ done (on 631152000 128 255 0 17 0x19 631152000 None) (seconds 5) (on 631152005 128 255 0 17 0x19 631152000 None)
    -- SE21: 2 before 7
    ∷ refused (on 3155760000 128 255 0 255 0x19 631152000 None) (seconds 1) 2
    -- SE22 to SE24: any filter of the report, not any opcode or counter
    ∷ done (on 631152000 128 255 0 255 0x19 631152000 (report 1 (Range 5 3) 0 0)) (seconds 0) (on 631152000 128 255 0 255 0x19 631152000 (report 1 (Range 5 3) 0 0))
    ∷ refused (on 631152000 128 255 0 255 0x19 631152000 (report 2 All 0 0)) (seconds 0) 2
    ∷ refused (on 631152000 128 255 0 255 0x19 631152000 (report 1 All 64 0)) (seconds 0) 2
    -- SE25, SE27: the next record is not looked at, and disconnect ends the report
    ∷ done (on 631152000 128 255 0 255 0x19 631152000 (report 1 All 0 9)) (seconds 0) (on 631152000 128 255 0 255 0x19 631152000 (report 1 All 0 9))
    ∷ done (on 631152000 128 255 0 255 0x19 631152000 (report 1 All 0 9)) disconnect (off 631152000 128 255 0 255 0x19 631152000 None)
    -- SW1 to SW4
    ∷ done (on 800000070 4 0 2 1 0x16 800000070 (report 1 All 0 0)) (switches false false false) (off 800000070 4 0 2 1 0x16 800000070 (report 1 All 0 0))
    ∷ refused (on 800000070 4 1 2 1 0x16 800000070 None) (switches true true true) 2
    ∷ done (on 800000070 4 0 2 1 0x16 800000070 (report 1 All 0 0)) disconnect (off 800000070 4 0 2 1 0x16 800000070 None)
    ∷ done (off 800000070 4 0 2 1 0x16 800000070 None) disconnect (off 800000070 4 0 2 1 0x16 800000070 None)
    -- each switch by itself: on, off, on; only DTCP indications on
    ∷ done (off 631152000 128 255 0 255 0x19 631152000 None) (switches true false true) (switched true false true 631152000 128 255 0 255 0x19 631152000 None)
    ∷ done (off 631152000 128 255 0 255 0x19 631152000 None) (switches true false false) (switched true false false 631152000 128 255 0 255 0x19 631152000 None)
    ∷ []

abbrev pub Computed : Type 0
Computed = map got table ≡ map expected table
