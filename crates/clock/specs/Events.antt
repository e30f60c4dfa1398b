-- The clock events that take no table (document 01, "Clock events"): answer and clock after. "A refusal leaves state .. untouched."
use Rattle.std.specs.Prelude.{Bool, ℕ, ◌+◌, ltb, None, Err, Ok}
use Rattle.octets.specs.Choice.{pick}
use Rattle.rules.specs.Fields.{last_base_time}
use Rattle.clock.specs.State.{with_time, with_switches, all_off}
use Rattle.clock.specs.Obeys.{clock_b}
use Rattle.clock.specs.declared.state.Clock.{Clock}
use Rattle.clock.specs.declared.state.Switches.{Switches}
use Rattle.clock.specs.Answers.{Answer}
use Rattle.clock.specs.declared.answers.Refusal.TheVariants.{ClockBroken, PastTheEnd}

-- the answer, and the clock after it
pub record Event : Type 0 where
  pub answer : Answer
  pub clock : Clock

abbrev pub event : Answer → Clock → Event
event a c = record { answer = a; clock = c }

-- "2: clock state breaks a rule above": tested first by each of these calls, which take the clock and no table
unfoldable pub unless_broken : Clock → Event → Event
unless_broken c e = pick (clock_b c) e (event (Err ClockBroken) c)

-- the clock with another Base_Time
unfoldable pub with_base : Clock → ℕ → Clock
with_base c b =
    let t = c.time in
    with_time c
    (record {
      base = b;
      zone = t.zone;
      dst = t.dst;
      source = t.source;
      accuracy = t.accuracy;
      status = t.status;
      faults = t.faults;
      aligned = t.aligned;
    })

-- "Seconds n (unsigned 32 bits, 0 allowed): Base_Time rises by n." "7: seconds event would pass 3,155,759,999."
unfoldable pub seconds_of : Clock → ℕ → Event
seconds_of c n =
    unless_broken c
    (pick (ltb last_base_time (c.time.base + n)) (event (Err PastTheEnd) c) (event (Ok tt) (with_base c (c.time.base + n))))

-- DTCP indications, RACP indications, log notifications
abbrev pub on_off : Bool → Bool → Bool → Switches
on_off dtcp racp log = record { dtcp = dtcp; racp = racp; log = log }

-- "Switches on or off: nothing else changes, a running report goes on."
unfoldable pub switches_of : Clock → Bool → Bool → Bool → Event
switches_of c dtcp racp log = unless_broken c (event (Ok tt) (with_switches c (on_off dtcp racp log)))

-- "all switches off, a running report ends without response, clock and log stay"
unfoldable pub disconnected : Clock → Clock
disconnected c = record { time = c.time; switches = all_off; running = None }

unfoldable pub disconnect_of : Clock → Event
disconnect_of c = unless_broken c (event (Ok tt) (disconnected c))
