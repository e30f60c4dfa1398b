-- The clock events: one law for each answer, the answers of a call as cases to take apart, and that each change keeps the rules.
-- Assumes nothing.
use mathlib.Core.Path.{◌≡◌, refl, ◌∙◌}
use mathlib.Core.Bool.{Bool, true, false}
use Prim.Native.Nat.{ℕ, ◌+◌, ◌≤◌, ◌<◌}
use borrow.Author.Tests.{lt-ltb, le-ltb, ltb-true, ltb-false}
use lib.Dec.{ltb}
use Rattle.octets.proofs.Tests.{both_yes, both_reads}
use Rattle.rules.specs.Fields.{last_base_time, base_b}
use Rattle.clock.specs.State.{with_switches, with_running}
use Rattle.clock.specs.Obeys.{running_b, time_b, clock_b}
use Rattle.clock.specs.Events.{event, unless_broken, seconds_of, switches_of, disconnect_of, with_base, on_off, disconnected, Event}
use Rattle.clock.specs.declared.state.Clock.{Clock}
use Rattle.clock.specs.declared.state.Switches.{Switches}
use Rattle.clock.specs.declared.state.Report.{Report}
use Rattle.std.proofs.Common.{None, Option, Err, Ok}
use Rattle.clock.specs.declared.answers.Refusal.TheVariants.{ClockBroken, PastTheEnd}

-- row 2, for every call here
broken : (c : Clock) (e : Event) → clock_b c ≡ false → unless_broken c e ≡ event (Err ClockBroken) c
unfolding unless_broken
broken c e h = rw h

passed : (c : Clock) (e : Event) → clock_b c ≡ true → unless_broken c e ≡ e
unfolding unless_broken
passed c e h = rw h

module _ (c : Clock) (n : ℕ) where
  pub seconds_2 : clock_b c ≡ false → seconds_of c n ≡ event (Err ClockBroken) c
  unfolding seconds_of
  seconds_2 h = broken c _ h

  pub seconds_7 : clock_b c ≡ true → last_base_time < c.time.base + n → seconds_of c n ≡ event (Err PastTheEnd) c
  unfolding seconds_of
  seconds_7 h l = passed c _ h ∙ rw (lt-ltb last_base_time (c.time.base + n) l)

  pub seconds_done : clock_b c ≡ true → c.time.base + n ≤ last_base_time → seconds_of c n ≡ event (Ok tt) (with_base c (c.time.base + n))
  unfolding seconds_of
  seconds_done h l = passed c _ h ∙ rw (le-ltb last_base_time (c.time.base + n) l)

-- the three answers of a seconds event
pub data Seconds (c : Clock) (n : ℕ) : Event → Type 0 where
  refuses_2 : clock_b c ≡ false → Seconds c n (event (Err ClockBroken) c)
  refuses_7 : clock_b c ≡ true → last_base_time < c.time.base + n → Seconds c n (event (Err PastTheEnd) c)
  rises : clock_b c ≡ true → c.time.base + n ≤ last_base_time → Seconds c n (event (Ok tt) (with_base c (c.time.base + n)))

pub seconds_is : (c : Clock) (n : ℕ) → Seconds c n (seconds_of c n)
seconds_is c n = go (clock_b c) (ltb last_base_time (c.time.base + n)) refl refl
  where
    go : (ok past : Bool) → clock_b c ≡ ok → ltb last_base_time (c.time.base + n) ≡ past → Seconds c n (seconds_of c n)
    go false past h l = rw (seconds_2 c n h) (refuses_2 h)
    go true true h l = let p = ltb-true last_base_time (c.time.base + n) l in rw (seconds_7 c n h p) (refuses_7 h p)
    go true false h l = let p = ltb-false last_base_time (c.time.base + n) l in rw (seconds_done c n h p) (rises h p)

module _ (c : Clock) (a b d : Bool) where
  pub switches_2 : clock_b c ≡ false → switches_of c a b d ≡ event (Err ClockBroken) c
  unfolding switches_of
  switches_2 h = broken c _ h

  pub switches_done : clock_b c ≡ true → switches_of c a b d ≡ event (Ok tt) (with_switches c (on_off a b d))
  unfolding switches_of
  switches_done h = passed c _ h

module _ (c : Clock) where
  pub disconnect_2 : clock_b c ≡ false → disconnect_of c ≡ event (Err ClockBroken) c
  unfolding disconnect_of
  disconnect_2 h = broken c _ h

  pub disconnect_done : clock_b c ≡ true → disconnect_of c ≡ event (Ok tt) (disconnected c)
  unfolding disconnect_of
  disconnect_done h = passed c _ h

-- the two answers of switches and disconnect, where `after` is the clock that the call makes
pub data Changed (c after : Clock) : Event → Type 0 where
  refuses_2 : clock_b c ≡ false → Changed c after (event (Err ClockBroken) c)
  changes : clock_b c ≡ true → Changed c after (event (Ok tt) after)

changed : (c after : Clock) → Changed c after (unless_broken c (event (Ok tt) after))
changed c after = go (clock_b c) refl
  where
    go : (ok : Bool) → clock_b c ≡ ok → Changed c after (unless_broken c (event (Ok tt) after))
    go false h = rw (broken c (event (Ok tt) after) h) (refuses_2 h)
    go true h = rw (passed c (event (Ok tt) after) h) (changes h)

pub switches_is : (c : Clock) (a b d : Bool) → Changed c (with_switches c (on_off a b d)) (switches_of c a b d)
unfolding switches_of
switches_is c a b d = changed c (with_switches c (on_off a b d))

pub disconnect_is : (c : Clock) → Changed c (disconnected c) (disconnect_of c)
unfolding disconnect_of
disconnect_is c = changed c (disconnected c)

-- each change of the clock keeps the rules
pub with_base_obeys : (c : Clock) (b : ℕ) → base_b b ≡ true → clock_b c ≡ true → clock_b (with_base c b) ≡ true
unfolding clock_b time_b with_base
with_base_obeys c b new h =
    let r = both_reads (time_b c.time) (running_b c.running) h in
    both_yes (both_yes new ∙ (both_reads (base_b c.time.base) _ r.0).1) ∙ r.1

-- no rule speaks of the switches
pub with_switches_obeys : (c : Clock) (s : Switches) → clock_b c ≡ true → clock_b (with_switches c s) ≡ true
unfolding clock_b
with_switches_obeys c s h = h

-- a report that obeys its rules, and none
pub with_running_obeys : (c : Clock) (r : Option Report) → clock_b c ≡ true → running_b r ≡ true → clock_b (with_running c r) ≡ true
unfolding clock_b
with_running_obeys c r h ok = both_yes (both_reads (time_b c.time) (running_b c.running) h).0 ∙ ok

pub disconnected_obeys : (c : Clock) → clock_b c ≡ true → clock_b (disconnected c) ≡ true
unfolding clock_b disconnected running_b
disconnected_obeys c h = with_running_obeys c None h refl
