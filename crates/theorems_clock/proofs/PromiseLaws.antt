-- What is promised of the events beyond each call's own equation, by the cases of its answers.
-- Assumes nothing.
use mathlib.Core.Path.{◌≡◌, refl}
use mathlib.Core.Bool.{true}
use Prim.Native.Nat.{ℕ, ◌+◌}
use native.Mathlib.Omega.{arith}
use Rattle.rules.specs.Fields.{base_b, zone_b, dst_b, source_b, status_b, bits_b}
use Rattle.rules.proofs.RangeLaws.{base_makes}
use Rattle.clock.specs.Answers.{number_of}
use Rattle.clock.specs.State.{new_reader}
use Rattle.clock.specs.Obeys.{running_b, time_b, clock_b}
use Rattle.clock.specs.Events.{with_base, on_off, Event}
use Rattle.clock.specs.declared.state.Clock.{Clock}
use Rattle.clock.proofs.RuleLaws.{clock_reads}
use Rattle.clock.proofs.EventLaws.{Seconds, refuses_2, refuses_7, rises, Changed, changes, seconds_is, switches_is, disconnect_is, with_base_obeys, with_switches_obeys, disconnected_obeys}
use Rattle.theorems_clock.specs.Theorems.{Untouched, RefusedUnchanged, Obeys, Ticks}

seconds_untouched : {c : Clock} {n : ℕ} {e : Event} → Seconds c n e → Untouched c e
unfolding number_of
seconds_untouched (refuses_2 h) ne = refl
seconds_untouched (refuses_7 h l) ne = refl
seconds_untouched (rises h l) ne = absurd (ne refl)

changed_untouched : {c after : Clock} {e : Event} → Changed c after e → Untouched c e
unfolding number_of
changed_untouched (refuses_2 h) ne = refl
changed_untouched (changes h) ne = absurd (ne refl)

pub refused_unchanged : RefusedUnchanged
refused_unchanged =
    record {
      seconds = λ c n. seconds_untouched (seconds_is c n);
      switches = λ c a b d. changed_untouched (switches_is c a b d);
      disconnect = λ c. changed_untouched (disconnect_is c);
    }

new_reader_obeys : clock_b new_reader ≡ true
unfolding clock_b time_b running_b new_reader base_b zone_b dst_b source_b status_b bits_b
new_reader_obeys = refl

seconds_obeys : {c : Clock} {n : ℕ} {e : Event} → Seconds c n e → clock_b c ≡ true → clock_b e.clock ≡ true
seconds_obeys (refuses_2 h) ok = ok
seconds_obeys (refuses_7 h l) ok = ok
seconds_obeys {c} {n} (rises h l) ok =
    let r = (clock_reads c ok).time in with_base_obeys c (c.time.base + n) (base_makes (c.time.base + n) (omega arith) l) ok

changed_obeys : {c after : Clock} {e : Event} → Changed c after e → (clock_b c ≡ true → clock_b after ≡ true) → clock_b c ≡ true
    → clock_b e.clock ≡ true
changed_obeys (refuses_2 h) keeps ok = ok
changed_obeys (changes h) keeps ok = keeps ok

pub obeys : Obeys
obeys =
    record {
      new_reader_lem = new_reader_obeys;
      seconds = λ c n. seconds_obeys (seconds_is c n);
      switches = λ c a b d. changed_obeys (switches_is c a b d) (with_switches_obeys c (on_off a b d));
      disconnect = λ c. changed_obeys (disconnect_is c) (disconnected_obeys c);
    }

rises_by : {c : Clock} {n : ℕ} {e : Event} → Seconds c n e → number_of e.answer ≡ 0 → e.clock ≡ with_base c (c.time.base + n)
unfolding number_of
rises_by (refuses_2 h) done = absurd (omega arith)
rises_by (refuses_7 h l) done = absurd (omega arith)
rises_by (rises h l) done = refl

pub ticks : Ticks
ticks c n = rises_by (seconds_is c n)
