-- What is promised of the clock beyond each call's own equation.
use Rattle.std.specs.Prelude.{◌≡◌, Bool, true, ℕ, ◌+◌}
use Rattle.clock.specs.Answers.{number_of}
use Rattle.clock.specs.State.{new_reader}
use Rattle.clock.specs.Obeys.{clock_b}
use Rattle.clock.specs.Events.{seconds_of, switches_of, disconnect_of, with_base, Event}
use Rattle.clock.specs.declared.state.Clock.{Clock}

-- "A refusal leaves state .. untouched": where the number is not 0, the clock is the one given.
abbrev pub Untouched : Clock → Event → Type 0
Untouched c e = (number_of e.answer ≡ 0 → ⊥) → e.clock ≡ c

pub record RefusedUnchanged : Type 0 where
  pub seconds : (c : Clock) (n : ℕ) → Untouched c (seconds_of c n)
  pub switches : (c : Clock) (a b d : Bool) → Untouched c (switches_of c a b d)
  pub disconnect : (c : Clock) → Untouched c (disconnect_of c)

-- The new reader obeys the rules, and every event leads from a clock that obeys them to one that does.
pub record Obeys : Type 0 where
  pub new_reader_lem : clock_b new_reader ≡ true
  pub seconds : (c : Clock) (n : ℕ) → clock_b c ≡ true → clock_b (seconds_of c n).clock ≡ true
  pub switches : (c : Clock) (a b d : Bool) → clock_b c ≡ true → clock_b (switches_of c a b d).clock ≡ true
  pub disconnect : (c : Clock) → clock_b c ≡ true → clock_b (disconnect_of c).clock ≡ true

-- "The seconds that ran are those of events answered 0": Base_Time is then n more, and every other field as it was.
abbrev pub Ticks : Type 0
Ticks = (c : Clock) (n : ℕ) → number_of (seconds_of c n).answer ≡ 0 → (seconds_of c n).clock ≡ with_base c (c.time.base + n)
