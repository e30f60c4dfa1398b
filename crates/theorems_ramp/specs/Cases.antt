-- Computed cases of the theorem One beast: its premises can hold, and what it says is then no empty word.
use Rattle.std.specs.Prelude.{◌≡◌, List, [], ◌∷◌, ℕ, Ok, Err}
use Rattle.octets.specs.Parts.{same_b}
use Rattle.record_write.specs.Layout.{update_values, fault_values}
use Rattle.carry.specs.Stamp.{later_of, carried_over, carried_from, carry_of, carrying_number, no_fault_b, moved_by}
use Rattle.ramp.specs.Beast.{Verdict, age_of, within_b, judge_of, carried_or, verdict_of, beast_by}
use Rattle.ramp.specs.declared.beast.Beasts.TheVariants.{One, Two}
use Rattle.ramp.specs.declared.beast.RampError.TheVariants.{LeftRefused, RightRefused}
use Rattle.theorems_reports.specs.World.{World, new_world, Call, seconds, fault, run_of}
use Rattle.theorems_reports.specs.Open.{calls_open}
use Rattle.theorems_stamps.specs.Stamps.{ran_in, ran_of, logged_in, logged_of, values_of, same_records_b, all_held_b}
use Rattle.theorems_stamps.specs.Cases.{buffer, output, Writable, set, on}
use Rattle.theorems_ramp.specs.OneBeast.{Judging, verdict_after, truth_of, truth_after}

-- an antenna's history: its buffer, the calls before the read and those after it
pub record History : Type 0 where
  pub table : List ℕ
  pub before : List Call
  pub after : List Call

abbrev pub history : ℕ → List Call → List Call → History
history e before after = record { table = buffer e; before = before; after = after }

abbrev pub at_read : History → World
at_read h = run_of (new_world h.table) h.before

-- the stamps that both noted, the seconds that ran since, what is answered, and what is true
pub record Result : Type 0 where
  pub left_stamp : ℕ
  pub right_stamp : ℕ
  pub left_ran : ℕ
  pub right_ran : ℕ
  pub verdict : Verdict
  pub truth : Verdict

unfoldable pub result_by : Judging → History → History → ℕ → Result
unfolding calls_open later_of moved_by carried_over carried_from carry_of carrying_number run_of ran_in ran_of logged_in logged_of no_fault_b same_b update_values fault_values values_of same_records_b all_held_b beast_by verdict_of carried_or judge_of within_b age_of truth_of
result_by judge l r window = record {
  left_stamp = (at_read l).clock.time.base;
  right_stamp = (at_read r).clock.time.base;
  left_ran = ran_of (at_read l) l.after;
  right_ran = ran_of (at_read r) r.after;
  verdict = verdict_after judge (at_read l) l.after (at_read r) r.after window;
  truth = truth_after (at_read l) l.after (at_read r) r.after window;
}

-- The drivers' story: the left clock was set ten minutes fast; a beast passes it, and two seconds later, in the middle of the load, the tablet sets it
-- back. The right antenna reads the beast five seconds after the left one. An hour later both are asked.
abbrev pub story_left : Writable → History
story_left h = history 208 (on ∷ set h 800000600 ∷ seconds 100 ∷ []) (seconds 2 ∷ set h 800000102 ∷ seconds 3 ∷ seconds 3600 ∷ [])

abbrev pub story_right : Writable → History
story_right h = history 208 (on ∷ set h 800000000 ∷ seconds 105 ∷ []) (seconds 3600 ∷ [])

abbrev pub told : ℕ → ℕ → ℕ → ℕ → Verdict → Result
told ls rs lr rr v = record { left_stamp = ls; right_stamp = rs; left_ran = lr; right_ran = rr; verdict = v; truth = v }

-- The right clock loses its time after the read; the left one is set twice, and its log's one slot holds the last record alone.
abbrev pub faulted_right : Writable → History
faulted_right h = history 208 (on ∷ set h 800000000 ∷ seconds 105 ∷ []) (seconds 60 ∷ fault output ∷ seconds 3540 ∷ [])

abbrev pub overwritten_left : Writable → History
overwritten_left h = history 80 (on ∷ set h 800000600 ∷ seconds 100 ∷ []) (seconds 2 ∷ set h 800000102 ∷ seconds 3 ∷ set h 800000105 ∷ seconds 3600 ∷ [])

pub record Computed : Type 0 where
  pub writable : Writable
  -- the stamps are 595 seconds apart, the reads 5
  pub story : result_by (beast_by carry_of) (story_left writable) (story_right writable) 5 ≡ told 800000700 800000105 3605 3600 (Ok One)
  pub narrower : result_by (beast_by carry_of) (story_left writable) (story_right writable) 4 ≡ told 800000700 800000105 3605 3600 (Ok Two)
  pub other_way : result_by (beast_by carry_of) (story_right writable) (story_left writable) 5 ≡ told 800000105 800000700 3600 3605 (Ok One)
  pub faulted : result_by (beast_by carry_of) (story_left writable) (faulted_right writable) 5 ≡ told 800000700 800000105 3605 3600 (Err (RightRefused 13))
  pub overwritten : result_by (beast_by carry_of) (overwritten_left writable) (faulted_right writable) 5 ≡ told 800000700 800000105 3605 3600 (Err (LeftRefused 12))
