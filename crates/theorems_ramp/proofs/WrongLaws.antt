-- Each wrong way to judge differs from what is true in a computed history; unsigned ages on an age below 0.
-- Assumes nothing.
use mathlib.Core.Path.{◌≡◌, refl, ◌∙◌, ap}
use mathlib.Core.Bool.{true, false}
use mathlib.Core.List.{[], ◌∷◌}
use Rattle.std.proofs.Common.{Ok, Err}
use Prim.Native.Nat.{ℕ, ◌+◌, ◌<◌}
use native.Mathlib.Omega.{arith}
use borrow.Author.Tests.{eq-eqb}
use lib.Dec.{eqb}
use lib.ListN.{length}
use Rattle.octets.proofs.Tests.{clash}
use Rattle.table.specs.Table.{size_b}
use Rattle.ramp.specs.Beast.{Verdict, widest_window, verdict_of, beast_by, one_beast_of}
use Rattle.ramp.specs.declared.beast.Beasts.TheVariants.{One, Two}
use Rattle.ramp.specs.declared.beast.RampError.TheVariants.{WindowTooWide, LeftRefused, RightRefused}
use Rattle.theorems_reports.specs.World.{seconds}
use Rattle.theorems_stamps.specs.Stamps.{logged_of}
use Rattle.theorems_stamps.specs.Cases.{set, on}
use Rattle.theorems_stamps.proofs.WriteLaws.{writable}
use Rattle.theorems_ramp.specs.OneBeast.{Judging, verdict_after, truth_after, OneBeast}
use Rattle.theorems_ramp.specs.Cases.{History, history, at_read, result_by, story_left, story_right, faulted_right}
use Rattle.theorems_ramp.specs.Wrong as wrong
use Rattle.theorems_ramp.specs.Wrong.{judge_with, ShutOut}

-- a verdict as one number
number : Verdict → ℕ
number (Ok One) = 1
number (Ok Two) = 2
number (Err WindowTooWide) = 18
number (Err (LeftRefused n)) = 100 + n
number (Err (RightRefused n)) = 200 + n

-- so few records were logged that the theorem speaks of the history
pub record Speaks (h : History) : Type 0 where
  pub size : size_b (length h.table) ≡ true
  pub few : length (logged_of (at_read h) h.after) < 65536

shut : (judge : Judging) (l r : History) (window : ℕ) → Speaks l → Speaks r
    → eqb (number (verdict_after judge (at_read l) l.after (at_read r) r.after window)) (number (truth_after (at_read l) l.after (at_read r) r.after window)) ≡ false
    → OneBeast judge → ⊥
shut judge l r window sl sr differs h =
    let truth = truth_after (at_read l) l.after (at_read r) r.after window in
    clash (eqb (number (verdict_after judge (at_read l) l.after (at_read r) r.after window)) (number truth))
    (ap (λ (v : Verdict). eqb (number v) (number truth)) (h l.table r.table l.before l.after r.before r.after window sl.size sr.size sl.few sr.few)
    ∙ eq-eqb (number truth) (number truth) refl)
    differs

-- the left clock stays ten minutes fast
abbrev fast : History
fast = history 208 (on ∷ set writable 800000600 ∷ seconds 100 ∷ []) (seconds 3605 ∷ [])

-- read a hundred seconds earlier
abbrev earlier : History
earlier = history 208 (on ∷ set writable 800000000 ∷ seconds 5 ∷ []) (seconds 3700 ∷ [])

fast_speaks : Speaks fast
unfolding result_by
fast_speaks = let few : 0 < 65536 = omega arith in record { size = refl; few = few }

earlier_speaks : Speaks earlier
unfolding result_by
earlier_speaks = let few : 0 < 65536 = omega arith in record { size = refl; few = few }

left_speaks : Speaks (story_left writable)
unfolding result_by
left_speaks = let few : 1 < 65536 = omega arith in record { size = refl; few = few }

right_speaks : Speaks (story_right writable)
unfolding result_by
right_speaks = let few : 0 < 65536 = omega arith in record { size = refl; few = few }

faulted_speaks : Speaks (faulted_right writable)
unfolding result_by
faulted_speaks = let few : 1 < 65536 = omega arith in record { size = refl; few = few }

by_stamps_out : OneBeast (judge_with widest_window wrong.by_stamps) → ⊥
unfolding result_by judge_with number
by_stamps_out = shut (judge_with widest_window wrong.by_stamps) fast (story_right writable) 5 fast_speaks right_speaks refl

stopping_out : OneBeast (judge_with widest_window wrong.stopping) → ⊥
unfolding result_by judge_with number
stopping_out = shut (judge_with widest_window wrong.stopping) (story_right writable) earlier 5 right_speaks earlier_speaks refl

wider_out : OneBeast (judge_with 61 wrong.by_ages) → ⊥
unfolding result_by judge_with number
wider_out = shut (judge_with 61 wrong.by_ages) (story_left writable) (story_right writable) 61 left_speaks right_speaks refl

right_first_out : OneBeast wrong.right_first → ⊥
unfolding result_by wrong.right_first number
right_first_out = shut wrong.right_first (faulted_right writable) (faulted_right writable) 5 faulted_speaks faulted_speaks refl

uncarried_out : OneBeast wrong.uncarried → ⊥
unfolding result_by wrong.uncarried number
uncarried_out = shut wrong.uncarried (story_left writable) (story_right writable) 5 left_speaks right_speaks refl

pub shut_out : ShutOut
unfolding result_by judge_with one_beast_of beast_by verdict_of wrong.unsigned number
shut_out = record {
  right = λ l lt r rt window. refl;
  by_stamps_lem = by_stamps_out;
  stopping = stopping_out;
  wider = wider_out;
  right_first_lem = right_first_out;
  uncarried = uncarried_out;
  unsigned = λ e. let n : ◌≡◌ {A = ℕ} 1 2 = ap number e in omega arith;
}
