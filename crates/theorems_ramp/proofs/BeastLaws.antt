-- One beast or two from what carrying promises of each side: a side's carried stamp, taken from its clock, is the seconds that ran.
-- Assumes nothing.
use mathlib.Core.Path.{◌≡◌, refl, sym, ◌∙◌, ap, subst}
use mathlib.Core.Bool.{Bool, true, false, cond}
use mathlib.Core.List.{List}
use Rattle.std.proofs.Common.{Ok, Err, Result}
use Prim.Native.Nat.{ℕ, zero, suc, ◌+◌, ◌-◌}
use native.Mathlib.Omega.{arith}
use borrow.Author.Tests.{le-leb, ltb-true, ltb-false}
use lib.Dec.{T, leb, ltb, eqb}
use lib.IntN.{ℤ, pos, negsuc, nat_abs, ◌-ℤ◌}
use Rattle.octets.specs.Choice.{both, pick}
use Rattle.carry.specs.Stamp.{no_fault_b, carry_of, carrying_number}
use Rattle.ramp.specs.Beast.{Verdict, widest_window, age_of, within_b, judge_of, carried_or, verdict_of, beast_by}
use Rattle.ramp.specs.declared.beast.Beasts.TheVariants.{One, Two}
use Rattle.ramp.specs.declared.beast.RampError.TheVariants.{WindowTooWide, LeftRefused, RightRefused}
use Rattle.theorems_reports.specs.World.{World, new_world, Call, run_of}
use Rattle.theorems_stamps.specs.Stamps.{ran_of, logged_of, Carrying, carried_after, all_held_b, Carries}
use Rattle.theorems_stamps.proofs.StampLaws.{carried_stamp}
use Rattle.theorems_ramp.specs.OneBeast.{refusal_by, apart, truth_of, truth_after, OneBeast, ByCarrying, Between, BetweenReads}
use Rattle.carry.specs.declared.stamp.CarryError.{CarryError}
use Rattle.carry.specs.declared.stamp.CarryError.TheVariants.{FaultAmong, NotHeld, TableNotSound}

-- what carrying promises of a side: its answer c, the clock's time, the seconds that ran, and whether all later records are held without a fault
pub record SideIs (c : Result ℤ CarryError) (base ran : ℕ) (held faultless : Bool) : Type 0 where
  pub exactly : eqb (carrying_number c) 0 ≡ both held faultless
  pub difference : (z : ℤ) → c ≡ Ok z → pos base -ℤ z ≡ pos ran
  pub not_held : held ≡ false → c ≡ Err NotHeld
  pub fault : held ≡ true → faultless ≡ false → c ≡ Err FaultAmong

-- so what follows from a carried stamp's age follows from the seconds that ran
side_is : (c : Result ℤ CarryError) (base ran : ℕ) (held faultless : Bool) → SideIs c base ran held faultless → (then : ℤ → Verdict) (refused : ℕ → Verdict)
    → carried_or (λ z. then (age_of base z)) refused c
    ≡ pick (eqb (refusal_by held faultless) 0) (then (pos ran)) (refused (refusal_by held faultless))
unfolding carried_or age_of carrying_number
side_is c base ran false faultless s then refused = rw (s.not_held refl)
side_is c base ran true false s then refused = rw (s.fault refl refl)
side_is (Ok z) base ran true true s then refused = ap then (s.difference z refl)
side_is (Err TableNotSound) base ran true true s then refused = absurd (subst T (sym s.exactly) tt)
side_is (Err NotHeld) base ran true true s then refused = absurd (subst T (sym s.exactly) tt)
side_is (Err FaultAmong) base ran true true s then refused = absurd (subst T (sym s.exactly) tt)

-- two numbers of seconds are as far apart as their signed difference says
size_apart : (a b : ℕ) → nat_abs (pos a -ℤ pos b) ≡ apart a b
size_apart a zero = omega arith
size_apart a (suc b) = go (ltb a (suc b)) refl
  where
    go : (t : Bool) → ltb a (suc b) ≡ t → nat_abs (cond t (negsuc (suc b - suc a)) (pos (a - suc b))) ≡ apart a (suc b)
    go true e = let h = ltb-true a (suc b) e in omega arith
    go false e = let h = ltb-false a (suc b) e in omega arith

judge_is : (window a b : ℕ) → judge_of window (pos a) (pos b) ≡ pick (leb (apart a b) window) One Two
unfolding judge_of within_b
judge_is window a b = ap (λ (n : ℕ). pick (leb n window) One Two) (size_apart a b)

pub judged_is : (window : ℕ) (l r : Result ℤ CarryError) (lb lran rb rran : ℕ) (lh lf rh rf : Bool) → SideIs l lb lran lh lf → SideIs r rb rran rh rf
    → pick (leb window widest_window) (verdict_of window lb l rb r) (Err WindowTooWide) ≡ truth_of window (refusal_by lh lf) lran (refusal_by rh rf) rran
unfolding verdict_of truth_of
judged_is window l r lb lran rb rran lh lf rh rf sl sr =
    let nl = refusal_by lh lf in
    let nr = refusal_by rh rf in
    ap (λ (v : Verdict). pick (leb window widest_window) v (Err WindowTooWide))
    (side_is l lb lran lh lf sl (λ a. carried_or (λ z. Ok (judge_of window a (age_of rb z))) (λ n. Err (RightRefused n)) r) (λ n. Err (LeftRefused n))
    ∙ ap (λ (v : Verdict). pick (eqb nl 0) v (Err (LeftRefused nl)))
    (side_is r rb rran rh rf sr (λ b. Ok (judge_of window (pos lran) b)) (λ n. Err (RightRefused n))
    ∙ ap (λ (v : Verdict). pick (eqb nr 0) v (Err (RightRefused nr))) (ap Ok (judge_is window lran rran))))

-- a side, from the theorem Carried stamp
side_of : (carry : Carrying) (v : World) (after : List Call) → Carries carry v after
    → SideIs (carried_after carry v after) (run_of v after).clock.time.base (ran_of v after) (all_held_b v after) (no_fault_b (logged_of v after))
side_of carry v after k = record { exactly = k.exactly; difference = k.difference; not_held = k.not_held; fault = k.fault }

pub by_carrying : ByCarrying
unfolding beast_by
by_carrying carry p lt rt lb la rb ra window hl hr fl fr =
    let l = run_of (new_world lt) lb in
    let r = run_of (new_world rt) rb in
    judged_is window _ _ _ _ _ _ _ _ _ _ (side_of carry l la (p lt lb la hl fl)) (side_of carry r ra (p rt rb ra hr fr))

pub one_beast : OneBeast (beast_by carry_of)
one_beast = by_carrying carry_of carried_stamp

-- by the seconds between the reads
ahead : (x n : ℕ) → apart (x + n) n ≡ x
ahead x n = omega arith

behind : (x n : ℕ) → apart n (x + n) ≡ x
behind x n = omega arith

pub between_reads : BetweenReads
unfolding truth_of
between_reads lt rt lb la rb ra window hl hr w fl fr lh lf rh rf =
    let l = run_of (new_world lt) lb in
    let r = run_of (new_world rt) rb in
    let e : truth_after l la r ra window ≡ Ok (pick (leb (apart (ran_of l la) (ran_of r ra)) window) One Two) = simp (le-leb window widest_window w, lh, lf, rh, rf) in
    let t = one_beast lt rt lb la rb ra window hl hr fl fr ∙ e in
    record {
      left_first = λ x n a b. t ∙ rw (a, b, ahead x n);
      right_first_lem = λ x n a b. t ∙ rw (a, b, behind x n);
    }
