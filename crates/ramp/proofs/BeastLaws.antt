-- The answers of one beast or two, each over variables. Of carrying its promise alone is cited.
-- Assumes nothing.
use mathlib.Core.Path.{◌≡◌, refl, sym, ◌∙◌, ap}
use mathlib.Core.Bool.{Bool, true, false}
use mathlib.Core.List.{List}
use Rattle.std.proofs.Common.{Ok, Err, Result}
use Prim.Native.Nat.{ℕ, ◌≤◌, ◌<◌}
use borrow.Author.Tests.{le-leb, lt-leb}
use lib.Dec.{leb}
use lib.IntN.{ℤ}
use Rattle.octets.specs.Choice.{pick}
use Rattle.carry.specs.Stamp.{carry_of, carrying_number}
use Rattle.ramp.specs.Beast.{Verdict, widest_window, age_of, judge_of, carried_or, verdict_of, beast_by, one_beast_of, verdict_number, verdict_side}
use Rattle.ramp.specs.Theorems.{AnswersWhen, first_refusal, first_side}
use Rattle.ramp.specs.declared.beast.Seen.{Seen}
use Rattle.ramp.specs.declared.beast.RampError.TheVariants.{WindowTooWide, LeftRefused, RightRefused}
use Rattle.carry.specs.declared.stamp.CarryError.{CarryError}
use Rattle.carry.specs.declared.stamp.CarryError.TheVariants.{FaultAmong, NotHeld, TableNotSound}

-- what was not carried is refused
pub or_refused : (then : ℤ → Verdict) (refused : ℕ → Verdict) (c : Result ℤ CarryError) {n : ℕ} → ((z : ℤ) → c ≡ Ok z → ⊥) → n ≡ carrying_number c
    → refused n ≡ carried_or then refused c
unfolding carried_or
or_refused then refused (Ok z) h e = absurd (h z refl)
or_refused then refused (Err TableNotSound) h e = ap refused e
or_refused then refused (Err NotHeld) h e = ap refused e
or_refused then refused (Err FaultAmong) h e = ap refused e

pub or_carried : (then : ℤ → Verdict) (refused : ℕ → Verdict) (c : Result ℤ CarryError) (z : ℤ) → c ≡ Ok z → carried_or then refused c ≡ then z
unfolding carried_or
or_carried then refused c z e = rw e

-- the verdict by what was carried
module _ (window lb rb : ℕ) (left right : Result ℤ CarryError) where
  pub left_refused : {n : ℕ} → ((z : ℤ) → left ≡ Ok z → ⊥) → n ≡ carrying_number left → Err (LeftRefused n) ≡ verdict_of window lb left rb right
  unfolding verdict_of
  left_refused h e = or_refused _ (λ n. Err (LeftRefused n)) left h e

  pub right_refused : {n : ℕ} (l : ℤ) → left ≡ Ok l → ((z : ℤ) → right ≡ Ok z → ⊥) → n ≡ carrying_number right
      → Err (RightRefused n) ≡ verdict_of window lb left rb right
  unfolding verdict_of
  right_refused l e h n = or_refused _ (λ n. Err (RightRefused n)) right h n ∙ sym (or_carried _ (λ n. Err (LeftRefused n)) left l e)

  pub both_carried : (l r : ℤ) → left ≡ Ok l → right ≡ Ok r → verdict_of window lb left rb right ≡ Ok (judge_of window (age_of lb l) (age_of rb r))
  unfolding verdict_of
  both_carried l r e f = or_carried _ (λ n. Err (LeftRefused n)) left l e ∙ or_carried _ (λ n. Err (RightRefused n)) right r f

-- the call by its window
module _ (l : Seen) (lt : List ℕ) (r : Seen) (rt : List ℕ) (window : ℕ) where
  pub too_wide : widest_window < window → Err WindowTooWide ≡ one_beast_of l lt r rt window
  unfolding one_beast_of beast_by
  too_wide h = rw (lt-leb window widest_window h)

  pub narrow : window ≤ widest_window
      → one_beast_of l lt r rt window
      ≡ verdict_of window l.base (carry_of l.stamp l.next lt) r.base (carry_of r.stamp r.next rt)
  unfolding one_beast_of beast_by
  narrow h = rw (le-leb window widest_window h)

-- which answer comes when
number_is : (window lb rb : ℕ) (left right : Result ℤ CarryError)
    → verdict_number (verdict_of window lb left rb right) ≡ first_refusal (carrying_number left) (carrying_number right)
unfolding verdict_of carried_or verdict_number carrying_number
number_is window lb rb (Ok l) (Ok r) = refl
number_is window lb rb (Ok l) (Err TableNotSound) = refl
number_is window lb rb (Ok l) (Err NotHeld) = refl
number_is window lb rb (Ok l) (Err FaultAmong) = refl
number_is window lb rb (Err TableNotSound) right = refl
number_is window lb rb (Err NotHeld) right = refl
number_is window lb rb (Err FaultAmong) right = refl

side_is : (window lb rb : ℕ) (left right : Result ℤ CarryError)
    → verdict_side (verdict_of window lb left rb right) ≡ first_side (carrying_number left) (carrying_number right)
unfolding verdict_of carried_or verdict_side carrying_number
side_is window lb rb (Ok l) (Ok r) = refl
side_is window lb rb (Ok l) (Err TableNotSound) = refl
side_is window lb rb (Ok l) (Err NotHeld) = refl
side_is window lb rb (Ok l) (Err FaultAmong) = refl
side_is window lb rb (Err TableNotSound) right = refl
side_is window lb rb (Err NotHeld) right = refl
side_is window lb rb (Err FaultAmong) right = refl

pub answers : AnswersWhen
unfolding one_beast_of beast_by verdict_number verdict_side
answers l lt r rt window = record {
  number = by (leb window widest_window) verdict_number (number_is window l.base r.base left right);
  side = by (leb window widest_window) verdict_side (side_is window l.base r.base left right);
  judged = λ x y h e f. narrow l lt r rt window h ∙ both_carried window l.base r.base left right x y e f;
}
  where
    left : Result ℤ CarryError
    left = carry_of l.stamp l.next lt

    right : Result ℤ CarryError
    right = carry_of r.stamp r.next rt

    by : (b : Bool) (f : Verdict → ℕ) {v : Verdict} {n : ℕ} → f v ≡ n → f (pick b v (Err WindowTooWide)) ≡ pick b n (f (Err WindowTooWide))
    by true f e = e
    by false f e = refl
