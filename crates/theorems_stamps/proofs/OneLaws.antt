-- The theorem Carried stamp leaves a way of carrying no choice: 12 and 13 are said, and the difference determines what was carried.
-- Assumes nothing.
use mathlib.Core.Path.{◌≡◌, refl, sym, ◌∙◌, ap}
use mathlib.Core.Bool.{Bool, true, false}
use mathlib.Core.List.{List}
use Prim.Native.Nat.{ℕ}
use native.Mathlib.Omega.{arith}
use lib.Dec.{eqb}
use lib.IntN.{ℤ, pos, ◌+ℤ◌, ◌-ℤ◌, +ℤ_comm, +ℤ-neg_ℤ_cancel, -ℤ-+ℤ_cancel}
use Rattle.octets.proofs.Tests.{clash}
use Rattle.carry.specs.Stamp.{carrying_number, no_fault_b}
use Rattle.theorems_reports.specs.World.{World, Call}
use Rattle.theorems_stamps.specs.Stamps.{logged_of, Carrying, carried_after, all_held_b, Carries}
use Rattle.theorems_stamps.specs.Wrong.{OneCarrying}
use Rattle.carry.specs.declared.stamp.CarryError.{CarryError}
use Rattle.carry.specs.declared.stamp.CarryError.TheVariants.{FaultAmong, NotHeld, TableNotSound}
use Rattle.std.proofs.Common.{Err, Ok, Result}

-- an answer of 0 carries a stamp
pub data Answered : Result ℤ CarryError → Type 0 where
  to : (z : ℤ) → Answered (Ok z)

pub answered : (x : Result ℤ CarryError) → eqb (carrying_number x) 0 ≡ true → Answered x
unfolding carrying_number
answered (Ok z) h = to z
answered (Err TableNotSound) h = absurd (clash false h refl)
answered (Err NotHeld) h = absurd (clash false h refl)
answered (Err FaultAmong) h = absurd (clash false h refl)

-- a - x = d = a - y
cancel : (a d x y : ℤ) → a -ℤ x ≡ d → a -ℤ y ≡ d → x ≡ y
cancel a d x y p q = sym (back x p) ∙ back y q
  where
    back : (z : ℤ) → a -ℤ z ≡ d → a -ℤ d ≡ z
    back z e =
        ap (λ (b : ℤ). b -ℤ d) (sym (-ℤ-+ℤ_cancel a z) ∙ ap (λ (b : ℤ). b +ℤ z) e ∙ +ℤ_comm d z) ∙ +ℤ-neg_ℤ_cancel z d

pub same_answer : (c r : ℕ) (x y : Result ℤ CarryError) → Answered x → Answered y → ((z : ℤ) → x ≡ Ok z → pos c -ℤ z ≡ pos r)
    → ((z : ℤ) → y ≡ Ok z → pos c -ℤ z ≡ pos r) → x ≡ y
same_answer c r x y (to z) (to w) h k = ap Ok (cancel (pos c) (pos r) z w (h z refl) (k w refl))

one : (a b : Carrying) (v : World) (after : List Call) → Carries a v after → Carries b v after → carried_after a v after ≡ carried_after b v after
one a b v after x y = go (all_held_b v after) (no_fault_b (logged_of v after)) refl refl
  where
    go : (p q : Bool) → all_held_b v after ≡ p → no_fault_b (logged_of v after) ≡ q → carried_after a v after ≡ carried_after b v after
    go false q h k = x.not_held h ∙ sym (y.not_held h)
    go true false h k = x.fault h k ∙ sym (y.fault h k)
    go true true h k =
        same_answer _ _ _ _ (answered _ (simp (h, k) at x.exactly)) (answered _ (simp (h, k) at y.exactly)) x.difference y.difference

pub one_carrying : OneCarrying
one_carrying a b x y t before after h few = one a b _ after (x t before after h (omega (arith, few))) (y t before after h (omega (arith, few)))
