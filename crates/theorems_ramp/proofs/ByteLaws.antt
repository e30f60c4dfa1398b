-- One beast or two over bytes, from the theorem Carried stamp over bytes.
-- Assumes nothing.
use mathlib.Core.Path.{◌≡◌, refl, sym, ◌∙◌, ap}
use Prim.Native.Nat.{ℕ, zero, suc}
use native.Mathlib.Omega.{arith}
use borrow.Author.Tests.{ne_eqb}
use lib.Dec.{eqb}
use lib.IntN.{ℤ, pos, negsuc, ◌-ℤ◌}
use Rattle.carry.specs.Stamp.{carry_of, carrying_number}
use Rattle.ramp.specs.Beast.{beast_by, one_beast_of}
use Rattle.state_bytes.specs.Results.{refusal}
use Rattle.tablet_bytes.specs.Calls.{CarriedTo, carrying, stamp_after, carry_at}
use Rattle.ramp_bytes.specs.Calls.{result_of, one_beast_at}
use Rattle.theorems_bytes.specs.World.{run_at}
use Rattle.theorems_bytes.specs.Stamps.{zero_at, base_read, number_read, logged_at, faultless_b, all_held_at, CarriesAt}
use Rattle.theorems_bytes.proofs.StampLaws.{carried_stamp_at}
use Rattle.theorems_ramp.specs.OneBeastAt.{Reader, Started, at_read, ran_since, OneBeastAt}
use Rattle.theorems_ramp.proofs.BeastLaws.{SideIs, judged_is}
use Rattle.carry.specs.declared.stamp.CarryError.{CarryError}
use Rattle.carry.specs.declared.stamp.CarryError.TheVariants.{FaultAmong, NotHeld, TableNotSound}
use Rattle.std.proofs.Common.{Err, Ok, Result}

-- what `dts_carry` answers says what carrying answered
zero_is : (n : ℕ) → zero_at (refusal n) ≡ eqb n 0
zero_is zero = refl
zero_is (suc n) = sym (ne_eqb (suc n) 0 (λ e. omega arith))

size : ℤ → ℕ
size (pos n) = n
size (negsuc n) = suc n

size_refusal : (n : ℕ) → size (refusal n) ≡ n
unfolding size
size_refusal zero = refl
size_refusal (suc n) = refl

same_number : (m n : ℕ) → refusal m ≡ refusal n → m ≡ n
same_number m n e = sym (size_refusal m) ∙ ap size e ∙ size_refusal n

is_not_held : (c : Result ℤ CarryError) → carrying_number c ≡ 12 → c ≡ Err NotHeld
unfolding carrying_number
is_not_held (Ok z) e = absurd (omega arith)
is_not_held (Err TableNotSound) e = absurd (omega arith)
is_not_held (Err NotHeld) e = refl
is_not_held (Err FaultAmong) e = absurd (omega arith)

is_fault : (c : Result ℤ CarryError) → carrying_number c ≡ 13 → c ≡ Err FaultAmong
unfolding carrying_number
is_fault (Ok z) e = absurd (omega arith)
is_fault (Err TableNotSound) e = absurd (omega arith)
is_fault (Err NotHeld) e = absurd (omega arith)
is_fault (Err FaultAmong) e = refl

-- what is carried on a side, by value
abbrev carried_of : Reader → Result ℤ CarryError
carried_of r = carry_of (base_read (at_read r) r.then) (number_read (at_read r) r.then) (run_at (at_read r) r.after).table

side_at : (r : Reader) → CarriesAt (at_read r) r.after r.then r.now (pos 0)
    → SideIs (carried_of r) (base_read (run_at (at_read r) r.after) r.now) (ran_since r) (all_held_at (at_read r) r.after) (faultless_b (logged_at (at_read r) r.after))
unfolding carry_at carrying_number
side_at r k = record {
  exactly = sym (zero_is (carrying_number (carried_of r))) ∙ k.exactly;
  difference = λ z e.
      let n : refusal (carrying_number (carried_of r)) ≡ pos 0 = rw e in
      ap (λ (c : Result ℤ CarryError). pos (base_read (run_at (at_read r) r.after) r.now) -ℤ stamp_after (pos 0) c) (sym e) ∙ k.difference n;
  not_held = λ h. is_not_held (carried_of r) (same_number _ 12 (ap (λ (x : CarriedTo). x.result) (k.not_held h)));
  fault = λ h n. is_fault (carried_of r) (same_number _ 13 (ap (λ (x : CarriedTo). x.result) (k.fault h n)));
}

carries_at : (r : Reader) → Started r → CarriesAt (at_read r) r.after r.then r.now (pos 0)
carries_at r s = carried_stamp_at r.state r.table r.before r.after r.then r.now (pos 0) s.state s.table s.then s.now s.few

pub one_beast_at_lem : OneBeastAt
unfolding one_beast_at one_beast_of beast_by
one_beast_at_lem l r window sl sr =
    ap result_of (judged_is window _ _ _ _ _ _ _ _ _ _ (side_at l (carries_at l sl)) (side_at r (carries_at r sr)))
