-- Records compared field by field are compared as records; and of two rows of other lengths the answer is no.
-- Assumes nothing.
use mathlib.Core.Path.{◌≡◌, refl, ◌∙◌, ap}
use mathlib.Core.Bool.{true, false}
use mathlib.Core.List.{List, [], ◌∷◌}
use Prim.Native.Nat.{ℕ}
use native.Mathlib.Omega.{arith}
use lib.ListN.{length}
use Rattle.octets.specs.Parts.{same_b}
use Rattle.octets.specs.Numbers.{at}
use Rattle.octets.proofs.Tests.{clash, both_reads, both_yes, false_by}
use Rattle.octets.proofs.SameLaws.{same_reads, same_makes}
use Rattle.record_write.specs.Layout.{update_values, fault_values, update_from, fault_from}
use Rattle.record.specs.declared.kinds.Record.{Record}
use Rattle.record.specs.declared.kinds.Record.TheVariants.{TimeUpdate, TimeFault}
use Rattle.theorems_stamps.specs.Stamps.{values_of, same_records_b}

same_values : (x y : Record) → values_of x ≡ values_of y → x ≡ y
unfolding values_of update_values fault_values update_from fault_from
same_values (TimeUpdate u) (TimeUpdate w) h = ap (λ (l : List ℕ). TimeUpdate (update_from l)) h
same_values (TimeUpdate u) (TimeFault w) h = let z : ◌≡◌ {A = ℕ} 1 0 = ap (λ (l : List ℕ). at l 1) h in absurd (omega arith)
same_values (TimeFault u) (TimeUpdate w) h = let z : ◌≡◌ {A = ℕ} 0 1 = ap (λ (l : List ℕ). at l 1) h in absurd (omega arith)
same_values (TimeFault u) (TimeFault w) h = ap (λ (l : List ℕ). TimeFault (fault_from l)) h

pub same_records : (a b : List Record) → same_records_b a b ≡ true → a ≡ b
unfolding same_records_b
same_records [] [] h = refl
same_records [] (y ∷ b) h = absurd (clash false h refl)
same_records (x ∷ a) [] h = absurd (clash false h refl)
same_records (x ∷ a) (y ∷ b) h =
    let r = both_reads (same_b (values_of x) (values_of y)) (same_records_b a b) h in
    rw (same_values x y (same_reads (values_of x) (values_of y) r.0), same_records a b r.1)

pub same_itself : (a : List Record) → same_records_b a a ≡ true
unfolding same_records_b
same_itself [] = refl
same_itself (x ∷ a) = both_yes (same_makes (values_of x)) ∙ same_itself a

pub other_length : (a b : List Record) → (length a ≡ length b → ⊥) → same_records_b a b ≡ false
other_length a b h = false_by (same_records_b a b) (λ e. h (ap length (same_records a b e)))
