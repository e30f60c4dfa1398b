-- Reading, keeping and carrying, by what they answer.
-- Assumes nothing.
use mathlib.Core.Path.{◌≡◌, sym, ap, ◌∙◌}
use mathlib.Core.Bool.{true, false}
use mathlib.Core.List.{List}
use Prim.Native.Nat.{ℕ}
use lib.IntN.{ℤ, pos, negsuc}
use lib.ListN.{length}
use Rattle.record_write.specs.Layout.{update_read, fault_read, record_of}
use Rattle.record_read.specs.Reading.{well_formed_b, read_of}
use Rattle.record_read.proofs.FormLaws.{is_update, is_fault}
use Rattle.record.specs.declared.kinds.Record.TheVariants.{TimeUpdate, TimeFault}
use Rattle.record.specs.declared.kinds.Record.{Record}
use Rattle.keep.specs.Keep.{Keeping, keeping, keep_of, keeping_number}
use Rattle.carry.specs.Stamp.{carry_of, carrying_number}
use Rattle.state_bytes.specs.Results.{refusal}
use Rattle.tablet_bytes.specs.Calls.{fields_in, reading, read_at, kept_bytes, keep_at, carrying, stamp_after, carry_at}
use Rattle.carry.specs.declared.stamp.CarryError.{CarryError}
use Rattle.keep.specs.declared.keep.KeepError.{KeepError}
use Rattle.std.proofs.Common.{Result}

-- reading: refused, or a record of either type by its length
module _ (b f : List ℕ) where
  pub read_none : well_formed_b b ≡ false → reading (negsuc 10) f ≡ read_at b f
  unfolding read_at read_of
  read_none h = rw h

  read_record : well_formed_b b ≡ true → {k : Record} → record_of b ≡ k → {g : List ℕ} → g ≡ fields_in k → reading (pos 0) g ≡ read_at b f
  unfolding read_at read_of
  read_record h d e = rw (h, e, d)

  pub read_update : length b ≡ 24 → well_formed_b b ≡ true → {g : List ℕ} → g ≡ fields_in (TimeUpdate (update_read b)) → reading (pos 0) g ≡ read_at b f
  read_update n h = read_record h (is_update b n h)

  pub read_fault : length b ≡ 20 → well_formed_b b ≡ true → {g : List ℕ} → g ≡ fields_in (TimeFault (fault_read b)) → reading (pos 0) g ≡ read_at b f
  read_fault n h = read_record h (is_fault b n h)

-- keeping: whatever it answers
pub keep_told : (t b : List ℕ) {u : List ℕ} {r k : Result (Unit {0}) KeepError} → keeping r u ≡ keep_of t b → r ≡ k
    → kept_bytes (refusal (keeping_number k)) u ≡ keep_at t b
unfolding keep_at
keep_told t b {u} e d =
    ap (λ (x : Result (Unit {0}) KeepError). kept_bytes (refusal (keeping_number x)) u) (sym d)
    ∙ ap (λ (x : Keeping). kept_bytes (refusal (keeping_number x.answer)) x.table) e

-- carrying: whatever it answers
pub carry_told : (stamp q : ℕ) (t : List ℕ) (y : ℤ) {r k : Result ℤ CarryError} → r ≡ carry_of stamp q t → r ≡ k
    → carrying (refusal (carrying_number k)) (stamp_after y k) ≡ carry_at stamp q t y
unfolding carry_at
carry_told stamp q t y e d = ap (λ (x : Result ℤ CarryError). carrying (refusal (carrying_number x)) (stamp_after y x)) (sym d ∙ e)
