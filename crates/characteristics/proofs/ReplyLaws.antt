-- What reading a value answers: how long it is, and for Device Time what a clock that breaks a rule is answered.
-- Assumes nothing.
use mathlib.Core.Path.{◌≡◌, refl, ap, ◌∙◌}
use mathlib.Core.Bool.{Bool, true, false}
use mathlib.Core.List.{List}
use Prim.Native.Nat.{ℕ, ◌≤◌}
use native.Mathlib.Omega.{arith}
use lib.Dec.{leb}
use lib.ListN.{length}
use Rattle.octets.specs.Choice.{pick}
use Rattle.octets.specs.Parts.{over}
use Rattle.clock.specs.Obeys.{clock_b}
use Rattle.clock.specs.declared.state.Clock.{Clock}
use Rattle.rows.specs.Reply.{Outcome, done_b, answered}
use Rattle.rows.specs.Rows.{first_failed, table_rows}
use Rattle.rows.proofs.ReplyLaws.{broken_of, Replies, broken_refused, table_broken}
use Rattle.characteristics.specs.Value.{feature_bytes, parameters_bytes, device_time_bytes, device_time_of, Told, told, value, told_of, feature_of, parameters_of}
use Rattle.characteristics.proofs.ValueLaws.{device_time_refused, device_time_done}
use Rattle.clock.specs.declared.answers.Refusal.TheVariants.{OutputShort}
use Rattle.std.proofs.Common.{Err, Ok}

module _ (c : Clock) (t o : List ℕ) where
  device_time_short : (device_time_of c t o).reply.len ≤ 255
  unfolding answered device_time_bytes
  device_time_short = go (done_b (first_failed (table_rows c t (leb 20 (length o))))) refl
    where
      go : (b : Bool) → done_b (first_failed (table_rows c t (leb 20 (length o)))) ≡ b → (device_time_of c t o).reply.len ≤ 255
      go true h = rw (device_time_done c t o h) (omega arith)
      go false h = rw (device_time_refused c t o h) (omega arith)

  device_time_broken : clock_b c ≡ false → (device_time_of c t o).reply.answer ≡ broken_of t
  device_time_broken h =
      let e = table_broken c t (leb 20 (length o)) h in
      ap (λ (u : Outcome). u.reply.answer) (device_time_refused c t o (ap done_b e ∙ broken_refused t)) ∙ e

pub device_time_replies : (t o : List ℕ) → Replies t (λ c. (device_time_of c t o).reply.answer) (λ c. (device_time_of c t o).reply.len)
device_time_replies t o = record { short = λ c. device_time_short c t o; broken = λ c. device_time_broken c t o }

told_short : (v o : List ℕ) → length v ≤ 255 → (told_of v o).value.len ≤ 255
unfolding told_of
told_short v o h = go (leb 20 (length o))
  where
    go : (b : Bool) → let u : Told = pick b (told (value (Ok tt) (length v)) (over o 0 v)) (told (value (Err OutputShort) 0) o) in u.value.len ≤ 255
    go true = h
    go false = omega arith

pub feature_short : (o : List ℕ) → (feature_of o).value.len ≤ 255
unfolding feature_of
feature_short o = told_short feature_bytes o (omega arith)

pub parameters_short : (o : List ℕ) → (parameters_of o).value.len ≤ 255
unfolding parameters_of
parameters_short o = told_short parameters_bytes o (omega arith)
