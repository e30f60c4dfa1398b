-- What a client reads, with its result.
-- Assumes nothing.
use mathlib.Core.Path.{◌≡◌, ap, ◌∙◌}
use mathlib.Core.List.{List}
use Prim.Native.Nat.{ℕ, ◌≤◌}
use native.Mathlib.Omega.{arith}
use lib.IntN.{ℤ}
use Rattle.rows.specs.Reply.{Outcome, outcome, Reply}
use Rattle.characteristics.specs.Value.{Told, told, Value}
use Rattle.server_bytes.specs.Results.{result_of}
use Rattle.server_bytes.specs.ValuesRead.{shown, answered_bytes, telling}

pub value_short : {u v : Told} → u ≡ v → v.value.len ≤ 255 → u.value.len ≤ 511
value_short e h = rw e (omega arith)

pub value_told : {u : Told} {v : Value} {o : List ℕ} {z : ℤ} → told v o ≡ u → z ≡ result_of v.answer v.len → shown z o ≡ telling u
value_told {u} {v} {o} e d = ap (λ (x : ℤ). shown x o) d ∙ ap telling e

pub reply_told : {u : Outcome} {r : Reply} {t o : List ℕ} {z : ℤ}
    → outcome r t o ≡ u → z ≡ result_of r.answer r.len → shown z o ≡ answered_bytes u
reply_told {u} {r} {t} {o} e d = ap (λ (x : ℤ). shown x o) d ∙ ap answered_bytes e
