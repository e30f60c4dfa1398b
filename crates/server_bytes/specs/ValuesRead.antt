-- What a client reads of the three characteristics, over the clock that the state's bytes stand for.
use Rattle.std.specs.Prelude.{List, ℕ, ℤ}
use Rattle.rows.specs.Reply.{Outcome}
use Rattle.characteristics.specs.Value.{Told, device_time_of, feature_of, parameters_of}
use Rattle.state_bytes.specs.State.{clock_of}
use Rattle.server_bytes.specs.Results.{result_of}

-- the result, and the output after it; state and table are only read
pub record Shown : Type 0 where
  pub result : ℤ
  pub output : List ℕ

abbrev pub shown : ℤ → List ℕ → Shown
shown z o = record { result = z; output = o }

abbrev pub answered_bytes : Outcome → Shown
answered_bytes u = shown (result_of u.reply.answer u.reply.len) u.output

unfoldable pub device_time_at : List ℕ → List ℕ → List ℕ → Shown
device_time_at s t o = answered_bytes (device_time_of (clock_of s) t o)

abbrev pub telling : Told → Shown
telling u = shown (result_of u.value.answer u.value.len) u.output

unfoldable pub feature_at : List ℕ → Shown
feature_at o = telling (feature_of o)

unfoldable pub parameters_at : List ℕ → Shown
parameters_at o = telling (parameters_of o)
