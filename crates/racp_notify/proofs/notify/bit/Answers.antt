-- One for true, none for false.
use mathlib.Core.Path.{◌≡◌, refl}
use mathlib.Core.Bool.{Bool, true, false}
use Prim.Native.Nat.{ℕ, ◌≤◌}
use mir.Val.{bool_byte}
use native.Mathlib.Omega.{arith}
use Rattle.racp_notify.specs.Notify.{bit}
use Rattle.racp_notify.proofs.notify.bit.Goals as goal

-- a truth value's byte
byte : (b : Bool) → (bool_byte b ≡ bit b) × (bool_byte b ≤ 1)
byte true = (refl, omega arith)
byte false = (refl, omega arith)

pub returns : goal.returns
returns c = byte c.args.b
