-- Numbers of 16 and 32 bits go into bytes and come back, and bytes into numbers and back.
-- Assumes nothing.
use mathlib.Core.Path.{◌≡◌}
use mathlib.Core.List.{List, [], ◌∷◌}
use Prim.Native.Nat.{ℕ, zero, suc, ◌+◌, ◌*◌, ◌/◌, ◌%◌, ◌<◌}
use native.Mathlib.Nat.{div-div-eq-div-mul, div-add-mod', mod-eq_of_lt}
use native.Mathlib.Omega.{arith}
use Rattle.octets.specs.Numbers.{at, le16, le32, bytes2, bytes4}
use Rattle.octets.specs.Parts.{Bytes}
use Rattle.octets.proofs.PartLaws.{bytes_append}

pub two : (n : ℕ) → n < 65536 → n % 256 + 256 * (n / 256 % 256) ≡ n
two n h = omega arith

lin : (o a b c x y z w : ℕ) → a * 256 + x ≡ o → b * 256 + y ≡ a → c * 256 + z ≡ b → w ≡ c → x + 256 * y + 65536 * (z + 256 * w) ≡ o
lin o a b c x y z w p q r k = omega arith

pub four : (n : ℕ) → n < 4294967296
    → n % 256 + 256 * (n / 256 % 256) + 65536 * (n / 65536 % 256 + 256 * (n / 16777216 % 256)) ≡ n
four n h =
    lin n (n / 256) (n / 65536) (n / 16777216) (n % 256) (n / 256 % 256) (n / 65536 % 256) (n / 16777216 % 256)
    (div-add-mod' n 256)
    (rw (div-div-eq-div-mul n 256 256) at (div-add-mod' (n / 256) 256))
    (rw (div-div-eq-div-mul n 65536 256) at (div-add-mod' (n / 65536) 256))
    (mod-eq_of_lt (omega arith))

pub le16_small : (t : List ℕ) (i : ℕ) → Bytes t → le16 t i < 65536
le16_small t i h = omega (arith, h.byte i, h.byte (i + 1))

pub le32_small : (t : List ℕ) (i : ℕ) → Bytes t → le32 t i < 4294967296
le32_small t i h = omega (arith, le16_small t i h, le16_small t (i + 2) h)

pub bytes_two : (n : ℕ) → Bytes (bytes2 n)
bytes_two n = record { byte = go }
  where
    go : (i : ℕ) → at (bytes2 n) i < 256
    go zero = omega arith
    go (suc zero) = omega arith
    go (suc (suc i)) = omega arith

pub bytes_four : (n : ℕ) → Bytes (bytes4 n)
bytes_four n = bytes_append (bytes2 n) (n / 65536 % 256 ∷ n / 16777216 % 256 ∷ []) (bytes_two n) (record { byte = go })
  where
    go : (i : ℕ) → at (n / 65536 % 256 ∷ n / 16777216 % 256 ∷ []) i < 256
    go zero = omega arith
    go (suc zero) = omega arith
    go (suc (suc i)) = omega arith
