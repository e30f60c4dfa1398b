-- One more byte in front of bytes; so the writes of the cases are bytes.
-- Assumes nothing.
use mathlib.Core.List.{List, [], ◌∷◌}
use Prim.Native.Nat.{ℕ, zero, suc, ◌<◌}
use native.Mathlib.Omega.{arith}
use Rattle.octets.specs.Numbers.{at, bytes4}
use Rattle.octets.specs.Parts.{Bytes}
use Rattle.octets.proofs.NumberLaws.{bytes_four}
use Rattle.octets.proofs.PartLaws.{bytes_append}
use Rattle.theorems_stamps.specs.Cases.{Writable}

pub bytes_cons : (x : ℕ) (l : List ℕ) → x < 256 → Bytes l → Bytes (x ∷ l)
bytes_cons x l h k = record { byte = go }
  where
    go : (i : ℕ) → at (x ∷ l) i < 256
    go zero = h
    go (suc i) = k.byte i

pub bytes_nil : Bytes []
bytes_nil = record { byte = λ i. omega arith }

pub writable : Writable
writable b =
    bytes_cons 3 _ (omega arith)
    (bytes_cons 0x43 _ (omega arith)
    (bytes_cons 0 _ (omega arith)
    (bytes_append (bytes4 b) _ (bytes_four b)
    (bytes_cons 4 _ (omega arith) (bytes_cons 0 _ (omega arith) (bytes_cons 2 _ (omega arith) (bytes_cons 1 _ (omega arith) bytes_nil)))))))
