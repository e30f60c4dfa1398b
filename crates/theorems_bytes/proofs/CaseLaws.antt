-- The cases, computed on the definitions.
-- Assumes nothing.
use mathlib.Core.Path.{refl}
use mathlib.Core.List.{[], ◌∷◌}
use Prim.Native.Nat.{ℕ, ◌<◌}
use native.Mathlib.Omega.{arith}
use Rattle.octets.specs.Numbers.{bytes2}
use Rattle.octets.specs.Parts.{Bytes}
use Rattle.octets.proofs.NumberLaws.{bytes_two}
use Rattle.theorems_stamps.proofs.WriteLaws.{bytes_cons, bytes_nil, writable}
use Rattle.theorems_bytes.specs.Cases.{seen_of, heard_of, running_after, Computed}

pub two_bytes : (x : ℕ) → x < 256 → Bytes (x ∷ 1 ∷ [])
two_bytes x h = bytes_cons x _ h (bytes_cons 1 [] (omega arith) bytes_nil)

-- a report of the record n and all newer
pub newer_bytes : (n : ℕ) → Bytes (1 ∷ 3 ∷ 1 ∷ bytes2 n)
newer_bytes n = bytes_cons 1 _ (omega arith) (bytes_cons 3 _ (omega arith) (bytes_cons 1 _ (omega arith) (bytes_two n)))

pub computed : Computed
unfolding seen_of heard_of running_after
computed =
    record {
      writable = writable;
      asks = λ n. two_bytes 1 (omega arith);
      combines = λ n. two_bytes 7 (omega arith);
      names = λ n. newer_bytes 2;
      case6 = refl;
      faulted = refl;
      again = refl;
      reported = refl;
      named = refl;
      needs_bytes = refl;
    }
