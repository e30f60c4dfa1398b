-- The cases, computed on the definitions.
-- Assumes nothing.
use mathlib.Core.Path.{refl}
use native.Mathlib.Omega.{arith}
use Rattle.theorems_stamps.proofs.WriteLaws.{bytes_cons, bytes_nil, writable}
use Rattle.theorems_bytes.proofs.CaseLaws.{two_bytes}
use Rattle.theorems_handed_bytes.specs.Cases.{result_at, Computed}

pub computed : Computed
unfolding result_at
computed =
    record {
      writes =
          record {
            writable = writable;
            asks = two_bytes 1 (omega arith);
            aborts = bytes_cons 3 _ (omega arith) (bytes_cons 0 _ (omega arith) bytes_nil);
          };
      finished = refl;
      abort_inside = refl;
      fault_inside = refl;
      disconnect_inside = refl;
      start_inside = refl;
      abort_before = refl;
      abort_last = refl;
      abort_anew = refl;
    }
