-- By computing.
use mathlib.Core.Path.{refl}
use native.Mathlib.Omega.{arith}
use Rattle.theorems_stamps.proofs.WriteLaws.{writable}
use Rattle.theorems_bytes.proofs.CaseLaws.{two_bytes, newer_bytes}
use Rattle.theorems_copies.specs.CasesAt.{copied_in, went_on_in}
use Rattle.theorems_copies.proofs.copies.computed_at.Goals as goal

pub returns : goal.returns
unfolding copied_in went_on_in
returns c =
    record {
      writable = writable;
      asks = λ n. two_bytes 1 (omega arith);
      asks_newer = λ n. newer_bytes 4;
      in_five = refl;
      in_two = refl;
      on_in_five = refl;
    }
