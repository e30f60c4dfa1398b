-- A state that says more than 45 bytes is read as its 45, and no record has so many.
-- Assumes nothing.
use mathlib.Core.Path.{◌≡◌}
use mathlib.Core.Bool.{false}
use mathlib.Core.List.{List}
use mathlib.Core.Logic.{⊎_elim}
use Prim.Native.Nat.{ℕ, ◌≤◌, ◌<◌}
use native.Mathlib.Omega.{arith}
use lib.ListN.{length}
use lib.Seq.{take_all}
use Rattle.octets.proofs.Tests.{false_by, both_reads}
use Rattle.record_write.specs.Layout.{shape_b, record_of}
use Rattle.record_read.specs.Reading.{record_b, well_formed_b, read_of}
use Rattle.record_read.proofs.ShapeLaws.{sized_reads, shape_sized}
use Rattle.record.specs.Fields.{most_bytes}
use Rattle.joining.specs.Reading.{read_joined_of}
use Rattle.joining.specs.declared.joining.Joining.{Joining}
use Rattle.std.proofs.Common.{None}

no_record : (b : List ℕ) → length b ≡ most_bytes → well_formed_b b ≡ false
unfolding well_formed_b
no_record b e =
    false_by _ (λ h. ⊎_elim (λ s. omega arith) (λ s. omega arith) (sized_reads _ _ (shape_sized b (both_reads (shape_b b) (record_b (record_of b)) h).0)))

pub too_long : (j : Joining) → length j.bytes ≡ most_bytes → most_bytes < j.len → read_joined_of j ≡ None
unfolding read_joined_of read_of
too_long j e h = let h45 : length j.bytes ≤ j.len = omega arith in rw (take_all j.len j.bytes, no_record j.bytes e)
