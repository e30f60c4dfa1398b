-- The computed cases: the table's elements are bytes, and its report is accepted.
-- Assumes nothing.
use mathlib.Core.Path.{◌≡◌, refl}
use mathlib.Core.Bool.{Bool, true}
use mathlib.Core.List.{List, [], ◌∷◌}
use Prim.Native.Nat.{ℕ, zero, suc, ◌<◌}
use native.Mathlib.Omega.{arith}
use borrow.Author.Tests.{ltb-true}
use lib.Dec.{ltb}
use Rattle.octets.specs.Choice.{both}
use Rattle.octets.specs.Numbers.{at}
use Rattle.octets.specs.Parts.{Bytes}
use Rattle.octets.proofs.Tests.{both_reads}
use Rattle.filter.specs.declared.filter.Filter.TheVariants.{All}
use Rattle.theorems_reports.specs.World.{world}
use Rattle.theorems_reports.specs.Hearing.{calm_b, all_calm_b}
use Rattle.theorems_reports.specs.Reports.{Accepted, report_begun, segments}
use Rattle.theorems_reports.specs.Closing.{answer_of, all_quiet_b, answered_in}
use Rattle.theorems_reports.specs.Cases.{table, records, reader, output, result_by, among, Among, Computed}

-- a list of bytes, computed
unfoldable pub octets_b : List ℕ → Bool
octets_b [] = true
octets_b (b ∷ l) = both (ltb b 256) (octets_b l)

pub octets_are : (l : List ℕ) → octets_b l ≡ true → Bytes l
unfolding octets_b
octets_are l h = record { byte = go l h }
  where
    go : (m : List ℕ) → octets_b m ≡ true → (i : ℕ) → at m i < 256
    go [] k i = omega arith
    go (b ∷ m) k zero = ltb-true b 256 (both_reads (ltb b 256) (octets_b m) k).0
    go (b ∷ m) k (suc i) = go m (both_reads (ltb b 256) (octets_b m) k).1 i

pub table_bytes_lem : Bytes table
unfolding octets_b table
table_bytes_lem = octets_are table refl

pub table_accepted : Accepted (world reader table) (1 ∷ 1 ∷ []) output All
unfolding result_by
table_accepted = record { asked = refl; done = refl; silent = refl }

closed_among : Among (report_begun (world reader table) (1 ∷ 1 ∷ []) output) among
unfolding result_by table records all_calm_b calm_b all_quiet_b answer_of answered_in segments
closed_among = record { quiet = refl; not_calm = refl; answered = refl; segments = refl; closed = refl }

pub computed : Computed
unfolding result_by table records
computed = record { bytes = table_bytes_lem; accepted = table_accepted; all = refl; combined = refl; faulted = refl; among = closed_among }
