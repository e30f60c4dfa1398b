-- "Each slot is either kept or in the report, never both": what the report's bytes say of a slot, and where a slot that is kept stands then.
use Rattle.std.specs.Prelude.{◌≡◌, Bool, true, false, not, List, ℕ, zero, suc, ◌+◌, ◌*◌, ◌-◌, ◌/◌, ◌<◌, eqb, length, drop}
use Rattle.octets.specs.Choice.{both, either}
use Rattle.octets.specs.Numbers.{at, le16}
use Rattle.table.specs.Table.{slots_in, slot}
use Rattle.salvage_run.specs.Runs.{begin_of, run_of}
use Rattle.salvage_table.specs.Salvaged.{cleaned, salvaged_table}
use Rattle.salvage_report.specs.Report.{entry_length, place_of, turn_of, kept_b, report_of}
use Rattle.theorems_salvage.specs.Result.{Holds}

-- is there, among the first k entries, one of a slot at place i?
unfoldable pub noted_b : ℕ → ℕ → List ℕ → Bool
noted_b i zero r = false
noted_b i (suc k) r = either (both (eqb (at r 0) 0) (eqb (le16 r 2) i)) (noted_b i k (drop entry_length r))

abbrev pub reported_b : ℕ → List ℕ → Bool
reported_b i r = noted_b i (length r / entry_length) r

-- the slot at place i of a damaged table
pub record OneOf (t : List ℕ) (i : ℕ) : Type 0 where
  -- it is in the report exactly where it isn't kept
  pub either_or : reported_b i (report_of t) ≡ not (kept_b t i)
  -- where it is kept, its length byte and its record stand in the new table, as many slots after offset 16 as it was read after the run's first
  pub stands : kept_b t i ≡ true
      → let k = turn_of (slots_in (length t)) (place_of (begin_of t)) i - (run_of t).first in
      slot (salvaged_table t) (16 + 64 * k) ≡ cleaned (slot t (16 + 64 * i))

abbrev pub KeptOrReported : Type 0
KeptOrReported = (t : List ℕ) → Holds t → (i : ℕ) → i < slots_in (length t) → OneOf t i
