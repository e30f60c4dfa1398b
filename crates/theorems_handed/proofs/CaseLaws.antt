-- The computed cases.
-- Assumes nothing.
use mathlib.Core.Path.{refl}
use native.Mathlib.Omega.{arith}
use Rattle.filter.specs.declared.filter.Filter.TheVariants.{All}
use Rattle.theorems_reports.specs.World.{world}
use Rattle.theorems_reports.specs.Reach.{Good}
use Rattle.theorems_reports.specs.Cases.{table, reader, output}
use Rattle.theorems_reports.proofs.CaseLaws.{table_bytes_lem}
use Rattle.theorems_handed.specs.Server.{right, Accepts}
use Rattle.theorems_handed.specs.Cases.{all, result_by, Computed}

pub reader_good : Good (world reader table)
unfolding result_by
reader_good = record { clock = refl; running = refl; faults = omega arith; sound = refl; next = omega arith; bytes = table_bytes_lem }

pub all_accepts : Accepts right (world reader table) all output All
unfolding result_by
all_accepts = record { asked = refl; done = refl; silent = refl }

pub computed : Computed
unfolding result_by
computed =
    record {
      good = reader_good;
      accepts = all_accepts;
      finished = refl;
      broken_abort = refl;
      abort_inside = refl;
      fault_inside = refl;
      disconnect_inside = refl;
      start_inside = refl;
      abort_anew = refl;
      abort_before = refl;
      fault_before = refl;
      disconnect_before = refl;
      abort_last = refl;
      fault_last = refl;
      disconnect_last = refl;
      asked = refl;
      unasked = refl;
    }
