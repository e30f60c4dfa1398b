-- Season figures (change request E12): "updates taken, seconds moved forward, seconds moved back, faults, and the largest move either way,
-- all exact". What one record comes to, two figures together, and a list of records.
use Rattle.std.specs.Prelude.{◌+◌, ◌-◌, ◌%◌, ◌^◌, max, List, [], ◌∷◌}
use Rattle.record.specs.declared.kinds.Record.{Record}
use Rattle.record.specs.declared.kinds.Record.TheVariants.{TimeUpdate, TimeFault}
use Rattle.season_figures.specs.declared.figures.Figures.{Figures}

unfoldable pub nothing : Figures
nothing = record { updates = 0; forward = 0; back = 0; faults = 0; largest = 0 }

-- A Time_Update moves the clock from its old base to its base: forward, back, or by nothing. (`a - b` is 0 where b is larger, so one of the
-- two differences is 0, and their sum is the move either way.) A Time_Fault is a fault, and its own jump is no move.
unfoldable pub figures_of : Record → Figures
figures_of (TimeUpdate u) =
    record {
      updates = 1;
      forward = u.base - u.oldbase;
      back = u.oldbase - u.base;
      faults = 0;
      largest = (u.base - u.oldbase) + (u.oldbase - u.base);
    }
figures_of (TimeFault f) = record { updates = 0; forward = 0; back = 0; faults = 1; largest = 0 }

-- both together: sums, and the larger of the largest moves
unfoldable pub sum_of : Figures → Figures → Figures
sum_of f g =
    record {
      updates = f.updates + g.updates;
      forward = f.forward + g.forward;
      back = f.back + g.back;
      faults = f.faults + g.faults;
      largest = max f.largest g.largest;
    }

-- the figures of records in a row
unfoldable pub figures_in : List Record → Figures
figures_in [] = nothing
figures_in (r ∷ l) = sum_of (figures_of r) (figures_in l)

-- what is left of sums in their widths: 32 bits for updates and faults, 64 for seconds. A run never reaches their ends (theorem Exact), but
-- whatever totals a step is handed, it has an answer.
unfoldable pub in_widths : Figures → Figures
in_widths f =
    record {
      updates = f.updates % 2 ^ 32;
      forward = f.forward % 2 ^ 64;
      back = f.back % 2 ^ 64;
      faults = f.faults % 2 ^ 32;
      largest = f.largest;
    }
