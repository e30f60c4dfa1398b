-- By ShownLaws.
use Rattle.record.specs.declared.kinds.Record.TheVariants.{TimeUpdate}
use Rattle.record_read.specs.Reading.{record_b}
use Rattle.table_look.proofs.KindLaws.{held_rules}
use Rattle.theorems_calendar.proofs.ShownLaws.{clock_time, local_known, shown, too_late, no_zone, no_dst, no_fields}
use Rattle.theorems_calendar.proofs.shown.on_the_calendar.Goals as goal

pub returns : goal.returns
unfolding record_b
returns c =
    record {
      clock_time = clock_time;
      local_time_lem = λ t u s h zone dst. local_known u zone dst (held_rules t h.age (TimeUpdate u) h.newer s h.here);
      shown = shown;
      too_late = too_late;
      no_zone = no_zone;
      no_dst = no_dst;
      fault = no_fields;
    }
