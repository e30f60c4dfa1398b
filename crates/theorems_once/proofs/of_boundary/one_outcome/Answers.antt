-- Two outcomes that meet one equation are one: those by value by that alone, those of lent buffers by the parts of the whole (`split`).
use mathlib.Core.Path.{refl, sym, ◌∙◌}
use Rattle.theorems_once.proofs.Whole.{split}
use Rattle.theorems_once.proofs.OfBoundary.{OneOutcome}
use Rattle.theorems_once.proofs.of_boundary.one_outcome.Goals as goal

theorem : OneOutcome
theorem =
    record {
      start = (λ κs a. tt, λ κs a x y u v h p q. split p q (λ w. w.result) (λ w. (w.state, (w.table, tt))));
      seconds = (λ κs a. tt, λ κs a x y u v h p q. split p q (λ w. w.result) (λ w. (w.state, (tt, tt))));
      switches = (λ κs a. tt, λ κs a x y u v h p q. split p q (λ w. w.result) (λ w. (w.state, (tt, (tt, (tt, tt))))));
      disconnect = (λ κs a. tt, λ κs a x y u v h p q. split p q (λ w. w.result) (λ w. (w.state, tt)));
      fault = (λ κs a. tt, λ κs a x y u v h p q. split p q (λ w. w.result) (λ w. (w.state, (w.table, (w.output, tt)))));
      dtcp_write_lem = (λ κs a. tt, λ κs a x y u v h p q. split p q (λ w. w.result) (λ w. (w.state, (w.table, (tt, (w.output, tt))))));
      racp_write_lem = (λ κs a. tt, λ κs a x y u v h p q. split p q (λ w. w.result) (λ w. (w.state, (tt, (tt, (w.output, tt))))));
      notify = (λ κs a. tt, λ κs a x y u v h p q. split p q (λ w. w.result) (λ w. (w.state, (tt, (tt, (w.output, tt))))));
      device_time_lem = (λ κs a. tt, λ κs a x y u v h p q. split p q (λ w. w.result) (λ w. (tt, (tt, (w.output, tt)))));
      feature = (λ κs a. tt, λ κs a x y u v h p q. split p q (λ w. w.result) (λ w. (w.output, tt)));
      parameters = (λ κs a. tt, λ κs a x y u v h p q. split p q (λ w. w.result) (λ w. (w.output, tt)));
      join = (λ κs a. tt, λ κs a x y u v h p q. split p q (λ w. w.result) (λ w. (w.joining, (tt, tt))));
      read = (λ κs a. tt, λ κs a x y u v h p q. split p q (λ w. w.result) (λ w. (tt, (w.fields, tt))));
      keep = (λ κs a. tt, λ κs a x y u v h p q. split p q (λ w. w.result) (λ w. (w.table, (tt, tt))));
      carry = (λ κs a. tt, λ κs a x y u v h p q. split p q (λ w. w.result) (λ w. (tt, (tt, (tt, (w.carried, tt))))));
      salvage = (λ κs a. tt, λ κs a x y u v h p q. split p q (λ w. w.result) (λ w. (tt, (w.table, (w.report, tt)))));
      one_beast = (λ κs a. tt, λ κs a x y u v h p q. split p q (λ w. w.result) (λ w. (tt, (tt, (tt, (tt, (tt, (tt, (tt, (tt, (tt, (w.side, tt))))))))))));
      newest_update = (λ κs a. tt, λ κs a x y u v h p q. split p q (λ w. w.result) (λ w. (tt, (tt, (w.part, tt)))));
      fetch_tell = (λ κs a. tt, λ κs a x y u v h p q. split p q (λ w. w.result) (λ w. (w.map, (w.told, (tt, (tt, (tt, tt)))))));
      fetch_propose = (λ κs a. tt, λ κs a x y u v h p q. split p q (λ w. w.result) (λ w. (tt, (tt, (w.request, tt)))));
      fetch_take = (λ κs a. tt, λ κs a x y u v h p q. split p q (λ w. w.result) (λ w. (w.map, (tt, (tt, tt)))));
      fetch_received = (λ κs a. tt, λ κs a x y u v h p q. (p ∙ sym q, refl));
      att_error = (λ κs a. tt, λ κs a x y u v h p q. (p ∙ sym q, refl));
      image_of = λ κs a x y u v h p q. (p ∙ sym q, refl);
      clock_of_lem = λ κs a x y u v h p q. (p ∙ sym q, refl);
    }

pub returns : goal.returns
returns c = let holds : OneOutcome = theorem in tt
