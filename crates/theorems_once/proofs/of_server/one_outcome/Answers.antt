-- Two outcomes that meet one equation are one: those by value by that alone, those of lent buffers by the parts of the whole (`split`), and
-- what was answered as it is read back from the reply.
use mathlib.Core.Path.{sym, ◌∙◌, ap}
use Rattle.theorems_once.proofs.Whole.{split, split_back}
use Rattle.theorems_once.proofs.Answered.{answered_by, answered_back, told_by, told_back, said_by, said_back}
use Rattle.theorems_once.proofs.OfServer.{OneOutcome}
use Rattle.theorems_once.proofs.of_server.one_outcome.Goals as goal

theorem : OneOutcome
theorem =
    record {
      start = (λ κs a. tt, λ κs a x y u v h p q. split p q (λ w. (w.event.clock, w.event.answer)) (λ w. (w.table, tt)));
      seconds = (λ κs a. tt, λ κs a x y u v h p q. split p q (λ w. w.answer) (λ w. (w.clock, (tt, tt))));
      switches = (λ κs a. tt, λ κs a x y u v h p q. split p q (λ w. w.answer) (λ w. (w.clock, (tt, (tt, (tt, tt))))));
      disconnect = (λ κs a. tt, λ κs a x y u v h p q. split p q (λ w. w.answer) (λ w. (w.clock, tt)));
      fault = (
        λ κs a. tt,
        λ κs a x y u v h p q. split_back p q (λ w. answered_by w.reply) (λ w. (w.reply.clock, (w.table, (w.output, tt)))) (answered_back x u.0) (answered_back y v.0),
      );
      time_update_lem = (
        λ κs a. tt,
        λ κs a x y u v h p q. split_back p q (λ w. answered_by w.reply) (λ w. (w.reply.clock, (w.table, (tt, (w.output, tt))))) (answered_back x u.0) (answered_back y v.0),
      );
      record_access_lem = (
        λ κs a. tt,
        λ κs a x y u v h p q. split_back p q (λ w. answered_by w.reply) (λ w. (w.reply.clock, (tt, (tt, (w.output, tt))))) (answered_back x u.0) (answered_back y v.0),
      );
      notify = (
        λ κs a. tt,
        λ κs a x y u v h p q. split_back p q (λ w. said_by w.reply) (λ w. (w.reply.clock, (tt, (tt, (w.output, tt))))) (said_back x u.0) (said_back y v.0),
      );
      device_time_lem = (
        λ κs a. tt,
        λ κs a x y u v h p q. split_back p q (λ w. answered_by w.reply) (λ w. (tt, (tt, (w.output, tt)))) (answered_back x a.0) (answered_back y a.0),
      );
      feature = (λ κs a. tt, λ κs a x y u v h p q. split_back p q (λ w. told_by w.value) (λ w. (w.output, tt)) (told_back x) (told_back y));
      parameters = (λ κs a. tt, λ κs a x y u v h p q. split_back p q (λ w. told_by w.value) (λ w. (w.output, tt)) (told_back x) (told_back y));
    }

pub returns : goal.returns
returns c = let holds : OneOutcome = theorem in tt
