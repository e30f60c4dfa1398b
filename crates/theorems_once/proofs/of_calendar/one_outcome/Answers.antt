-- Two outcomes that meet one equation are one: those by value by that alone, those of lent buffers by the parts of the whole (`split`).
use mathlib.Core.Path.{refl, sym, ◌∙◌}
use Rattle.theorems_once.proofs.Whole.{split}
use Rattle.theorems_once.proofs.OfCalendar.{OneOutcome}
use Rattle.theorems_once.proofs.of_calendar.one_outcome.Goals as goal

theorem : OneOutcome
theorem =
    record {
      month_starts_lem = (λ κs a. tt, λ κs a x y u v h p q. (p ∙ sym q, refl));
      days_before_lem = λ κs a x y u v h p q. (p ∙ sym q, refl);
      date_of_seconds_lem = (λ κs a. tt, λ κs a x y u v h p q. (p ∙ sym q, refl));
      seconds_of_date_lem = (λ κs a. tt, λ κs a x y u v h p q. (p ∙ sym q, refl));
      put_dated = λ κs a x y u v h p q. split p q (λ w. w.end) (λ w. (w.buffer, (tt, (tt, (tt, tt)))));
      put_number_and = λ κs a x y u v h p q. split p q (λ w. w.end) (λ w. (w.buffer, (tt, (tt, (tt, tt)))));
      local_of_lem = (λ κs a. tt, λ κs a x y u v h p q. (p ∙ sym q, refl));
      local_date_lem = (λ κs a. tt, λ κs a x y u v h p q. (p ∙ sym q, refl));
      put_record = λ κs a x y u v h p q. split p.0 q.0 (λ w. w.end) (λ w. (w.buffer, (tt, (tt, tt))));
      calendar = (λ κs a. tt, λ κs a x y u v h p q. split p q (λ w. w.end) (λ w. (tt, (w.buffer, tt))));
    }

pub returns : goal.returns
returns c = let holds : OneOutcome = theorem in tt
