-- Two outcomes that meet one equation are one: those by value by that alone, those of lent buffers by the parts of the whole (`split`).
use mathlib.Core.Path.{refl, sym, ◌∙◌}
use Rattle.theorems_once.proofs.Whole.{split}
use Rattle.theorems_once.proofs.OfSalvage.{OneOutcome}
use Rattle.theorems_once.proofs.of_salvage.one_outcome.Goals as goal

theorem : OneOutcome
theorem =
    record {
      start_ok = (λ κs a. tt, λ κs a x y u v h p q. (p ∙ sym q, refl));
      found_in = λ κs a x y u v h p q. (p ∙ sym q, refl);
      begin_of_lem = λ κs a x y u v h p q. (p ∙ sym q, refl);
      run_of = λ κs a x y u v h p q. (p ∙ sym q, refl);
      new_header_lem = λ κs a x y u v h p q. (p ∙ sym q, refl);
      put_table = λ κs a x y u v h p q. split p q (λ t. tt) (λ t. (t, (tt, (tt, tt))));
      get48 = λ κs a x y u v h p q. (p ∙ sym q, refl);
      entry = (λ κs a. tt, λ κs a x y u v h p q. (p ∙ sym q, refl));
      put_entry = λ κs a x y u v h p q. split p q (λ w. w.end) (λ w. (w.buffer, (tt, (tt, (tt, (tt, (tt, tt)))))));
      put_fields = λ κs a x y u v h p q. split p q (λ w. w.end) (λ w. (w.buffer, (tt, (tt, tt))));
      unkept_length = λ κs a x y u v h p q. (p.0 ∙ sym q.0, refl);
      put_unkept = λ κs a x y u v h p q. split p q (λ w. w.end) (λ w. (w.buffer, (tt, (tt, (tt, tt)))));
      salvage = (λ κs a. tt, λ κs a x y u v h p q. split p q (λ w. w.answer) (λ w. (tt, (w.table, (w.report, tt)))));
      salvage_number_lem = (λ κs a. tt, λ κs a x y u v h p q. (p ∙ sym q, refl));
      salvage_at_lem = (λ κs a. tt, λ κs a x y u v h p q. split p q (λ w. w.result) (λ w. (tt, (w.table, (w.report, tt)))));
      entry_line_lem = λ κs a x y u v h p q. (p.0 ∙ sym q.0, refl);
      refused_line_lem = (λ κs a. tt, λ κs a x y u v h p q. (p.0 ∙ sym q.0, refl));
      tell = (λ κs a. tt, λ κs a x y u v h p q. split p q (λ w. record { table = w.table.end; told = w.told.end }) (λ w. (tt, (w.table.buffer, (w.told.buffer, tt)))));
    }

pub returns : goal.returns
returns c = let holds : OneOutcome = theorem in tt
