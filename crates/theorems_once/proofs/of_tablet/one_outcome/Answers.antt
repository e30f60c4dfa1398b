-- Two outcomes that meet one equation are one: those by value by that alone, those of lent bytes by the parts of the whole (`split`).
use mathlib.Core.Path.{refl, sym, ◌∙◌}
use mathlib.Core.List.{[]}
use Rattle.theorems_once.proofs.Whole.{split}
use Rattle.theorems_once.proofs.OfTablet.{OneOutcome}
use Rattle.theorems_once.proofs.of_tablet.one_outcome.Goals as goal

theorem : OneOutcome
theorem =
    record {
      join = (λ κs a. tt, λ κs a x y u v h p q. (p ∙ sym q, refl));
      takes = λ κs a x y u v h p q. (p [] ∙ sym (q []), refl);
      lay_body = λ κs a x y u v h p q. split (p 0) (q 0) (λ b. tt) (λ b. (b, (tt, (tt, (tt, tt)))));
      len_after = λ κs a x y u v h p q. (p 0 [] ∙ sym (q 0 []), refl);
      counter_after_lem = λ κs a x y u v h p q. (p ∙ sym q, refl);
      restart = (λ κs a. tt, λ κs a x y u v h p q. (p ∙ sym q, refl));
      number_of = λ κs a x y u v h p q. (p ∙ sym q, refl);
      read_joined = (λ κs a. tt, λ κs a x y u v h p q. (p ∙ sym q, refl));
      keep = (λ κs a. tt, λ κs a x y u v h p q. split p q (λ w. w.answer) (λ w. (w.table, (tt, tt))));
      kept_number = λ κs a x y u v h p q. (p ∙ sym q, refl);
      carry = (λ κs a. tt, λ κs a x y u v h p q. (p ∙ sym q, refl));
      carried_number = λ κs a x y u v h p q. (p ∙ sym q, refl);
    }

pub returns : goal.returns
returns c = let holds : OneOutcome = theorem in tt
