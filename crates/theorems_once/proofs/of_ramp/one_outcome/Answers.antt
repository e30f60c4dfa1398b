-- Two outcomes that meet one equation are one: those by value by that alone, those of lent buffers by the parts of the whole (`split`).
use mathlib.Core.Path.{refl, sym, ◌∙◌}
use Rattle.theorems_once.proofs.Whole.{split}
use Rattle.theorems_once.proofs.OfRamp.{OneOutcome}
use Rattle.theorems_once.proofs.of_ramp.one_outcome.Goals as goal

theorem : OneOutcome
theorem =
    record {
      one_beast = (λ κs a. tt, λ κs a x y u v h p q. (p ∙ sym q, refl));
      verdict_number_lem = (λ κs a. tt, λ κs a x y u v h p q. (p ∙ sym q, refl));
      verdict_side_lem = (λ κs a. tt, λ κs a x y u v h p q. (p ∙ sym q, refl));
      later_update = (λ κs a. tt, λ κs a x y u v h p q. (p ∙ sym q, refl));
      newest_update = (λ κs a. tt, λ κs a x y u v h p q. (p ∙ sym q, refl));
      later_number_lem = (λ κs a. tt, λ κs a x y u v h p q. (p ∙ sym q, refl));
      later_side_lem = (λ κs a. tt, λ κs a x y u v h p q. (p ∙ sym q, refl));
      one_beast_at_lem = (λ κs a. tt, λ κs a x y u v h p q. split p q (λ w. w.result) (λ w. (tt, (tt, (tt, (tt, (tt, (tt, (tt, (tt, (tt, (w.side, tt))))))))))));
      newest_update_at_lem = (λ κs a. tt, λ κs a x y u v h p q. split p q (λ w. w.result) (λ w. (tt, (tt, (w.part, tt)))));
    }

pub returns : goal.returns
returns c = let holds : OneOutcome = theorem in tt
