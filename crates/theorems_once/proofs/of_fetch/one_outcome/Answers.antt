-- Two outcomes that meet one equation are one: those by value by that alone, those of lent words and numbers by the parts of the whole (`split`).
use mathlib.Core.Path.{refl, sym, ◌∙◌}
use Rattle.theorems_once.proofs.Whole.{split}
use Rattle.theorems_once.proofs.OfFetch.{OneOutcome}
use Rattle.theorems_once.proofs.of_fetch.one_outcome.Goals as goal

theorem : OneOutcome
theorem =
    record {
      below = λ κs a x y u v h p q. (p ∙ sym q, refl);
      with_bit_lem = λ κs a x y u v h p q. (p ∙ sym q, refl);
      ones = (λ κs a. tt, λ κs a x y u v h p q. (p ∙ sym q, refl));
      look = λ κs a x y u v h p q. (p ∙ sym q, refl);
      inside_bits = λ κs a x y u v h p q. (p ∙ sym q, refl);
      range_size = (λ κs a. tt, λ κs a x y u v h p q. (p ∙ sym q, refl));
      contains = (λ κs a. tt, λ κs a x y u v h p q. (p ∙ sym q, refl));
      inside = (λ κs a. tt, λ κs a x y u v h p q. (p ∙ sym q, refl));
      tell = (λ κs a. tt, λ κs a x y u v h p q. split p q (λ w. w.answer) (λ w. (w.map, (tt, tt))));
      take_in = (λ κs a. tt, λ κs a x y u v h p q. split p q (λ w. w.answer) (λ w. (w.map, (tt, (tt, tt)))));
      received = (λ κs a. tt, λ κs a x y u v h p q. (p ∙ sym q, refl));
      propose = (λ κs a. tt, λ κs a x y u v h p q. (p ∙ sym q, refl));
      request_bytes_lem = (λ κs a. tt, λ κs a x y u v h p q. (p ∙ sym q, refl));
      tell_at_lem = (λ κs a. tt, λ κs a x y u v h p q. split p q (λ w. w.result) (λ w. (w.map, (w.told, (tt, (tt, (tt, tt)))))));
      propose_at_lem = (λ κs a. tt, λ κs a x y u v h p q. split p q (λ w. w.result) (λ w. (tt, (tt, (w.request, tt)))));
      take_at = (λ κs a. tt, λ κs a x y u v h p q. split p q (λ w. w.result) (λ w. (w.map, (tt, (tt, tt)))));
      received_at_lem = (λ κs a. tt, λ κs a x y u v h p q. (p ∙ sym q, refl));
    }

pub returns : goal.returns
returns c = let holds : OneOutcome = theorem in tt
