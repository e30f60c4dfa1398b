-- Two outcomes that meet one equation are one: those by value by that alone, those of lent buffers by the parts of the whole (`split`).
use mathlib.Core.Path.{refl, sym, ◌∙◌}
use Rattle.theorems_once.proofs.Whole.{split}
use Rattle.theorems_once.proofs.OfTables.{OneOutcome}
use Rattle.theorems_once.proofs.of_tables.one_outcome.Goals as goal

theorem : OneOutcome
theorem =
    record {
      slots_in_lem = λ κs a x y u v h p q. (p ∙ sym q, refl);
      size_ok = λ κs a x y u v h p q. (p ∙ sym q, refl);
      header_at = λ κs a x y u v h p q. (p ∙ sym q, refl);
      header_bytes_lem = λ κs a x y u v h p q. (p ∙ sym q, refl);
      next_slot_lem = λ κs a x y u v h p q. (p ∙ sym q, refl);
      slot_after = λ κs a x y u v h p q. (p ∙ sym q, refl);
      number_after_lem = λ κs a x y u v h p q. (p ∙ sym q, refl);
      first_number_lem = λ κs a x y u v h p q. (p ∙ sym q, refl);
      sound = (λ κs a. tt, λ κs a x y u v h p q. (p ∙ sym q, refl));
      start = (λ κs a. tt, λ κs a x y u v h p q. split p q (λ w. w.answer) (λ w. (w.table, tt)));
      append = λ κs a x y u v h p q. split p q (λ t. tt) (λ t. (t, (tt, tt)));
      held_count = λ κs a x y u v h p q. (p ∙ sym q, refl);
      next_number = λ κs a x y u v h p q. (p ∙ sym q, refl);
      age_of_lem = λ κs a x y u v h p q. (p ∙ sym q, refl);
      place_at = λ κs a x y u v h p q. (p ∙ sym q, refl);
      part_at = λ κs a x y u v h p q. (p ∙ sym q, refl);
      record_at = λ κs a x y u v h p q. (cc, refl);
      next_match_lem = λ κs a x y u v h p q. (p ∙ sym q, refl);
      count_matching_lem = λ κs a x y u v h p q. (p ∙ sym q, refl);
    }

pub returns : goal.returns
returns c = let holds : OneOutcome = theorem in tt
