-- Two outcomes that meet one equation are one.
use mathlib.Core.Path.{refl, sym, ◌∙◌}
use Rattle.theorems_once.proofs.OfRecords.{OneOutcome}
use Rattle.theorems_once.proofs.of_records.one_outcome.Goals as goal

theorem : OneOutcome
theorem =
    record {
      base_ok = λ κs a x y u v h p q. (p ∙ sym q, refl);
      zone_ok = λ κs a x y u v h p q. (p ∙ sym q, refl);
      dst_ok = λ κs a x y u v h p q. (p ∙ sym q, refl);
      source_ok = λ κs a x y u v h p q. (p ∙ sym q, refl);
      status_ok = λ κs a x y u v h p q. (p ∙ sym q, refl);
      statuses_ok = λ κs a x y u v h p q. (p ∙ sym q, refl);
      dst_allowed = λ κs a x y u v h p q. (p ∙ sym q, refl);
      place_by_age_lem = λ κs a x y u v h p q. (p ∙ sym q, refl);
      start_age_lem = λ κs a x y u v h p q. (p ∙ sym q, refl);
      end_age_lem = λ κs a x y u v h p q. (p ∙ sym q, refl);
      matches = λ κs a x y u v h p q. (p ∙ sym q, refl);
      sequence_of_lem = λ κs a x y u v h p q. (p ∙ sym q, refl);
      type_of = λ κs a x y u v h p q. (p ∙ sym q, refl);
      base_of = λ κs a x y u v h p q. (p ∙ sym q, refl);
      old_base_of_lem = λ κs a x y u v h p q. (p ∙ sym q, refl);
      write = λ κs a x y u v h p q. (p ∙ sym q, refl);
      length_of = λ κs a x y u v h p q. (p ∙ sym q, refl);
      record_of = λ κs a x y u v h p q. (p ∙ sym q, refl);
      update_ok = λ κs a x y u v h p q. (p ∙ sym q, refl);
      fault_ok = λ κs a x y u v h p q. (p ∙ sym q, refl);
      update_formed = λ κs a x y u v h p q. (p ∙ sym q, refl);
      fault_formed = λ κs a x y u v h p q. (p ∙ sym q, refl);
      well_formed = λ κs a x y u v h p q. (p ∙ sym q, refl);
      read = (λ κs a. tt, λ κs a x y u v h p q. (p ∙ sym q, refl));
      number_of = λ κs a x y u v h p q. (p ∙ sym q, refl);
    }

pub returns : goal.returns
returns c = let holds : OneOutcome = theorem in tt
