-- Two outcomes that meet one equation are one.
use mathlib.Core.Path.{refl, sym, ◌∙◌}
use Rattle.theorems_once.proofs.OfBehind.{OneOutcome}
use Rattle.theorems_once.proofs.of_behind.one_outcome.Goals as goal

theorem : OneOutcome
theorem =
    record {
      new_reader_lem = λ κs a x y u v h p q. (p ∙ sym q, refl);
      all_off_lem = λ κs a x y u v h p q. (p ∙ sym q, refl);
      with_running_lem = λ κs a x y u v h p q. (p ∙ sym q, refl);
      clock_ok = λ κs a x y u v h p q. (p ∙ sym q, refl);
      number_of = λ κs a x y u v h p q. (p ∙ sym q, refl);
      att_error_of_lem = λ κs a x y u v h p q. (p ∙ sym q, refl);
      table_rows_lem = λ κs a x y u v h p q. (p ∙ sym q, refl);
      write_rows_lem = λ κs a x y u v h p q. (p ∙ sym q, refl);
      idle = λ κs a x y u v h p q. (p ∙ sym q, refl);
      proposal_at_lem = λ κs a x y u v h p q. (p ∙ sym q, refl);
      clock_grade_lem = λ κs a x y u v h p q. (p ∙ sym q, refl);
      grade_of_lem = λ κs a x y u v h p q. (p ∙ sym q, refl);
      seconds_apart_lem = λ κs a x y u v h p q. (p ∙ sym q, refl);
      grounds = λ κs a x y u v h p q. (p ∙ sym q, refl);
      decide = λ κs a x y u v h p q. (p ∙ sym q, refl);
      accepted = λ κs a x y u v h p q. (p ∙ sym q, refl);
      is_logged = λ κs a x y u v h p q. (p ∙ sym q, refl);
      update_record_lem = λ κs a x y u v h p q. (p ∙ sym q, refl);
      response_of_lem = λ κs a x y u v h p q. (p ∙ sym q, refl);
      att_error = λ κs a x y u v h p q. (p ∙ sym q, refl);
      code_of = λ κs a x y u v h p q. (p ∙ sym q, refl);
      opcode_in_lem = λ κs a x y u v h p q. (p ∙ sym q, refl);
      request_of_lem = λ κs a x y u v h p q. (p ∙ sym q, refl);
      code_bytes_lem = λ κs a x y u v h p q. (p ∙ sym q, refl);
      count_bytes_lem = λ κs a x y u v h p q. (p ∙ sym q, refl);
      left_from_lem = λ κs a x y u v h p q. (p ∙ sym q, refl);
    }

pub returns : goal.returns
returns c = let holds : OneOutcome = theorem in tt
