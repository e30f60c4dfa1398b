-- Two outcomes that meet one equation are one: those by value by that alone, those of lent buffers by the parts of the whole (`split`).
use mathlib.Core.Path.{refl, sym, ap, ◌∙◌}
use mathlib.Core.List.{List, []}
use Prim.Native.Nat.{ℕ}
use Rattle.season_step.proofs.StepLaws.{answered, answered_is}
use Rattle.theorems_once.proofs.Whole.{split}
use Rattle.theorems_once.proofs.OfPrograms.{OneOutcome}
use Rattle.theorems_once.proofs.of_programs.one_outcome.Goals as goal

theorem : OneOutcome
theorem =
    record {
      empty = (λ κs a. tt, λ κs a x y u v h p q. (p ∙ sym q, refl));
      with_byte = (λ κs a. tt, λ κs a x y u v h p q. (p ∙ sym q, refl));
      with_number = (λ κs a. tt, λ κs a x y u v h p q. (p ∙ sym q, refl));
      with_word = (λ κs a. tt, λ κs a x y u v h p q. (p ∙ sym q, refl));
      put_line = λ κs a x y u v h p q. (p.0 ∙ sym q.0, ap (λ (b : List ℕ). (b, (tt, (tt, tt)))) (p.1 ∙ sym q.1));
      put_word = λ κs a x y u v h p q. split p q (λ w. w.end) (λ w. (w.buffer, (tt, (tt, tt))));
      put_number = λ κs a x y u v h p q. split p q (λ w. w.end) (λ w. (w.buffer, (tt, (tt, tt))));
      refused_line_lem = (λ κs a. tt, λ κs a x y u v h p q. (p ∙ sym q, refl));
      head_line_lem = λ κs a x y u v h p q. (p ∙ sym q, refl);
      record_line_lem = (λ κs a. tt, λ κs a x y u v h p q. (p.0 ∙ sym q.0, refl));
      listing = (λ κs a. tt, λ κs a x y u v h p q. split p q (λ w. w.end) (λ w. (tt, (w.buffer, tt))));
      no_figures = (λ κs a. tt, λ κs a x y u v h p q. (p ∙ sym q, refl));
      together = (λ κs a. tt, λ κs a x y u v h p q. (p ∙ sym q, refl));
      figures_in_lem = λ κs a x y u v h p q. (p ∙ sym q, refl);
      put_table = λ κs a x y u v h p q. split p q (λ w. w.end) (λ w. (w.buffer, (tt, (tt, tt))));
      put_refused = λ κs a x y u v h p q. split p q (λ w. w.end) (λ w. (w.buffer, (tt, tt)));
      put_ended = λ κs a x y u v h p q. split p q (λ w. w.end) (λ w. (w.buffer, (tt, tt)));
      put_total = λ κs a x y u v h p q. split p q (λ w. w.end) (λ w. (w.buffer, (tt, (tt, tt))));
      begun = (λ κs a. tt, λ κs a x y u v h p q. (p ∙ sym q, refl));
      table_bytes_lem = (λ κs a. tt, λ κs a x y u v h p q. (p ∙ sym q, refl));
      step = (
        λ κs a. tt,
        λ κs a x y u v h p q.
            let e = split p q answered (λ w. (tt, (tt, (w.lines.buffer, tt)))) in (sym (answered_is x []) ∙ e.0 ∙ answered_is y [], e.1),
      );
      tag_line_lem = (λ κs a. tt, λ κs a x y u v h p q. (p ∙ sym q, refl));
      title_line_lem = (λ κs a. tt, λ κs a x y u v h p q. (p ∙ sym q, refl));
      started = (λ κs a. tt, λ κs a x y u v h p q. (p ∙ sym q, refl));
      lived = (λ κs a. tt, λ κs a x y u v h p q. (p ∙ sym q, refl));
      played = (λ κs a. tt, λ κs a x y u v h p q. (p ∙ sym q, refl));
      fetched = (λ κs a. tt, λ κs a x y u v h p q. (p ∙ sym q, refl));
      sight = (λ κs a. tt, λ κs a x y u v h p q. (p ∙ sym q, refl));
      ruling = (λ κs a. tt, λ κs a x y u v h p q. (p ∙ sym q, refl));
    }

pub returns : goal.returns
returns c = let holds : OneOutcome = theorem in tt
