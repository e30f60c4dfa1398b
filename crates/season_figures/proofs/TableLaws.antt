-- The figures of a sound table, one record after the other: what was summed and what is left come to the whole, so every sum on the way is
-- small enough for its width.
-- Assumes nothing.
use Rattle.std.proofs.Common.{◌≡◌, ℕ, ◌+◌, ◌≤◌, true, List, ◌∷◌, length, drop, sym, ap, ◌∙◌, arith}
use Rattle.table.specs.Table.{count, held, sound_b}
use Rattle.table.proofs.HeadLaws.{sound_head}
use Rattle.table_write.proofs.HistoryLaws.{length_held}
use Rattle.table_look.proofs.LookLaws.{none_left}
use Rattle.table_look.proofs.KindLaws.{held_rules}
use Rattle.record.specs.declared.kinds.Record.{Record}
use Rattle.season_figures.specs.Figures.{figures_of, sum_of, figures_in, in_widths}
use Rattle.season_figures.specs.Bounds.{AllRight, Small}
use Rattle.season_figures.specs.declared.figures.Figures.{Figures}
use Rattle.season_figures.proofs.FigureLaws.{sum_assoc, and_nothing, figures_first, figures_none, all_right, figures_small, part_small, small_fit}

pub held_right : (t : List ℕ) → sound_b t ≡ true → AllRight (held t)
held_right t sd = all_right (held t) (λ k r rest. held_rules t k r rest sd)

pub held_few : (t : List ℕ) → sound_b t ≡ true → length (held t) ≤ 1023
held_few t sd = let d = sound_head t sd in omega (arith, length_held t)

pub table_small : (t : List ℕ) → sound_b t ≡ true → Small (length (held t)) (figures_in (held t))
table_small t sd = figures_small (held t) (held_right t sd)

-- a turn: the record at an age is added to the sum
module _ (t : List ℕ) (k : ℕ) (sum : Figures) (r : Record) (sd : sound_b t ≡ true) (e : drop k (held t) ≡ r ∷ drop (k + 1) (held t))
    (so_far : sum_of sum (figures_in (drop k (held t))) ≡ figures_in (held t)) where
  whole : sum_of (sum_of sum (figures_of r)) (figures_in (drop (k + 1) (held t))) ≡ figures_in (held t)
  whole =
      sum_assoc sum (figures_of r) (figures_in (drop (k + 1) (held t)))
      ∙ ap (sum_of sum) (sym (figures_first _ _ r e))
      ∙ so_far

  fits : in_widths (sum_of sum (figures_of r)) ≡ sum_of sum (figures_of r)
  fits =
      small_fit (length (held t)) _ (omega (arith, held_few t sd))
      (part_small (length (held t)) _ (figures_in (drop (k + 1) (held t))) (rw whole (table_small t sd)))

  pub turn_sums : (next : Figures) → next ≡ in_widths (sum_of sum (figures_of r)) → sum_of next (figures_in (drop (k + 1) (held t))) ≡ figures_in (held t)
  turn_sums next n = rw (n ∙ fits) whole

-- after the last turn
pub turns_end : (t : List ℕ) (k : ℕ) (sum : Figures) → count t ≤ k → sum_of sum (figures_in (drop k (held t))) ≡ figures_in (held t)
    → sum ≡ figures_in (held t)
turns_end t k sum h e = sym (and_nothing sum) ∙ ap (sum_of sum) (sym (figures_none _ (none_left t k h))) ∙ e
