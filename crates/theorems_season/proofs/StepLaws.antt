-- One step over variables: what ends the run, what is passed over and what goes on (theorem Leaves).
-- Assumes nothing.
use mathlib.Core.Path.{◌≡◌, refl, ◌∙◌}
use mathlib.Core.Logic.{◌⊎◌, inl, inr}
use mathlib.Core.Bool.{Bool, true, false}
use mathlib.Core.List.{List, [], ◌++◌}
use Prim.Native.Nat.{ℕ, ◌+◌, ◌≤◌, ◌<◌}
use native.Mathlib.Omega.{arith}
use borrow.Author.Tests.{le-leb, lt-leb, eqb-true}
use lib.Dec.{leb, eqb}
use lib.ListN.{length}
use Rattle.octets.specs.Choice.{both, pick}
use Rattle.octets.specs.Numbers.{le32}
use Rattle.octets.proofs.Tests.{false_by, both_yes, both_no, both_reads, clash}
use Rattle.table.specs.Table.{sound_b}
use Rattle.table.proofs.HeadLaws.{Size, size_reads}
use Rattle.season_figures.specs.declared.figures.Figures.{Figures}
use Rattle.season_text.specs.Lines.{refused_line, ended_line, total_line}
use Rattle.season_step.specs.Step.{most_tables, whole_b, Stepped, ends_with, taken, passed_over, step_of}
use Rattle.season_step.proofs.StepLaws.{step_empty, step_cut, step_table, step_more, table_refused, table_taken}
use Rattle.theorems_season.specs.Run.{table_of}
use Rattle.theorems_season.specs.Theorems.{leaving, Leaves}

-- a whole entry: a permitted size, and as many bytes after it
pub record Whole (entry : List ℕ) : Type 0 where
  pub size : Size (le32 entry 0)
  pub all : length entry ≡ 4 + le32 entry 0

pub whole_reads : (entry : List ℕ) → whole_b entry ≡ true → Whole entry
unfolding whole_b
whole_reads entry w = let b = both_reads _ _ w in record { size = size_reads _ b.0; all = eqb-true _ _ b.1 }

whole_some : (entry : List ℕ) → whole_b entry ≡ true → 1 ≤ length entry
whole_some entry w = let h = whole_reads entry w in omega arith

module _ (position : ℕ) (totals : Figures) (entry : List ℕ) where
  -- the three tests of a step, and what it comes to by them
  abbrev by : Bool → Bool → Bool → Stepped
  by none whole sound =
      pick none
      (ends_with position totals (total_line totals))
      (pick whole
      (pick sound (taken position totals (table_of entry)) (passed_over position totals))
      (ends_with position totals (ended_line position ++ total_line totals)))

  ended : (step_of position totals entry).more ≡ false
      → ((step_of position totals entry).position ≡ position) × ((step_of position totals entry).totals ≡ totals)
  unfolding step_of ends_with taken passed_over
  ended h = go (eqb (length entry) 0) (both (leb position most_tables) (whole_b entry)) (sound_b (table_of entry)) h
    where
      go : (a b c : Bool) → (by a b c).more ≡ false → ((by a b c).position ≡ position) × ((by a b c).totals ≡ totals)
      go true b c e = (refl, refl)
      go false true true e = absurd (clash true refl e)
      go false true false e = absurd (clash true refl e)
      go false false c e = (refl, refl)

  -- an entry that can be taken, and one that can't
  can : position ≤ 65535 → whole_b entry ≡ true → both (leb position most_tables) (whole_b entry) ≡ true
  can h w = both_yes (le-leb position 65535 h) ∙ w

  cannot : (65535 < position) ⊎ (whole_b entry ≡ false) → both (leb position most_tables) (whole_b entry) ≡ false
  cannot (inl p) = both_no (leb position most_tables) (whole_b entry) (lt-leb position 65535 p)
  cannot (inr w) = false_by _ (λ b. clash (whole_b entry) (both_reads (leb position most_tables) _ b).1 w)

  whole_step : position ≤ 65535 → whole_b entry ≡ true
      → step_of position totals entry ≡ pick (sound_b (table_of entry)) (taken position totals (table_of entry)) (passed_over position totals)
  whole_step h w = step_table position totals entry (λ n. omega (arith, whole_some entry w)) (can h w)

  pub refused : position ≤ 65535 → whole_b entry ≡ true → sound_b (table_of entry) ≡ false
      → step_of position totals entry ≡ leaving (refused_line position) true (position + 1) totals
  unfolding passed_over
  refused h w s = whole_step h w ∙ table_refused position totals (table_of entry) s

  pub sound : position ≤ 65535 → whole_b entry ≡ true → sound_b (table_of entry) ≡ true → step_of position totals entry ≡ taken position totals (table_of entry)
  sound h w s = whole_step h w ∙ table_taken position totals (table_of entry) s

  pub cut : 1 ≤ length entry → (65535 < position) ⊎ (whole_b entry ≡ false)
      → step_of position totals entry ≡ leaving (ended_line position ++ total_line totals) false position totals
  unfolding ends_with
  cut h c = step_cut position totals entry (λ n. omega arith) (cannot c)

pub empty : (position : ℕ) (totals : Figures) → step_of position totals [] ≡ leaving (total_line totals) false position totals
unfolding ends_with
empty position totals = step_empty position totals [] refl

pub leaves : Leaves
leaves = record { ended = ended; refused = refused; goes_on = step_more; empty = empty; cut = cut }
