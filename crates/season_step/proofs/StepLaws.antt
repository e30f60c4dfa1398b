-- The steps of `table_bytes`, `whole` and `step`, each over variables; and what a step that goes on has to do with its position.
-- Assumes nothing.
use mathlib.Core.Path.{◌≡◌, refl, sym, ap, ◌∙◌}
use mathlib.Core.Bool.{Bool, true, false}
use mathlib.Core.List.{List, ◌++◌}
use Prim.Native.Nat.{ℕ, ◌+◌, ◌≤◌, ◌<◌}
use native.Mathlib.Omega.{arith}
use Rattle.std.proofs.Common.{Option, Some, None, IfSome, ControlFlow, Continue, Break}
use borrow.Author.Tests.{eq-eqb, ne_eqb, eqb-true, leb-true, le-leb, lt-leb}
use lib.Dec.{leb, eqb}
use lib.ListN.{length, drop}
use Rattle.octets.specs.Choice.{both, pick}
use Rattle.octets.specs.Numbers.{le32}
use Rattle.octets.proofs.Tests.{false_by, both_reads, clash}
use Rattle.text.specs.Laid.{Filled, filled, laid}
use Rattle.text.proofs.LaidLaws.{laid_within}
use Rattle.table.specs.Table.{size_b, held, sound_b}
use Rattle.table.proofs.HeadLaws.{size_reads}
use Rattle.season_figures.specs.Figures.{sum_of, figures_in, in_widths}
use Rattle.season_figures.specs.declared.figures.Figures.{Figures}
use Rattle.season_text.specs.Lines.{table_line, ended_line, total_line}
use Rattle.season_step.specs.Step.{most_tables, table_bytes, whole_b, Stepped, ends_with, taken, passed_over, step_of, Outcome, goes_on, stands, outcome, stepped}
use Rattle.season_step.specs.declared.step.Progress.{Progress}
use Rattle.season_step.specs.declared.step.Run.{Run}

module _ (bytes : List ℕ) where
  pub bytes_short : length bytes < 4 → table_bytes bytes ≡ 0
  unfolding table_bytes
  bytes_short h = rw (lt-leb _ _ h)

  pub bytes_said : (permitted : Bool) → 4 ≤ length bytes → size_b (le32 bytes 0) ≡ permitted → table_bytes bytes ≡ pick permitted (le32 bytes 0) 0
  unfolding table_bytes
  bytes_said permitted h e = rw (le-leb _ _ h, e)

  -- a permitted size is at most the largest table's
  pub bytes_few : table_bytes bytes ≤ 65488
  unfolding table_bytes
  bytes_few = go (both (leb 4 (length bytes)) (size_b (le32 bytes 0))) refl
    where
      go : (b : Bool) → both (leb 4 (length bytes)) (size_b (le32 bytes 0)) ≡ b → pick b (le32 bytes 0) 0 ≤ 65488
      go true e = let s = size_reads (le32 bytes 0) (both_reads (leb 4 (length bytes)) _ e).1 in omega arith
      go false e = omega arith

  -- a whole entry has the four bytes of its size
  pub whole_long : whole_b bytes ≡ true → 4 ≤ length bytes
  unfolding whole_b
  whole_long h =
      let e = eqb-true (length bytes) (4 + le32 bytes 0) (both_reads (size_b (le32 bytes 0)) _ h).1 in omega arith

  -- where the size is permitted or not
  pub whole_said : (permitted : Bool) → size_b (le32 bytes 0) ≡ permitted → whole_b bytes ≡ both permitted (eqb (length bytes) (4 + le32 bytes 0))
  unfolding whole_b
  whole_said permitted e = ap (λ (b : Bool). both b (eqb (length bytes) (4 + le32 bytes 0))) e

  pub whole_short : length bytes < 4 → whole_b bytes ≡ false
  whole_short h = false_by _ (λ w. omega (arith, whole_long w))

-- a step's outcome, from where its lines are laid
pub outcome_is : (b x : List ℕ) (n : ℕ) (s : Stepped) → filled n x ≡ laid b 0 s.text
    → ◌≡◌ {A = Outcome} (record { lines = filled n x; more = s.more; position = s.position; totals = s.totals }) (stepped b s)
unfolding stepped
outcome_is b x n s e = ap (λ (l : Filled). record { lines = l; more = s.more; position = s.position; totals = s.totals }) e

-- what a step answers can be told from its outcome
abbrev flow : Bool → Run → ControlFlow Run Run
flow true run = Continue run
flow false run = Break run

flow_whole : (f : ControlFlow Run Run) → flow (goes_on f) (stands f) ≡ f
flow_whole (Continue run) = refl
flow_whole (Break run) = refl

abbrev pub answered : Outcome → Progress
answered o = record { len = o.lines.end; run = flow o.more (record { position = o.position; totals = o.totals }) }

pub answered_is : (s : Progress) (buffer : List ℕ) → answered (outcome s buffer) ≡ s
answered_is s buffer = ap (λ (f : ControlFlow Run Run). record { len = s.len; run = f }) (flow_whole s.run)

-- a table, refused or taken
module _ (p : ℕ) (f : Figures) (t : List ℕ) where
  pub table_refused : sound_b t ≡ false → pick (sound_b t) (taken p f t) (passed_over p f) ≡ passed_over p f
  table_refused h = rw h

  pub table_taken : sound_b t ≡ true → pick (sound_b t) (taken p f t) (passed_over p f) ≡ taken p f t
  table_taken h = rw h

  -- g are its figures, h the totals with them
  pub taken_is : (b x : List ℕ) (n : ℕ) (g h : Figures) → g ≡ figures_in (held t) → filled n x ≡ laid b 0 (table_line p g)
      → h ≡ in_widths (sum_of f g)
      → ◌≡◌ {A = Outcome} (record { lines = filled n x; more = true; position = p + 1; totals = h }) (stepped b (taken p f t))
  unfolding stepped taken
  taken_is b x n g h e l k =
      ap (λ (y : Filled). record { lines = y; more = true; position = p + 1; totals = h }) l
      ∙ ap (λ (y : Figures). record { lines = laid b 0 (table_line p g); more = true; position = p + 1; totals = y }) k
      ∙ ap (λ (y : Figures). record { lines = laid b 0 (table_line p y); more = true; position = p + 1; totals = in_widths (sum_of f y) }) e

module _ (p : ℕ) (f : Figures) (entry : List ℕ) where
  pub step_empty : length entry ≡ 0 → step_of p f entry ≡ ends_with p f (total_line f)
  unfolding step_of
  step_empty h = rw (eq-eqb _ _ h)

  pub step_cut : (length entry ≡ 0 → ⊥) → both (leb p most_tables) (whole_b entry) ≡ false → step_of p f entry ≡ ends_with p f (ended_line p ++ total_line f)
  unfolding step_of
  step_cut h e = rw (ne_eqb _ _ h, e)

  pub step_late : (length entry ≡ 0 → ⊥) → most_tables < p → step_of p f entry ≡ ends_with p f (ended_line p ++ total_line f)
  step_late h late =
      step_cut h (false_by _ (λ b. omega (arith, late, leb-true _ _ (both_reads (leb p most_tables) (whole_b entry) b).0)))

  pub step_partial : (length entry ≡ 0 → ⊥) → whole_b entry ≡ false → step_of p f entry ≡ ends_with p f (ended_line p ++ total_line f)
  step_partial h w = step_cut h (false_by _ (λ b. clash (whole_b entry) (both_reads (leb p most_tables) _ b).1 w))

  pub can : p ≤ most_tables → whole_b entry ≡ true → both (leb p most_tables) (whole_b entry) ≡ true
  can h w = rw (le-leb p most_tables h, w)

  pub step_table : (length entry ≡ 0 → ⊥) → both (leb p most_tables) (whole_b entry) ≡ true
      → step_of p f entry ≡ pick (sound_b (drop 4 entry)) (taken p f (drop 4 entry)) (passed_over p f)
  unfolding step_of
  step_table h e = rw (ne_eqb _ _ h, e)

  -- a run that goes on had room for its table, and the next one has the next position
  pub step_more : (step_of p f entry).more ≡ true → (p ≤ most_tables) × ((step_of p f entry).position ≡ p + 1)
  unfolding step_of ends_with taken passed_over
  step_more h = let r = go (eqb (length entry) 0) (both (leb p most_tables) (whole_b entry)) (sound_b (drop 4 entry)) h in (leb-true _ _ (both_reads _ _ r.0).0, r.1)
    where
      at : Bool → Bool → Bool → Stepped
      at e w s = pick e (ends_with p f (total_line f)) (pick w (pick s (taken p f (drop 4 entry)) (passed_over p f)) (ends_with p f (ended_line p ++ total_line f)))

      go : (e w s : Bool) → (at e w s).more ≡ true → (w ≡ true) × ((at e w s).position ≡ p + 1)
      go true w s h = absurd (clash false h refl)
      go false false s h = absurd (clash false h refl)
      go false true true h = (refl, refl)
      go false true false h = (refl, refl)

-- what a caller of `step` needs of its outcome
module _ (p : ℕ) (f : Figures) (entry b x : List ℕ) (s : Progress) (e : outcome s x ≡ stepped b (step_of p f entry)) where
  pub outcome_within : s.len ≤ length x
  unfolding stepped
  outcome_within = laid_within b (step_of p f entry).text (ap (λ (o : Outcome). o.lines) e)

  pub outcome_more : goes_on s.run ≡ true → (p ≤ most_tables) × ((stands s.run).position ≡ p + 1)
  unfolding stepped
  outcome_more h =
      let r = step_more p f entry (sym (ap (λ (o : Outcome). o.more) e) ∙ h) in (r.0, ap (λ (o : Outcome). o.position) e ∙ r.1)

  -- the run that goes on, if there is one
  pub outcome_next : (next : Option Run) → IfSome next (λ after. s.run ≡ Continue after)
      → IfSome next (λ after. (p ≤ most_tables) × (after.position ≡ p + 1))
  outcome_next None h = h
  outcome_next (Some after) h =
      let r = outcome_more (ap goes_on h) in (r.0, sym (ap (λ (f : ControlFlow Run Run). (stands f).position) h) ∙ r.1)
