-- A table that isn't sound is passed over; else its line is laid and its figures are added.
use mathlib.Core.Path.{◌≡◌, sym, ap, ◌∙◌}
use mathlib.Core.Bool.{true}
use Rattle.table.specs.Table.{sound_b}
use Rattle.season_step.specs.Step.{passed_over, stepped}
use Rattle.season_step.proofs.StepLaws.{outcome_is, table_refused, table_taken, taken_is}
use Rattle.season_step.proofs.step.table_step.Goals as goal
use Rattle.season_step.proofs.step.table_step.Goals.{Else-not-sound}

good : (c : Else-not-sound) → sound_b c.args.table.now ≡ true
good c = sym c.sound.ensures ∙ c.if-not-sound.false

pub returns-then-not-sound : goal.returns-then-not-sound
unfolding passed_over
returns-then-not-sound c =
    let a = c.args in
    outcome_is a.out.now _ _ (passed_over a.run.position a.run.totals) c.put_refused.ensures
    ∙ ap (stepped a.out.now)
    (sym (table_refused a.run.position a.run.totals a.table.now (sym c.sound.ensures ∙ c.if-not-sound.true)))

pub returns : goal.returns
returns c =
    let a = c.args in
    taken_is a.run.position a.run.totals a.table.now a.out.now _ _ _ _ c.figures_in-figures.ensures c.put_table.ensures c.together.ensures
    ∙ ap (stepped a.out.now) (sym (table_taken a.run.position a.run.totals a.table.now (good (goal.at.returns c).Else-not-sound)))
