-- Each way out is the first row that fails.
use mathlib.Core.Path.{◌≡◌, sym, ◌∙◌}
use mathlib.Core.Bool.{true}
use Rattle.table.specs.Table.{sound_b}
use Rattle.clock.specs.Obeys.{clock_b}
use Rattle.rows.specs.Rows.{whole_b}
use Rattle.rows.proofs.RowLaws.{table_0, table_1, table_2, table_3, whole_alone, whole_with}
use Rattle.rows.proofs.rows.table_rows.Goals as goal
use Rattle.rows.proofs.rows.table_rows.Goals.{After-running_ok, Else-not-clock_ok, Else-not-sound}

tested : (c : Else-not-sound) → sound_b c.args.t.now ≡ true
tested c = sym c.sound.ensures ∙ c.if-not-sound.false

obeys : (c : Else-not-clock_ok) → clock_b c.args.c ≡ true
obeys c = sym c.clock_ok.ensures ∙ c.if-not-clock_ok.false

whole : (c : After-running_ok)
    → clock_b c.args.c ≡ true
    → let a = c.args in whole_b a.c a.t.now ≡ c.running_ok.result
whole c o = whole_with _ _ o ∙ sym c.running_ok.ensures

pub returns-then-not-sound : goal.returns-then-not-sound
returns-then-not-sound c = sym (table_1 _ _ _ (sym c.sound.ensures ∙ c.if-not-sound.true))

pub returns-then-not-clock_ok : goal.returns-then-not-clock_ok
returns-then-not-clock_ok c = sym (table_2 _ _ _ (tested (goal.at.returns-then-not-clock_ok c).Else-not-sound) (whole_alone _ _ (sym c.clock_ok.ensures ∙ c.if-not-clock_ok.true)))

pub running_ok-requires : goal.running_ok-requires
running_ok-requires c = tested (goal.at.running_ok-requires c).Else-not-sound

pub returns-then-not-running_ok : goal.returns-then-not-running_ok
returns-then-not-running_ok c = sym (table_2 _ _ _ (tested (goal.at.returns-then-not-running_ok c).Else-not-sound) (whole (goal.at.returns-then-not-running_ok c).After-running_ok (obeys (goal.at.returns-then-not-running_ok c).Else-not-clock_ok) ∙ c.if-not-running_ok.true))

pub returns-then-not-room : goal.returns-then-not-room
returns-then-not-room c = sym (table_3 _ _ _ (tested (goal.at.returns-then-not-room c).Else-not-sound) (whole (goal.at.returns-then-not-room c).After-running_ok (obeys (goal.at.returns-then-not-room c).Else-not-clock_ok) ∙ c.if-not-running_ok.false) (c.if-not-room.true))

pub returns : goal.returns
returns c = sym (table_0 _ _ _ (tested (goal.at.returns c).Else-not-sound) (whole (goal.at.returns c).After-running_ok (obeys (goal.at.returns c).Else-not-clock_ok) ∙ c.if-not-running_ok.false) (c.if-not-room.false))
