-- The window first; then what carrying answers on both sides, which its own promise says is small.
use mathlib.Core.Path.{sym, ◌∙◌}
use Rattle.carry.proofs.CarryLaws.{bounded}
use Rattle.ramp.specs.Bounds.{Sized}
use Rattle.ramp.proofs.BeastLaws.{too_wide, narrow}
use native.Mathlib.Omega.{arith}
use Rattle.ramp.proofs.beast.one_beast.Goals as goal
use Rattle.ramp.proofs.beast.one_beast.Goals.{After-carry-first, After-carry-second}

pub returns-then-window-gt-WIDEST_WINDOW : goal.returns-then-window-gt-WIDEST_WINDOW
returns-then-window-gt-WIDEST_WINDOW c =
    let a = c.args in
    too_wide a.left a.left_table.now a.right a.right_table.now a.window c.if-window-gt-WIDEST_WINDOW.true

-- what was carried is small
first_small : (c : After-carry-first) → Sized c.carry-first.result
first_small c z e =
    let a = c.args in
    bounded.carried_small a.left.stamp a.left.next a.left_table.now z (omega arith) (sym c.carry-first.ensures ∙ e)

second_small : (c : After-carry-second) → Sized c.carry-second.result
second_small c z e =
    let a = c.args in
    bounded.carried_small a.right.stamp a.right.next a.right_table.now z (omega arith) (sym c.carry-second.ensures ∙ e)

pub judged-requires : goal.judged-requires
judged-requires c = let l = first_small (goal.at.judged-requires c).After-carry-first in let r = second_small (goal.at.judged-requires c).After-carry-second in search (l, r)

pub returns : goal.returns
returns c =
    let a = c.args in
    c.judged.ensures
    ∙ rw (c.carry-first.ensures, c.carry-second.ensures)
    (sym (narrow a.left a.left_table.now a.right a.right_table.now a.window c.if-window-gt-WIDEST_WINDOW.false))
