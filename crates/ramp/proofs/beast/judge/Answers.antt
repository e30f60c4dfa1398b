-- The test of the window is `within_b`.
use mathlib.Core.Path.{◌≡◌, sym, ◌∙◌}
use borrow.Author.Tests.{le-leb, lt-leb}
use lib.IntN.{nat_abs, ◌-ℤ◌}
use mir.Facts.{to_z-of_z}
use Rattle.ramp.specs.Beast.{within_b, judge_of}
use Rattle.ramp.proofs.beast.judge.Goals as goal
use Rattle.ramp.proofs.beast.judge.Goals.{After-apart}

-- the seconds between the two ages that were handed over
apart_is : (c : After-apart) → c.apart.result ≡ nat_abs (c.args.left -ℤ c.args.right)
apart_is c = c.apart.ensures ∙ rw (to_z-of_z c.ranges.left, to_z-of_z c.ranges.right)

pub returns-then-apart-window : goal.returns-then-apart-window
unfolding judge_of within_b
returns-then-apart-window c = rw (sym (apart_is (goal.at.returns-then-apart-window c).After-apart), le-leb _ _ c.if-apart-window.true)

pub returns-else-apart-window : goal.returns-else-apart-window
unfolding judge_of within_b
returns-else-apart-window c = rw (sym (apart_is (goal.at.returns-else-apart-window c).After-apart), lt-leb _ _ c.if-apart-window.false)
