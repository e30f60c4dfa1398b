-- At the left, at the right, or at both.
use Rattle.day_play.proofs.ReaderLaws.{at_left, at_right, at_both}
use Rattle.day_play.proofs.play.stepped.Goals as goal

pub returns-in-Left : goal.returns-in-Left
returns-in-Left c =
    let a = c.args in
    at_left a.ramp a.h c.in-Left.is c.lived.ensures

pub returns-in-Right : goal.returns-in-Right
returns-in-Right c =
    let a = c.args in
    at_right a.ramp a.h c.in-Right.is c.lived-in-Right.ensures

pub returns-in-Both : goal.returns-in-Both
returns-in-Both c =
    let a = c.args in
    at_both a.ramp a.h c.in-Both.is c.lived-in-Both.ensures c.lived-in-Both-2.ensures
