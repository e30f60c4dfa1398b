-- `grounds` is `grounds_of`, ground by ground. No sum of the flags wraps, since each is its flag or 0.
use mathlib.Core.Path.{◌∙◌}
use Rattle.update_judge.proofs.GroundLaws.{grounds_told}
use Rattle.update_judge.proofs.grounds.grounds.Goals as goal

pub returns : goal.returns
returns c =
    let a = c.args in
    grounds_told a.time a.p a.forced _ _ _ _ _ _ _ _
    (c.both.ensures ∙ simp c.unrealistic.ensures)
    (c.both-2.ensures ∙ simp c.lower_quality.ensures)
    c.out_of_range.ensures
    c.wrong_epoch.ensures
    c.also-far.ensures.0
    c.also-lower.ensures.0
    c.also-range.ensures.0
    c.also.ensures.0
