-- The next record is held, matches, and has bytes unsent.
use mathlib.Core.Path.{sym, ◌∙◌}
use Rattle.rows.specs.Rows.{left_b}
use Rattle.rows.proofs.RowLaws.{left_gone, left_held}
use native.Mathlib.Omega.{arith}
use Rattle.rows.proofs.whole.left_ok.Goals as goal

pub returns-in_default : goal.returns-in_default
unfolding left_b
returns-in_default c = rw c.in_default.is

pub returns-then-among-age : goal.returns-then-among-age
returns-then-among-age c = rw c.in-Some.is (sym (left_gone _ _ _ _ (omega (arith, c.held_count-among.ensures, c.age_of-age.ensures))))

pub returns : goal.returns
returns c =
    rw c.in-Some.is
    (c.both.ensures
    ∙ rw (c.matches.ensures, c.length_of.ensures, c.held_count-among.ensures, c.age_of-age.ensures)
    (sym
    (left_held _ _ _ _ c.record_at.result _ (omega (arith, c.held_count-among.ensures, c.age_of-age.ensures))
    (rw c.age_of-age.ensures at c.record_at.ensures))))
