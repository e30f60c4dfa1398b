-- The numbers of the record that is answered, or of none.
use mathlib.Core.Path.{◌≡◌, sym, ◌∙◌}
use Rattle.std.proofs.Common.{Ok, rules}
use Rattle.ramp_newest.specs.declared.newest.Later.TheVariants.{Left, Right}
use Rattle.ramp_newest.proofs.NewestLaws.{left_answered, right_answered}
use Rattle.ramp_bytes.specs.Calls.{part_numbers}
use Rattle.ramp_bytes.proofs.calls.part_numbers.Goals as goal
use Rattle.ramp_bytes.proofs.calls.part_numbers.Goals.{In-Ok-Left, In-Ok-Right}

left_is : (c : In-Ok-Left) → c.args.later ≡ Ok (Left c.in-Ok-Left.age)
left_is c = search rules

right_is : (c : In-Ok-Right) → c.args.later ≡ Ok (Right c.in-Ok-Right.age)
right_is c = search rules

pub numbers_of-requires : goal.numbers_of-requires
numbers_of-requires c =
    let h = left_answered c.args.left.now c.args.right.now _ (sym c.requires ∙ left_is (goal.at.numbers_of-requires c).In-Ok-Left) in
    (h.sound, h.inside)

pub numbers_of-requires-in-Ok-Right : goal.numbers_of-requires-in-Ok-Right
numbers_of-requires-in-Ok-Right c =
    let h = right_answered c.args.left.now c.args.right.now _ (sym c.requires ∙ right_is (goal.at.numbers_of-requires-in-Ok-Right c).In-Ok-Right) in
    (h.sound, h.inside)

pub returns-in-Ok-Left : goal.returns-in-Ok-Left
unfolding part_numbers
returns-in-Ok-Left c = c.numbers_of.ensures ∙ rw (c.later_side-side.ensures, left_is (goal.at.returns-in-Ok-Left c).In-Ok-Left)

pub returns-in-Ok-Right : goal.returns-in-Ok-Right
unfolding part_numbers
returns-in-Ok-Right c = c.numbers_of-in-Ok-Right.ensures ∙ rw (c.later_side-side.ensures, right_is (goal.at.returns-in-Ok-Right c).In-Ok-Right)

pub returns-in-Err : goal.returns-in-Err
unfolding part_numbers
returns-in-Err c = rw (c.later_side-side.ensures, c.in-Err.is)
