-- The left side's refusal, the right side's, or the two ages compared: each one law of BeastLaws.
use mathlib.Core.Path.{◌≡◌, sym, ap, ◌∙◌}
use mir.Syntax.{w64}
use mir.Val.{to_z, of_z}
use mir.Facts.{to_z-of_z}
use Rattle.ramp.specs.Beast.{age_of}
use Rattle.ramp.proofs.BeastLaws.{left_refused, right_refused, both_carried}
use Rattle.std.proofs.Common.{Ok}
use native.Mathlib.Omega.{arith}
use Rattle.ramp.proofs.beast.judged.Goals as goal
use Rattle.ramp.proofs.beast.judged.Goals.{After-age, After-age-2, In-Ok-right}

pub returns-in_default : goal.returns-in_default
returns-in_default c =
    let a = c.args in
    left_refused a.window a.left_base a.right_base a.left a.right
    (λ z e. c.in_default.not-Ok z e)
    c.carrying_number.ensures

pub returns-in_default-right : goal.returns-in_default-right
returns-in_default-right c =
    let a = c.args in
    right_refused a.window a.left_base a.right_base a.left a.right c.in-Ok.l c.in-Ok.is
    (λ z e. c.in_default-right.not-Ok z e)
    c.carrying_number-in_default-right.ensures

-- what was carried, as the machine hands it on, and its size
left_is : (c : In-Ok-right) → let z = c.in-Ok.l in to_z w64 (of_z w64 z) ≡ z
left_is c = to_z-of_z {w = w64} {z = c.in-Ok.l} (record { sfits = omega arith })

right_is : (c : In-Ok-right) → let z = c.in-Ok-right.r in to_z w64 (of_z w64 z) ≡ z
right_is c = to_z-of_z {w = w64} {z = c.in-Ok-right.r} (record { sfits = omega arith })

pub age-requires : goal.age-requires
age-requires c = rw (left_is (goal.at.age-requires c).In-Ok-right) (c.requires.0 c.in-Ok.l c.in-Ok.is)

pub age-requires-2 : goal.age-requires-2
age-requires-2 c = rw (right_is (goal.at.age-requires-2 c).In-Ok-right) (c.requires.1 c.in-Ok-right.r c.in-Ok-right.is)

-- the two ages
left_age : (c : After-age)
    → (let z = c.in-Ok.l in to_z w64 (of_z w64 z) ≡ z)
    → to_z w64 (of_z w64 c.age.result) ≡ age_of c.args.left_base c.in-Ok.l
left_age c l =
    to_z-of_z {w = w64} (record { sfits = c.age.type_inv }) ∙ c.age.ensures ∙ ap (age_of c.args.left_base) l

right_age : (c : After-age-2)
    → (let z = c.in-Ok-right.r in to_z w64 (of_z w64 z) ≡ z)
    → to_z w64 (of_z w64 c.age-2.result) ≡ age_of c.args.right_base c.in-Ok-right.r
right_age c r =
    to_z-of_z {w = w64} (record { sfits = c.age-2.type_inv }) ∙ c.age-2.ensures ∙ ap (age_of c.args.right_base) r

pub returns : goal.returns
returns c =
    let a = c.args in
    ap Ok
    (c.judge.ensures
    ∙ rw (left_age (goal.at.returns c).After-age (left_is (goal.at.returns c).In-Ok-right), right_age (goal.at.returns c).After-age-2 (right_is (goal.at.returns c).In-Ok-right)))
    ∙ sym (both_carried a.window a.left_base a.right_base a.left a.right c.in-Ok.l c.in-Ok-right.r c.in-Ok.is c.in-Ok-right.is)
