-- `same` is `same_b`: at each turn what is left is the same exactly where the whole is.
use mathlib.Core.Path.{refl, sym, ◌∙◌}
use Rattle.octets.proofs.SameLaws.{same_step, same_differs, same_end}
use Rattle.std.proofs.Common.{rules}
use Rattle.state_bytes.proofs.state.same.Goals as goal

pub loop-i-init : goal.loop-i-init
loop-i-init c = refl

pub returns-then-a-i : goal.returns-then-a-i
returns-then-a-i c = let l = c.loop-i in sym (l.invariant ∙ same_differs _ _ l.i (search rules) (search rules) c.if-a-i.true)

pub loop-i-preserved : goal.loop-i-preserved
loop-i-preserved c = let l = c.loop-i in l.invariant ∙ same_step _ _ l.i (search rules) (search rules) c.if-a-i.false

pub returns : goal.returns
returns c = let l = c.loop-i in sym (l.invariant ∙ same_end _ _ l.i (search rules) (search rules))
