-- `lay_body` lays the body over what `begin` leaves, at the place that `standing` says.
use mathlib.Core.Path.{ap, ◌∙◌}
use lib.ListN.{length}
use Rattle.joining.proofs.JoiningLaws.{body_lent}
use native.Mathlib.Omega.{arith}
use Rattle.joining.proofs.joining.lay_body.Goals as goal

pub put-requires : goal.put-requires
put-requires c =
    let a = c.args in
    omega (arith, c.requires.1.1, c.standing.ensures 0 a.bytes.now, ap length (body_lent a.note.now))

pub returns : goal.returns
returns c k =
    let a = c.args in
    c.put.ensures
    ∙ simp (c.begin.ensures k a.len, c.standing.ensures k a.bytes.now, body_lent a.note.now)
