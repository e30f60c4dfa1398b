-- By the test, which looks at the three numbers alone.
use mathlib.Core.Path.{◌≡◌, sym, ap, ◌∙◌}
use mathlib.Core.Bool.{true}
use lib.ListN.{drop}
use mir.Facts.{to_z-of_z}
use Rattle.joining.specs.Joining.{takes_b}
use Rattle.joining.proofs.JoiningLaws.{takes_reads, join_taken}
use Rattle.state_bytes.specs.JoiningState.{joining_in}
use Rattle.tablet_bytes.specs.Calls.{joined_bytes}
use Rattle.tablet_bytes.proofs.JoinLaws.{in_refused}
use Rattle.std.proofs.Common.{rules}
use Rattle.tablet_bytes.proofs.join.join_state.Goals as goal
use Rattle.tablet_bytes.proofs.join.join_state.Goals.{After-takes, Else-not-takes}

tested : (c : After-takes)
    → let a = c.args in c.takes.result ≡ takes_b (joining_in a.s.now) a.note.now
unfolding joining_in
tested c = c.takes.ensures (drop 3 c.args.s.now)

does : (c : Else-not-takes)
    → (let a = c.args in c.takes.result ≡ takes_b (joining_in a.s.now) a.note.now)
    → let a = c.args in takes_b (joining_in a.s.now) a.note.now ≡ true
does c t = sym t ∙ c.if-not-takes.false

pub returns-then-not-takes : goal.returns-then-not-takes
returns-then-not-takes c = in_refused _ _ (search rules) (sym (tested (goal.at.returns-then-not-takes c).After-takes) ∙ c.if-not-takes.true) c.clear.ensures

pub take_in-requires : goal.take_in-requires
take_in-requires c = (search rules, takes_reads _ _ (does (goal.at.take_in-requires c).Else-not-takes (tested (goal.at.take_in-requires c).After-takes)))

pub returns : goal.returns
returns c =
    let r = c.take_in in
    rw (to_z-of_z (record { sfits = r.type_inv })) (r.ensures ∙ ap joined_bytes (sym (join_taken _ _ (does (goal.at.returns c).Else-not-takes (tested (goal.at.returns c).After-takes)))))
