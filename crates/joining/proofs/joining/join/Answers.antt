-- `join` is `join_of`, by the test.
use mathlib.Core.Path.{◌≡◌, sym, ap, ◌∙◌}
use mathlib.Core.Bool.{true}
use Rattle.joining.specs.Joining.{takes_b, joined}
use Rattle.joining.specs.declared.joining.Answer.TheVariants.{Refused}
use Rattle.joining.proofs.JoiningLaws.{takes_reads, join_refused, join_taken}
use Rattle.joining.proofs.joining.join.Goals as goal
use Rattle.joining.proofs.joining.join.Goals.{Else-not-takes}

does : (c : Else-not-takes) → takes_b c.args.j c.args.note.now ≡ true
does c = sym (c.takes.ensures _) ∙ c.if-not-takes.false

pub returns-then-not-takes : goal.returns-then-not-takes
returns-then-not-takes c =
    ap (joined Refused) c.restart-fresh.ensures
    ∙ sym (join_refused _ _ (sym (c.takes.ensures _) ∙ c.if-not-takes.true))

pub taken-requires : goal.taken-requires
taken-requires c = takes_reads _ _ (does (goal.at.taken-requires c).Else-not-takes)

pub returns : goal.returns
returns c = c.taken.ensures ∙ sym (join_taken _ _ (does (goal.at.returns c).Else-not-takes))
