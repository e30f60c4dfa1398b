-- The search through the whole range, and the run that it ends with.
use Prim.Native.Nat.{ℕ}
use mathlib.Core.Path.{ap, ◌∙◌}
use Rattle.fetch_propose.specs.Propose.{numbers_from, run_after, run_among}
use Rattle.fetch_word.specs.declared.run.Run.{Run}
use Rattle.fetch_told.proofs.ToldLaws.{range_some, range_most}
use Rattle.fetch_propose.proofs.SearchLaws.{through_within, run_is}
use Rattle.fetch_propose.proofs.propose.first_run.Goals as goal

pub look_through-requires : goal.look_through-requires
look_through-requires c = (rw c.size.ensures (range_some _ _), rw c.size.ensures (range_most _ _))

pub proposed-requires : goal.proposed-requires
proposed-requires c = rw c.look_through.ensures (through_within c.args.words.now _ _ (rw c.size.ensures (range_most _ _)))

pub returns : goal.returns
returns c =
    let m = c.args.words.now in
    let o = c.args.held.first in
    c.proposed.ensures
    ∙ ap (λ (r : Run). run_after o r.before r.length) c.look_through.ensures
    ∙ run_is o (numbers_from m o c.size.result)
    ∙ ap (λ (n : ℕ). run_among o (numbers_from m o n)) c.size.ensures
