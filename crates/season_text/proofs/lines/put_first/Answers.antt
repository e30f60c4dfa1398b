-- Three words, each with its number from where the one before ends.
use mathlib.Core.Path.{◌∙◌}
use mathlib.Core.List.{◌++◌}
use Prim.Native.Nat.{◌+◌, ◌≤◌}
use Rattle.text.proofs.LaidLaws.{end_of, laid_on}
use Rattle.season_text.specs.Lines.{updates_word, forward_word, back_word, named, first_figures}
use Rattle.season_text.proofs.LineLaws.{named_short}
use native.Mathlib.Omega.{arith}
use Rattle.season_text.proofs.lines.put_first.Goals as goal
use Rattle.season_text.proofs.lines.put_first.Goals.{After-put_named-forward, After-put_named-updates}

ends : (c : After-put_named-updates) → c.put_named-updates.result ≤ c.args.at + 29
ends c =
    let a = c.args in
    omega (arith, end_of a.out.now (named updates_word a.f.updates) a.at c.put_named-updates.ensures, named_short updates_word a.f.updates)

ends_2 : (c : After-put_named-forward) → c.put_named-forward.result ≤ c.put_named-updates.result + 29
ends_2 c =
    let a = c.args in
    omega (arith, end_of c.put_named-updates.new.out (named forward_word a.f.forward) c.put_named-updates.result c.put_named-forward.ensures, named_short forward_word a.f.forward)

pub put_named-forward-requires : goal.put_named-forward-requires
put_named-forward-requires c = omega (arith, ends (goal.at.put_named-forward-requires c).After-put_named-updates)

pub put_named-requires : goal.put_named-requires
put_named-requires c = omega (arith, ends_2 (goal.at.put_named-requires c).After-put_named-forward, ends (goal.at.put_named-requires c).After-put_named-updates)

pub returns : goal.returns
unfolding first_figures
returns c =
    let a = c.args in
    let g = a.f in
    let updates = named updates_word g.updates in
    let forward = named forward_word g.forward in
    let back = named back_word g.back in
    c.put_named.ensures
    ∙ laid_on c.put_named-updates.new.out forward c.put_named-updates.result c.put_named-forward.ensures back
    (omega (arith, ends (goal.at.returns c).After-put_named-updates, named_short forward_word g.forward))
    ∙ laid_on a.out.now updates a.at c.put_named-updates.ensures (forward ++ back) (omega (arith, named_short updates_word g.updates))
