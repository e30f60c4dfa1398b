-- Two words, each with its number, and the line's end, each from where the one before ends.
use mathlib.Core.Path.{◌∙◌}
use mathlib.Core.List.{[], ◌∷◌, ◌++◌}
use Prim.Native.Nat.{◌+◌, ◌≤◌}
use Rattle.text.proofs.LaidLaws.{end_of, laid_on}
use Rattle.season_text.specs.Lines.{faults_word, largest_word, named, last_figures}
use Rattle.season_text.proofs.LineLaws.{named_short}
use native.Mathlib.Omega.{arith}
use Rattle.season_text.proofs.lines.put_last.Goals as goal
use Rattle.season_text.proofs.lines.put_last.Goals.{After-put_named-faults, After-put_named-largest}

ends : (c : After-put_named-faults) → c.put_named-faults.result ≤ c.args.at + 28
ends c =
    let a = c.args in
    omega (arith, end_of a.out.now (named faults_word a.f.faults) a.at c.put_named-faults.ensures, named_short faults_word a.f.faults)

ends_2 : (c : After-put_named-largest) → c.put_named-largest.result ≤ c.put_named-faults.result + 29
ends_2 c =
    let g = c.args.f in
    omega (arith, end_of c.put_named-faults.new.out (named largest_word g.largest) c.put_named-faults.result c.put_named-largest.ensures, named_short largest_word g.largest)

pub put_named-largest-requires : goal.put_named-largest-requires
put_named-largest-requires c = omega (arith, ends (goal.at.put_named-largest-requires c).After-put_named-faults)

pub put_word-requires : goal.put_word-requires
put_word-requires c = omega (arith, ends_2 (goal.at.put_word-requires c).After-put_named-largest, ends (goal.at.put_word-requires c).After-put_named-faults)

pub returns : goal.returns
unfolding last_figures
returns c =
    let a = c.args in
    let faults = named faults_word a.f.faults in
    let largest = named largest_word a.f.largest in
    c.put_word.ensures
    ∙ laid_on c.put_named-faults.new.out largest c.put_named-faults.result c.put_named-largest.ensures (10 ∷ [])
    (omega (arith, ends (goal.at.returns c).After-put_named-faults, named_short largest_word a.f.largest))
    ∙ laid_on a.out.now faults a.at c.put_named-faults.ensures (largest ++ (10 ∷ [])) (omega (arith, named_short faults_word a.f.faults))
