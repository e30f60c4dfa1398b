-- The word and the position, and the line's end.
use mathlib.Core.Path.{◌∙◌}
use mathlib.Core.List.{[], ◌∷◌}
use Rattle.text.proofs.LaidLaws.{end_of, laid_on}
use Rattle.season_text.specs.Lines.{ended_word, named, ended_line}
use Rattle.season_text.proofs.LineLaws.{named_short}
use native.Mathlib.Omega.{arith}
use Rattle.season_text.proofs.lines.put_ended.Goals as goal

pub put_word-requires : goal.put_word-requires
put_word-requires c =
    let a = c.args in
    omega (arith, end_of a.out.now (named ended_word a.position) 0 c.put_named-end.ensures, named_short ended_word a.position)

pub returns : goal.returns
unfolding ended_line
returns c =
    let a = c.args in
    c.put_word.ensures
    ∙ laid_on a.out.now (named ended_word a.position) 0 c.put_named-end.ensures (10 ∷ []) (omega (arith, named_short ended_word a.position))
