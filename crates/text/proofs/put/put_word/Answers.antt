-- The word, from the place on to its end.
use mathlib.Core.Path.{refl}
use Rattle.text.proofs.LaidLaws.{laid_once}
use Rattle.text.proofs.put.put_word.Goals as goal

pub returns : goal.returns
returns c =
    let a = c.args in
    laid_once a.out.now a.word.now a.at refl c.put.ensures
