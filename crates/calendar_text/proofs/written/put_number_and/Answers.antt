-- Its digits, and the byte from where they end.
use mathlib.Core.Path.{◌∙◌}
use mathlib.Core.List.{[], ◌∷◌}
use Rattle.text.specs.Line.{decimal}
use Rattle.text.proofs.DecimalLaws.{decimal_short_any}
use Rattle.text.proofs.LaidLaws.{end_of, laid_on}
use Rattle.calendar_text.specs.Written.{number_text}
use native.Mathlib.Omega.{arith}
use Rattle.calendar_text.proofs.written.put_number_and.Goals as goal

pub put_word-requires : goal.put_word-requires
put_word-requires c =
    let a = c.args in
    omega (arith, end_of a.out.now (decimal a.n) a.at c.put_number-end.ensures, decimal_short_any a.n)

pub returns : goal.returns
unfolding number_text
returns c =
    let a = c.args in
    c.put_word.ensures
    ∙ laid_on a.out.now (decimal a.n) a.at c.put_number-end.ensures (a.after ∷ []) (omega (arith, decimal_short_any a.n))
