-- Its seven pieces in a row.
use mathlib.Core.Path.{ap, ◌∙◌}
use mathlib.Core.List.{List, ◌++◌}
use Prim.Native.Nat.{ℕ}
use Rattle.text.specs.Line.{text_of, fitted, decimal}
use Rattle.day_sheet.proofs.SheetLaws.{pair_put, tag_joined}
use native.Mathlib.Omega.{arith}
use Rattle.day_sheet.proofs.sheet.tag_line.Goals as goal

pub returns : goal.returns
returns c =
    let a = c.args in
    tag_joined a.tag a.left a.right a.ruling
    (record {
      tag_fits = omega arith;
      left_fits = rw c.noted.ensures.0 at c.noted.ensures.1;
      right_fits = rw c.noted-2.ensures.0 at c.noted-2.ensures.1;
      ruling_short = c.with_ruling-beasts.ensures.1;
    })
    (c.with_number-number.ensures ∙ ap (λ (l : List ℕ). fitted (l ++ decimal a.tag)) c.empty.ensures)
    (pair_put (text_of c.with_number-number.result) c.noted.ensures.0 c.noted-2.ensures.0 c.with_pair-both.ensures)
    c.with_word-bar.ensures
    (pair_put (text_of c.with_word-bar.result) c.carried.ensures c.carried-2.ensures c.with_pair-all.ensures)
    c.with_word.ensures
    c.with_ruling-beasts.ensures.0
    c.with_byte.ensures
