-- Its digits fit a line, and the line is they.
use mathlib.Core.Path.{◌≡◌, ap, ◌∙◌}
use mathlib.Core.List.{List, ◌++◌}
use Prim.Native.Nat.{ℕ}
use Rattle.text.specs.Laid.{laid}
use Rattle.text.specs.Line.{text_of, fitted, decimal}
use Rattle.text.proofs.DecimalLaws.{decimal_short_any}
use Rattle.text.proofs.LaidLaws.{laid_once}
use Rattle.text.proofs.TextLaws.{fitted_short}
use native.Mathlib.Omega.{arith}
use Rattle.text.proofs.put.put_number.Goals as goal
use Rattle.text.proofs.put.put_number.Goals.{After-with_number}

digits : (c : After-with_number) → text_of c.with_number.result ≡ decimal c.args.n
digits c =
    let n = c.args.n in
    c.with_number.ensures
    ∙ ap (λ (l : List ℕ). fitted (l ++ decimal n)) c.empty.ensures
    ∙ fitted_short (decimal n) (omega (arith, decimal_short_any n))

pub put_line-requires : goal.put_line-requires
put_line-requires c = rw (digits (goal.at.put_line-requires c).After-with_number) (omega (arith, decimal_short_any c.args.n))

pub returns : goal.returns
returns c =
    let a = c.args in
    laid_once a.out.now (text_of c.with_number.result) a.at c.put_line.ensures.0 c.put_line.ensures.1
    ∙ ap (laid a.out.now a.at) (digits (goal.at.returns c).After-with_number)
