-- The one word on an empty line.
use mathlib.Core.Path.{◌∙◌, ap}
use mathlib.Core.List.{List, ◌++◌}
use Prim.Native.Nat.{ℕ}
use Rattle.text.specs.Line.{fitted}
use Rattle.text.proofs.TextLaws.{fitted_short}
use Rattle.day_sheet.specs.Sheet.{title_line}
use native.Mathlib.Omega.{arith}
use Rattle.day_sheet.proofs.sheet.title_line.Goals as goal

pub returns : goal.returns
returns c =
    c.with_word.ensures
    ∙ ap (λ (l : List ℕ). fitted (l ++ title_line)) c.empty.ensures
    ∙ fitted_short title_line (omega arith)
