-- One digit after the other.
use mathlib.Core.List.{[], ◌∷◌}
use Rattle.text.specs.Line.{text_of, two_digits}
use Rattle.text.proofs.TextLaws.{fitted_then}
use Rattle.day_sheet.proofs.sheet.with_two.Goals as goal

pub returns : goal.returns
unfolding two_digits
returns c = fitted_then (text_of c.args.line) (_ ∷ []) (_ ∷ []) c.with_byte-tens.ensures c.with_byte.ensures
