-- What came of carrying is shown where there was a stamp.
use mathlib.Core.Path.{sym, ap, ◌∙◌}
use Rattle.day_sheet.specs.Sheet.{carried_of}
use Rattle.day_sheet.proofs.sheet.carried.Goals as goal

pub returns-in-None : goal.returns-in-None
unfolding carried_of
returns-in-None c = sym (ap carried_of c.in-None.is)

pub returns-in-Some : goal.returns-in-Some
unfolding carried_of
returns-in-Some c = c.outcome.ensures ∙ sym (ap carried_of c.in-Some.is)
