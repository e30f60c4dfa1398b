-- The lines lie within their buffer.
use Rattle.text.proofs.LaidLaws.{laid_within}
use Rattle.calendar.proofs.main.Goals as goal

pub print_lines-outcome-requires-clause-within : goal.print_lines-outcome-requires-clause-within
print_lines-outcome-requires-clause-within c table out len filled e = laid_within _ _ e
