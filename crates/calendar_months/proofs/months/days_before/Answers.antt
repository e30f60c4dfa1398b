-- The entry that the table has there.
use Rattle.std.proofs.Common.{List, ap, ◌∙◌, ℕ, slice_index_or}
use Rattle.calendar_months.proofs.MonthLaws.{starts_at}
use Rattle.calendar_months.proofs.months.days_before.Goals as goal

pub returns : goal.returns
returns c = ap (λ (t : List ℕ). slice_index_or t c.args.month 0) c.starts.ensures ∙ starts_at c.args.month c.requires
