-- Each entry is the days before its month, and these rise by the month's length.
use mathlib.Core.Path.{◌∙◌, sym, ap}
use Prim.Native.Nat.{ℕ, suc, ◌+◌}
use native.Mathlib.Omega.{arith}
use Rattle.calendar_months.specs.Months.{month_length, days_before}
use Rattle.calendar_months.proofs.MonthLaws.{starts_length, starts_at}
use Rattle.calendar_months.proofs.months.table_rule.Goals as goal

pub returns : goal.returns
unfolding days_before
returns c =
    record {
      entries = starts_length;
      first = starts_at 0 (omega arith);
      step = λ k h. starts_at (suc k) (omega arith) ∙ ap (λ (n : ℕ). n + month_length k) (sym (starts_at k (omega arith)));
    }
