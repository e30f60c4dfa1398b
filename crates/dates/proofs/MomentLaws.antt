-- The line of a second that has a date, and of one that has none.
-- Assumes nothing.
use mathlib.Core.Path.{◌≡◌, refl, sym, ◌∙◌}
use mathlib.Core.List.{◌++◌}
use Prim.Native.Nat.{ℕ}
use borrow.Author.Tests.{le-leb, lt-leb}
use Rattle.rules.specs.Fields.{last_base_time}
use Rattle.calendar_dates.specs.Dates.{date_of_seconds, seconds_of_date}
use Rattle.calendar_dates.specs.declared.dates.Date.{Date}
use Rattle.std.proofs.Common.{Option, Some, None}
use Rattle.std.proofs.lemmas.Option.{same_Some, none-some}
use Rattle.calendar_dates.proofs.LostLaws.{had_date, had_none, there_and_back}
use Rattle.calendar_text.specs.Written.{dated_text, number_text}
use Rattle.dates.specs.Moments.{moment_line}

module _ (s : ℕ) where
  line_dated : (d : Date) → date_of_seconds s ≡ Some d → moment_line s ≡ dated_text (Some d) 32 ++ number_text s 10
  unfolding moment_line
  line_dated d e = rw (le-leb s last_base_time (had_date s d e), e)

  line_outside : date_of_seconds s ≡ None → moment_line s ≡ dated_text None 10
  unfolding moment_line
  line_outside e = rw (lt-leb s last_base_time (had_none s e))

-- A second's date, and what that turns back to: the second itself, or nothing where there is no date.
module _ (s : ℕ) (dated : Option Date) (back : Option ℕ) (is : dated ≡ date_of_seconds s)
    (on : (d : Date) → dated ≡ Some d → back ≡ seconds_of_date d) (none : dated ≡ None → back ≡ None) where
  pub line_back : (n : ℕ) → back ≡ Some n → moment_line s ≡ dated_text dated 32 ++ number_text n 10
  line_back n h = by (date_of_seconds s) refl
    where
      by : (o : Option Date) → date_of_seconds s ≡ o → moment_line s ≡ dated_text dated 32 ++ number_text n 10
      by (Some d) e =
          let it : n ≡ s = same_Some _ _ (sym h ∙ on d (is ∙ e) ∙ there_and_back s d e) in rw (is ∙ e, it) (line_dated s d e)
      by None e = absurd (none-some n (sym (none (is ∙ e)) ∙ h))

  pub line_none : back ≡ None → moment_line s ≡ dated_text None 10
  line_none h = by (date_of_seconds s) refl
    where
      by : (o : Option Date) → date_of_seconds s ≡ o → moment_line s ≡ dated_text None 10
      by (Some d) e = absurd (none-some s (sym h ∙ on d (is ∙ e) ∙ there_and_back s d e))
      by None e = line_outside s e
