-- Nothing lost: each call's answer turns back by the other to what was asked.
-- Assumes nothing.
use mathlib.Core.Path.{◌≡◌, refl, sym, ap, ◌∙◌}
use mathlib.Core.Bool.{Bool, true, false}
use Prim.Native.Nat.{ℕ, ◌/◌, ◌≤◌, ◌<◌}
use native.Mathlib.Omega.{arith}
use borrow.Author.Tests.{leb-true, leb-false}
use lib.Dec.{leb}
use Rattle.octets.specs.Choice.{pick}
use Rattle.rules.specs.Fields.{last_base_time}
use Rattle.calendar_dates.specs.Dates.{date_of_seconds, exists_b, seconds_to, seconds_of_date}
use Rattle.calendar_dates.specs.declared.dates.Date.{Date}
use Rattle.std.proofs.Common.{Some, None}
use Rattle.std.proofs.lemmas.Option.{same_Some, none-some}
use Rattle.calendar_dates.proofs.DayLaws.{all_days, some_month}
use Rattle.calendar_dates.proofs.DateLaws.{Exists, exists_makes, exists_reads, its_date, dated, date_exists, date_back, reckoned, seconds_back}

-- a second of the years has a date, which exists and turns back to it
pub record Turns (s : ℕ) : Type 0 where
  pub date : Date
  pub dated : date_of_seconds s ≡ Some date
  pub exists : Exists date
  pub back : seconds_to date ≡ s

pub turns : (s : ℕ) → s ≤ last_base_time → Turns s
turns s h =
    let m = some_month 1200 (s / 86400) (omega (arith, all_days)) in
    record {
      date = its_date s m.0 h m.1 m.2;
      dated = dated s m.0 h m.1 m.2;
      exists = date_exists s m.0 h m.1 m.2;
      back = date_back s m.0 h m.1 m.2;
    }

-- only seconds of the years have a date, only dates that exist a second
picked : {A : Type 0} (b : Bool) (x : A) {d : A} → pick b (Some x) None ≡ Some d → b ≡ true
picked true x e = refl
picked false x e = absurd (none-some _ e)

pub had_date : (s : ℕ) (d : Date) → date_of_seconds s ≡ Some d → s ≤ last_base_time
unfolding date_of_seconds
had_date s d e = leb-true s last_base_time (picked (leb s last_base_time) _ e)

pub had_second : (s : ℕ) (d : Date) → seconds_of_date d ≡ Some s → exists_b d ≡ true
unfolding seconds_of_date
had_second s d e = picked (exists_b d) _ e

module _ (s : ℕ) (d : Date) (e : date_of_seconds s ≡ Some d) where
  t : Turns s
  t = turns s (had_date s d e)

  same : t.date ≡ d
  same = same_Some _ _ (sym t.dated ∙ e)

  pub its_date_exists : Exists d
  its_date_exists = rw same at t.exists

  pub its_second : seconds_to d ≡ s
  its_second = rw same at t.back

pub there_and_back : (s : ℕ) (d : Date) → date_of_seconds s ≡ Some d → seconds_of_date d ≡ Some s
there_and_back s d e = reckoned d (exists_makes d (its_date_exists s d e)) ∙ ap Some (its_second s d e)

pub back_and_there : (s : ℕ) (d : Date) → seconds_of_date d ≡ Some s → date_of_seconds s ≡ Some d
back_and_there s d e =
    let h = had_second s d e in
    let same : seconds_to d ≡ s = same_Some _ _ (sym (reckoned d h) ∙ e) in
    rw same at (seconds_back d (exists_reads d h))

pub one_second : (s t : ℕ) (d : Date) → date_of_seconds s ≡ Some d → date_of_seconds t ≡ Some d → s ≡ t
one_second s t d e f = sym (its_second s d e) ∙ its_second t d f

pub one_date : (s : ℕ) (d e : Date) → seconds_of_date d ≡ Some s → seconds_of_date e ≡ Some s → d ≡ e
one_date s d e f g = same_Some _ _ (sym (back_and_there s d f) ∙ back_and_there s e g)

-- for a caller that turns a second to its date: it has none only after 2099
pub had_none : (s : ℕ) → date_of_seconds s ≡ None → last_base_time < s
had_none s e = by (leb s last_base_time) refl
  where
    by : (b : Bool) → leb s last_base_time ≡ b → last_base_time < s
    by true t = absurd (none-some _ (sym e ∙ (turns s (leb-true s last_base_time t)).dated))
    by false t = leb-false s last_base_time t
