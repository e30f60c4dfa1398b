-- Each day of the years 2000 to 2099 lies in one month; how near that is to the month that division finds.
-- Assumes nothing.
use mathlib.Core.Path.{◌≡◌, refl, sym, ap, ◌∙◌}
use mathlib.Core.Bool.{Bool, true, false}
use Prim.Native.Nat.{ℕ, zero, suc, ◌+◌, ◌-◌, ◌*◌, ◌/◌, ◌≤◌, ◌<◌}
use native.Mathlib.Nat.{add-zero, zero-add, le_of_suc-le-suc, not-suc-le-zero}
use native.Mathlib.Numerals.{add-one}
use native.Mathlib.Omega.{arith}
use borrow.Author.Tests.{leb-true, ltb-true, ltb-false, lt-ltb, le-ltb}
use lib.Dec.{leb, ltb}
use lib.ListN.{get_or}
use Rattle.octets.specs.Choice.{both}
use Rattle.octets.proofs.Tests.{both_reads}
use Rattle.calendar_months.specs.Months.{leap_b, thirty_b, days_in, month_length, days_before, starts_from, month_starts}
use Rattle.calendar_months.proofs.MonthLaws.{every_b, every_start, starts_at}
use Rattle.calendar_dates.specs.Dates.{month_day, day_from, day_after}

last_entry : get_or month_starts 1200 0 ≡ 36525
unfolding leap_b thirty_b days_in month_length starts_from month_starts
last_entry = refl

pub all_days : days_before 1200 ≡ 36525
all_days = sym (starts_at 1200 (omega arith)) ∙ last_entry

-- A month of average length has 1,461 / 48 days. The days before a month are at most two fewer than those of so many average months, and not as
-- many more as an average month less a day.
pub record Near (k days : ℕ) : Type 0 where
  pub least : 1461 * k ≤ 48 * days + 96
  pub most : 48 * days + 48 < 1461 * k + 1461
  pub within : days ≤ 36525

near_b : ℕ → ℕ → Bool
near_b k days = both (leb (1461 * k) (48 * days + 96)) (both (ltb (48 * days + 48) (1461 * k + 1461)) (leb days 36525))

all_near : every_b near_b 0 month_starts ≡ true
unfolding every_b near_b leap_b thirty_b days_in month_length starts_from month_starts
all_near = refl

pub near : (k : ℕ) → k ≤ 1200 → Near k (days_before k)
unfolding near_b
near k h =
    let a = both_reads (leb (1461 * k) (48 * days_before k + 96)) _ (every_start near_b all_near k h) in
    let b = both_reads (ltb (48 * days_before k + 48) (1461 * k + 1461)) _ a.1 in
    record { least = leb-true _ _ a.0; most = ltb-true _ _ b.0; within = leb-true _ _ b.1 }

pub days_next : (k : ℕ) → days_before (k + 1) ≡ days_before k + month_length k
unfolding days_before
days_next k = rw add-one

-- the day after the next would lie in month g, were all months of one length
module _ (day g : ℕ) (few : day < 36525) (e : g ≡ 48 * (day + 2) / 1461) where
  pub near_within : g ≤ 1200
  near_within = omega arith

  -- no day lies before month 0
  pub near_some : day < days_before g → 1 ≤ g
  unfolding days_before
  near_some h = by (ltb 0 g) refl
    where
      by : (b : Bool) → ltb 0 g ≡ b → 1 ≤ g
      by true t = ltb-true 0 g t
      by false t = let z : g ≡ 0 = omega (arith, ltb-false 0 g t) in omega (arith, ap days_before z, h)

  pub near_before : day < days_before g → (g - 1 < 1200) × (days_before (g - 1) ≤ day) × (day < days_before (g - 1 + 1))
  near_before h =
      let s = near_some h in
      let one : g - 1 + 1 ≡ g = omega arith in
      let n = near (g - 1) (omega (arith, near_within)) in
      (omega (arith, near_within), omega (arith, n.most), rw one h)

  -- none in month 1,200 or after it
  less : days_before g ≤ day → g < 1200
  less h = by (ltb g 1200) refl
    where
      by : (b : Bool) → ltb g 1200 ≡ b → g < 1200
      by true t = ltb-true g 1200 t
      by false t =
          let z : g ≡ 1200 = omega (arith, ltb-false g 1200 t, near_within) in omega (arith, ap days_before z, all_days, h)

  pub near_here : days_before g ≤ day → (g < 1200) × (days_before g ≤ day) × (day < days_before (g + 1))
  near_here h = (less h, h, omega (arith, (near (g + 1) (omega (arith, less h))).least))

days_later : (k j : ℕ) → days_before k ≤ days_before (k + j)
days_later k zero = rw add-zero (omega arith)
days_later k (suc j) =
    let z : k + suc j ≡ k + j + 1 = omega arith in omega (arith, ap days_before z, days_later k j, days_next (k + j))

-- going through the months from k on, day e of the month that is j months later is found
found_from : (n k j e days : ℕ) → j < n → e < month_length (k + j) → days + days_before k ≡ days_before (k + j) + e
    → day_from n k days ≡ month_day (k + j) (e + 1)
unfolding day_from
found_from zero k j e days h l s = absurd (not-suc-le-zero h)
found_from (suc n) k zero e days h l s =
    let z : k + 0 ≡ k = add-zero k in
    let here : days ≡ e = omega (arith, ap days_before z, s) in
    let less : days < month_length k = omega (arith, ap month_length z, l) in
    rw (lt-ltb days (month_length k) less, here, z)
found_from (suc n) k (suc j) e days h l s =
    let z : k + suc j ≡ k + 1 + j = omega arith in
    let step = days_next k in
    let later = days_later (k + 1) j in
    let past : month_length k ≤ days = omega (arith, step, later, ap days_before z, s) in
    let rest = found_from n (k + 1) j e (days - month_length k) (le_of_suc-le-suc h) (rw z at l) (omega (arith, step, past, ap days_before z, s)) in
    let one : suc k ≡ k + 1 = omega arith in
    rw (le-ltb days (month_length k) past, z, one) rest

pub found : (days k : ℕ) → k < 1200 → days_before k ≤ days → days < days_before (k + 1) → day_after days ≡ month_day k (days - days_before k + 1)
unfolding day_after days_before
found days k h from before =
    found_from 1200 0 k (days - days_before k) days h (rw (zero-add k) (omega (arith, days_next k))) (rw (zero-add k) (omega arith))
    ∙ rw (zero-add k)

-- every day before month n lies in a month before it
pub record LiesIn (days k : ℕ) : Type 0 where
  pub from : days_before k ≤ days
  pub before : days < days_before (k + 1)

pub some_month : (n days : ℕ) → days < days_before n → (k : ℕ) × (k < n) × LiesIn days k
unfolding days_before
some_month zero days h = absurd (not-suc-le-zero h)
some_month (suc n) days h = by (ltb days (days_before n)) refl (some_month n days)
  where
    by : (b : Bool) → ltb days (days_before n) ≡ b → (days < days_before n → (k : ℕ) × (k < n) × LiesIn days k) → (k : ℕ) × (k < suc n) × LiesIn days k
    by true e earlier = let m = earlier (ltb-true _ _ e) in (m.0, omega (arith, m.1), m.2)
    by false e earlier = (n, omega arith, record { from = ltb-false _ _ e; before = rw add-one h })
