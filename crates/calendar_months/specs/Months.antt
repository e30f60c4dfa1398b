-- The months of the years 2000 to 2099 (change request E4): "Days before each month from January 2000 to the end of 2099 stand in one table of
-- 1,201 entries, its rule proved once over the whole table: each step is the month's true length." Months are counted from January 2000,
-- which is month 0; December 2099 is month 1,199.
use Rattle.std.specs.Prelude.{◌≡◌, Bool, not, List, [], ◌∷◌, ℕ, zero, suc, ◌+◌, ◌/◌, ◌%◌, ◌<◌, eqb, length, get_or}
use Rattle.octets.specs.Choice.{both, either, pick}

-- the calendar's rule for leap years: 4 divides the year; of those that 100 divides, 400 does too
unfoldable pub leap_b : ℕ → Bool
leap_b year = both (eqb (year % 4) 0) (either (not (eqb (year % 100) 0)) (eqb (year % 400) 0))

-- April, June, September and November have 30 days
unfoldable pub thirty_b : ℕ → Bool
thirty_b month = either (eqb month 4) (either (eqb month 6) (either (eqb month 9) (eqb month 11)))

-- the days of a month of a year; January is 1
unfoldable pub days_in : ℕ → ℕ → ℕ
days_in year month = pick (eqb month 2) (pick (leap_b year) 29 28) (pick (thirty_b month) 30 31)

-- the same of the month that is k months after January 2000
unfoldable pub month_length : ℕ → ℕ
month_length k = days_in (2000 + k / 12) (k % 12 + 1)

-- the days from 2000-01-01 to the first of that month
unfoldable pub days_before : ℕ → ℕ
days_before zero = 0
days_before (suc k) = days_before k + month_length k

-- a table that begins with the days before month k, and has an entry for each of n months more
unfoldable pub starts_from : ℕ → ℕ → ℕ → List ℕ
starts_from zero k days = days ∷ []
starts_from (suc n) k days = days ∷ starts_from n (suc k) (days + month_length k)

-- the whole table: 1,200 months, and the end of the last
unfoldable pub month_starts : List ℕ
month_starts = starts_from 1200 0 0

-- Theorem Table rule: "each step is the month's true length"
pub record TableRule (t : List ℕ) : Type 0 where
  pub entries : length t ≡ 1201
  pub first : get_or t 0 0 ≡ 0
  pub step : (k : ℕ) → k < 1200 → get_or t (suc k) 0 ≡ get_or t k 0 + month_length k
