-- The table's entries are the days before each month; a test that antt computes over the whole table holds of each; how long a month is.
-- Assumes nothing.
use mathlib.Core.Path.{◌≡◌, refl, sym, ap, ◌∙◌}
use mathlib.Core.Bool.{Bool, true, false}
use mathlib.Core.List.{List, [], ◌∷◌}
use Prim.Native.Nat.{ℕ, zero, suc, ◌+◌, ◌/◌, ◌%◌, ◌≤◌}
use native.Mathlib.Nat.{add-zero, zero-add, add-suc, suc-add, le_of_suc-le-suc, not-suc-le-zero}
use native.Mathlib.Omega.{arith}
use lib.Dec.{eqb}
use lib.ListN.{length, get_or}
use Rattle.octets.specs.Choice.{both, pick}
use Rattle.octets.proofs.Tests.{both_reads}
use Rattle.calendar_months.specs.Months.{leap_b, thirty_b, days_in, month_length, days_before, starts_from, month_starts}

-- a table that begins with month k
from_length : (n k days : ℕ) → length (starts_from n k days) ≡ suc n
unfolding starts_from
from_length zero k days = refl
from_length (suc n) k days = ap suc (from_length n (suc k) (days + month_length k))

from_at : (n k j : ℕ) → j ≤ n → get_or (starts_from n k (days_before k)) j 0 ≡ days_before (k + j)
unfolding starts_from days_before
from_at zero k zero h = ap days_before (sym (add-zero k))
from_at zero k (suc j) h = absurd (not-suc-le-zero h)
from_at (suc n) k zero h = ap days_before (sym (add-zero k))
from_at (suc n) k (suc j) h = from_at n (suc k) j (le_of_suc-le-suc h) ∙ ap days_before (suc-add k j ∙ sym (add-suc k j))

pub starts_length : length month_starts ≡ 1201
unfolding month_starts
starts_length = from_length 1200 0 0

pub starts_at : (k : ℕ) → k ≤ 1200 → get_or month_starts k 0 ≡ days_before k
unfolding month_starts days_before
starts_at k h = from_at 1200 0 k h ∙ ap days_before (zero-add k)

-- a test of a month's number and the days before it, from month k on through a table
unfoldable pub every_b : (ℕ → ℕ → Bool) → ℕ → List ℕ → Bool
every_b f k [] = true
every_b f k (days ∷ l) = both (f k days) (every_b f (suc k) l)

from_every : (f : ℕ → ℕ → Bool) (n k : ℕ) → every_b f k (starts_from n k (days_before k)) ≡ true → (j : ℕ) → j ≤ n
    → f (k + j) (days_before (k + j)) ≡ true
unfolding every_b starts_from days_before
from_every f zero k e zero h = rw add-zero (both_reads (f k (days_before k)) _ e).0
from_every f zero k e (suc j) h = absurd (not-suc-le-zero h)
from_every f (suc n) k e zero h = rw add-zero (both_reads (f k (days_before k)) _ e).0
from_every f (suc n) k e (suc j) h =
    ap (λ (m : ℕ). f m (days_before m)) (add-suc k j ∙ sym (suc-add k j)) ∙ from_every f n (suc k) (both_reads (f k (days_before k)) _ e).1 j (le_of_suc-le-suc h)

pub every_start : (f : ℕ → ℕ → Bool) → every_b f 0 month_starts ≡ true → (k : ℕ) → k ≤ 1200 → f k (days_before k) ≡ true
unfolding month_starts days_before
every_start f e k h = ap (λ (m : ℕ). f m (days_before m)) (sym (zero-add k)) ∙ from_every f 1200 0 e k h

-- a month has 28 to 31 days
between : (two leap thirty : Bool) → (28 ≤ pick two (pick leap 29 28) (pick thirty 30 31)) × (pick two (pick leap 29 28) (pick thirty 30 31) ≤ 31)
between true true thirty = (omega arith, omega arith)
between true false thirty = (omega arith, omega arith)
between false leap true = (omega arith, omega arith)
between false leap false = (omega arith, omega arith)

pub length_between : (k : ℕ) → (28 ≤ month_length k) × (month_length k ≤ 31)
unfolding month_length days_in
length_between k = between (eqb (k % 12 + 1) 2) (leap_b (2000 + k / 12)) (thirty_b (k % 12 + 1))
