-- The same by the numbers that a driver reads: how often each occurs among the records handed over, and in what order.
use Rattle.std.specs.Prelude.{◌≡◌, Bool, true, false, List, [], ◌∷◌, map, ℕ, ◌+◌, ◌≤◌, leb, eqb}
use Rattle.octets.specs.Choice.{both, pick}
use Rattle.octets.specs.Numbers.{le16}
use Rattle.filter.specs.Filter.{matches_b}
use Rattle.filter.specs.declared.filter.Filter.{Filter}
use Rattle.record.specs.Fields.{sequence_of}
use Rattle.record.specs.declared.kinds.Record.{Record}
use Rattle.table.specs.Table.{count, held, age_of}
use Rattle.racp_notify.specs.Notify.{bit}
use Rattle.theorems_reports.specs.Endings.{closed}
use Rattle.theorems_handed.specs.Handed.{Course, assembled}

-- the numbers of the whole records handed over: each record's first two bytes
abbrev pub number_in : List ℕ → ℕ
number_in b = le16 b 0

abbrev pub numbers_in : Course → List ℕ
numbers_in c = map number_in (assembled c.notes).whole

-- how often a number occurs
unfoldable pub times : ℕ → List ℕ → ℕ
times n [] = 0
times n (x ∷ l) = bit (eqb x n) + times n l

-- Is a record with the number n held that the filter takes? Of records in a row, the first of them of age k.
unfoldable pub asked_from : Filter → ℕ → ℕ → ℕ → List Record → Bool
asked_from f h n k [] = false
asked_from f h n k (r ∷ l) =
    let rest = asked_from f h n (k + 1) l in
    pick (eqb (sequence_of r) n) (matches_b f h k n) rest

abbrev pub asked_b : Filter → List ℕ → ℕ → Bool
asked_b f t n = asked_from f (count t) n 0 (held t)

-- each greater than the one before, the first at least k
unfoldable pub rising_b : ℕ → List ℕ → Bool
rising_b k [] = true
rising_b k (a ∷ l) = both (leb k a) (rising_b (a + 1) l)

-- t is the table when the report was accepted
pub record Counted (f : Filter) (t : List ℕ) (c : Course) : Type 0 where
  -- "oldest first": their ages rise
  pub order : rising_b 0 (map (age_of t) (numbers_in c)) ≡ true
  -- however it ended: nothing that was not asked for, and nothing twice
  pub most : (n : ℕ) → times n (numbers_in c) ≤ bit (asked_b f t n)
  -- left to finish: "every matching held record exactly once .. and nothing else"
  pub once : c.ending ≡ closed → (n : ℕ) → times n (numbers_in c) ≡ bit (asked_b f t n)
