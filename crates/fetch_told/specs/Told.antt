-- The told range (change request E10): "the tool is told the reader's oldest and newest held numbers, or none".
use Rattle.std.specs.Prelude.{Bool, false, Option, Some, None, ℕ, ◌+◌, leb}
use Rattle.filter.specs.Filter.{place_by_age}
use Rattle.fetch_told.specs.declared.told.Span.{Span}

-- the numbers from one forward to another
abbrev pub span : ℕ → ℕ → Span
span a b = record { first = a; last = b }

-- Does the number s lie inside? A range runs forward from the oldest number to the newest, as numbers go by age: after 65,535 comes 0.
unfoldable pub inside_b : Option Span → ℕ → Bool
inside_b None s = false
inside_b (Some held) s = leb (place_by_age held.first s) (place_by_age held.first held.last)

-- how many numbers lie inside a range: 1 to 65,536
unfoldable pub range_size : ℕ → ℕ → ℕ
range_size oldest newest = place_by_age oldest newest + 1
