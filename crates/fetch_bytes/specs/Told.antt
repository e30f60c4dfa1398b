-- The told range as C holds it beside the map: three numbers (change request E10).
use Rattle.std.specs.Prelude.{List, [], ◌∷◌, Option, Some, None, Ok, Err, ℕ, eqb}
use Rattle.octets.specs.Choice.{pick}
use Rattle.octets.specs.Numbers.{at}
use Rattle.fetch_told.specs.Told.{span}
use Rattle.fetch_told.specs.declared.told.Span.{Span}
use Rattle.fetch_map.specs.Map.{Mapped}

-- the first is 0 for none, any other for a range; then its oldest and its newest number
unfoldable pub told_at : List ℕ → Option Span
told_at t = pick (eqb (at t 0) 0) None (Some (span (at t 1) (at t 2)))

-- what is told by a call: "the reader's oldest and newest held numbers, or none"
unfoldable pub range_of : ℕ → ℕ → ℕ → Option Span
range_of any oldest newest = pick (eqb any 0) None (Some (span oldest newest))

-- the three numbers that are written for it
unfoldable pub told_numbers : Option Span → List ℕ
told_numbers None = 0 ∷ 0 ∷ 0 ∷ []
told_numbers (Some held) = 1 ∷ held.first ∷ held.last ∷ []

-- a refusal leaves the numbers before
unfoldable pub told_after : Mapped → Option Span → List ℕ → List ℕ
told_after (Ok done) told before = told_numbers told
told_after (Err why) told before = before
