-- What the numbers of a part come to (change request E5): "the part as side, offset and length for C, where a slice can't be handed back".
use Rattle.std.specs.Prelude.{◌≡◌, List, ℕ, eqb}
use Rattle.octets.specs.Choice.{pick}
use Rattle.octets.specs.Numbers.{at}
use Rattle.octets.specs.Parts.{part}
use Rattle.ramp_newest.specs.Newest.{newest_update_of}
use Rattle.ramp_bytes.specs.Calls.{newest_update_at}

-- the table of a side; where the side is none the part is empty, and either table will do
abbrev pub table_of : List ℕ → List ℕ → ℕ → List ℕ
table_of left right side = pick (eqb side 2) right left

abbrev pub SamePart : Type 0
SamePart = (left right : List ℕ)
    → let p = (newest_update_at left right).part in
    part (table_of left right (at p 0)) (at p 1) (at p 2) ≡ newest_update_of left right
