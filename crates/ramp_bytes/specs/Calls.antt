-- The ramp's calls over what C lends (change request E5).
use Rattle.std.specs.Prelude.{List, [], ◌∷◌, ℕ, ℤ, pos, length, Result, Ok, Err}
use Rattle.state_bytes.specs.Results.{refusal}
use Rattle.table_look.specs.Part.{place_at, part_at}
use Rattle.ramp.specs.Beast.{Verdict, one_beast_of, verdict_number, verdict_side}
use Rattle.ramp.specs.declared.beast.Beasts.TheVariants.{One, Two}
use Rattle.ramp_newest.specs.Newest.{later_update_of, later_number, later_side}
use Rattle.ramp_newest.specs.declared.newest.Later.{Later}
use Rattle.ramp_newest.specs.declared.newest.Later.TheVariants.{Left, Right}
use Rattle.ramp_newest.specs.declared.newest.LaterError.{LaterError}

-- "at least 0 is done": 1 is one beast, 2 is two; below 0 minus the number
unfoldable pub verdict_result : Verdict → ℤ
verdict_result (Ok One) = pos 1
verdict_result (Ok Two) = pos 2
verdict_result (Err e) = refusal (verdict_number (Err e))

-- the result, and the side after it, which is always written
pub record Ruled : Type 0 where
  pub result : ℤ
  pub side : ℕ

abbrev pub ruled : ℤ → ℕ → Ruled
ruled z s = record { result = z; side = s }

abbrev pub result_of : Verdict → Ruled
result_of v = ruled (verdict_result v) (verdict_side v)

unfoldable pub one_beast_at : List ℕ → ℕ → ℕ → ℕ → List ℕ → ℕ → ℕ → ℕ → ℕ → Ruled
one_beast_at left leftBase left_stamp leftNext right rightBase right_stamp rightNext window =
    result_of (one_beast_of
    (record { base = leftBase; stamp = left_stamp; next = leftNext }) left
    (record { base = rightBase; stamp = right_stamp; next = rightNext }) right
    window)

-- "the part as side, offset and length"; on refusal the side, and an empty part
unfoldable pub part_numbers : List ℕ → List ℕ → Result Later LaterError → List ℕ
part_numbers left right (Ok (Left k)) = later_side (Ok (Left k)) ∷ place_at left k ∷ length (part_at left k) ∷ []
part_numbers left right (Ok (Right k)) = later_side (Ok (Right k)) ∷ place_at right k ∷ length (part_at right k) ∷ []
part_numbers left right (Err e) = later_side (Err e) ∷ 0 ∷ 0 ∷ []

-- the result, and the three numbers after it, which are always written
pub record Placed : Type 0 where
  pub result : ℤ
  pub part : List ℕ

abbrev pub placed : ℤ → List ℕ → Placed
placed z p = record { result = z; part = p }

unfoldable pub newest_update_at : List ℕ → List ℕ → Placed
newest_update_at left right = let later = later_update_of left right in placed (refusal (later_number later)) (part_numbers left right later)
