-- The three numbers of a part: the bytes that they lead to.
-- Assumes nothing.
use mathlib.Core.Path.{◌≡◌, refl, ap}
use mathlib.Core.List.{List, [], ◌∷◌}
use Rattle.std.proofs.Common.{Result, Ok, Err}
use Prim.Native.Nat.{ℕ}
use lib.ListN.{length, take, drop}
use Rattle.octets.specs.Numbers.{at}
use Rattle.octets.specs.Parts.{part}
use Rattle.table_look.specs.Part.{place_at, part_at}
use Rattle.table_look.proofs.LookLaws.{part_length}
use Rattle.ramp_newest.specs.Newest.{later_update_of, part_of, newest_update_of, later_side}
use Rattle.ramp_newest.specs.declared.newest.Later.{Later}
use Rattle.ramp_newest.specs.declared.newest.Later.TheVariants.{Left, Right}
use Rattle.ramp_newest.specs.declared.newest.LaterError.{LaterError}
use Rattle.ramp_newest.specs.declared.newest.LaterError.TheVariants.{LeftNotSound, RightNotSound, NoUpdateHeld}
use Rattle.ramp_newest.proofs.NewestLaws.{Answered, left_answered, right_answered}
use Rattle.ramp_bytes.specs.Calls.{part_numbers, newest_update_at}
use Rattle.ramp_bytes.specs.Theorems.{table_of, SamePart}

same_bytes : (t : List ℕ) (k : ℕ) → Answered t k → part t (place_at t k) (length (part_at t k)) ≡ part_at t k
unfolding part_at
same_bytes t k a = ap (λ (n : ℕ). take n (drop (place_at t k) t)) (part_length t k a.sound a.inside)

pub same_part : SamePart
unfolding newest_update_at part_numbers newest_update_of part_of later_side
same_part left right = go (later_update_of left right) refl
  where
    go : (x : Result Later LaterError) → later_update_of left right ≡ x
        → let p = part_numbers left right x in part (table_of left right (at p 0)) (at p 1) (at p 2) ≡ part_of left right x
    go (Ok (Left k)) e = same_bytes left k (left_answered left right k e)
    go (Ok (Right k)) e = same_bytes right k (right_answered left right k e)
    go (Err LeftNotSound) e = refl
    go (Err RightNotSound) e = refl
    go (Err NoUpdateHeld) e = refl
