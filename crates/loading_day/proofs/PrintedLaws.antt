-- The sheet and the copies of the story, computed as one test, so that the checker plays the day only once.
-- Assumes nothing.
use mathlib.Core.Path.{◌≡◌, refl, ap}
use mathlib.Core.Bool.{Bool, true, false}
use mathlib.Core.List.{List, [], ◌∷◌, map}
use Prim.Native.Nat.{ℕ}
use lib.Dec.{eqb}
use borrow.Author.Tests.{eqb-true}
use Rattle.octets.specs.Choice.{both}
use Rattle.octets.specs.Parts.{same_b}
use Rattle.octets.proofs.Tests.{both_reads, clash}
use Rattle.octets.proofs.SameLaws.{same_reads}
use Rattle.record.specs.Fields.{sequence_of}
use Rattle.table.specs.Table.{next, record_in, ring, held, sound_b}
use Rattle.carry.specs.Stamp.{carry_of}
use Rattle.day_play.specs.Play.{opened_of, played_of}
use Rattle.day_play.specs.declared.play.Ramp.{Ramp}
use Rattle.day_evening.specs.Fetch.{fetched_of}
use Rattle.loading_day.specs.Story.{the_day, the_tags}
use Rattle.loading_day.specs.Page.{evening_of, sheet_of}
use Rattle.loading_day.specs.Printed.{the_sheet, joined_lines, printed, Copied, left_numbers, right_numbers, Fetched, Printed}

-- the same held slots, byte for byte
unfoldable slots_b : List (List ℕ) → List (List ℕ) → Bool
unfolding same_b
slots_b [] [] = true
slots_b [] (y ∷ ys) = false
slots_b (x ∷ xs) [] = false
slots_b (x ∷ xs) (y ∷ ys) = both (same_b x y) (slots_b xs ys)

slots_reads : (xs ys : List (List ℕ)) → slots_b xs ys ≡ true → xs ≡ ys
unfolding slots_b
slots_reads [] [] h = refl
slots_reads [] (y ∷ ys) h = absurd (clash false h refl)
slots_reads (x ∷ xs) [] h = absurd (clash false h refl)
slots_reads (x ∷ xs) (y ∷ ys) h =
    let r = both_reads _ _ h in rw (same_reads x y r.0, slots_reads xs ys r.1)

-- both tables sound, the same slots held, the same next number
unfoldable copied_b : List ℕ → List ℕ → Bool
unfolding slots_b
copied_b t u = both (both (sound_b t) (sound_b u)) (both (slots_b (ring u) (ring t)) (eqb (next u) (next t)))

module _ (t u : List ℕ) where
  carries_by : sound_b t ≡ true → sound_b u ≡ true → held u ≡ held t → next u ≡ next t → (stamp q : ℕ) → carry_of stamp q u ≡ carry_of stamp q t
  unfolding carry_of
  carries_by s v h n stamp q = rw (s, v, h, n)

  copied_reads : copied_b t u ≡ true → Copied t u
  unfolding copied_b held
  copied_reads h =
      let r = both_reads _ _ h in
      let s = both_reads _ _ r.0 in
      let k = both_reads _ _ r.1 in
      let same = ap (map record_in) (slots_reads (ring u) (ring t) k.0) in
      let number = eqb-true (next u) (next t) k.1 in
      record { sound = s.1; held = same; next = number; carries = carries_by s.0 s.1 same number }

-- a table's held records have these numbers
unfoldable numbers_b : List ℕ → List ℕ → Bool
unfolding same_b
numbers_b t numbers = same_b (map sequence_of (held t)) numbers

-- on a ramp in the evening: the text printed, both copies, the numbers in both logs, the left copy's bytes
unfoldable printed_b : Ramp → Bool
unfolding same_b copied_b numbers_b
printed_b v =
    both (same_b (evening_of the_tags v) (joined_lines printed))
    (both (both (copied_b v.left.table (fetched_of v.left)) (copied_b v.right.table (fetched_of v.right)))
    (both (both (numbers_b v.left.table left_numbers) (numbers_b v.right.table right_numbers)) (same_b (fetched_of v.left) v.left.table)))

printed_reads : (v : Ramp) → printed_b v ≡ true → (evening_of the_tags v ≡ joined_lines printed) × Fetched v
unfolding printed_b numbers_b
printed_reads v h =
    let r = both_reads _ _ h in
    let s = both_reads _ _ r.1 in
    let c = both_reads _ _ s.0 in
    let e = both_reads _ _ s.1 in
    let n = both_reads _ _ e.0 in
    let left = copied_reads v.left.table (fetched_of v.left) c.0 in
    let right = copied_reads v.right.table (fetched_of v.right) c.1 in (
      same_reads _ _ r.0,
      record {
        left = left;
        right = right;
        left_numbers_lem = same_reads _ _ n.0;
        right_numbers_lem = same_reads _ _ n.1;
        left_bytes = same_reads _ _ e.1;
      },
    )

the_day_printed : printed_b (played_of opened_of the_day) ≡ true
unfolding printed_b the_sheet joined_lines printed
the_day_printed = refl

pub computed : Printed
unfolding sheet_of
computed = let r = printed_reads (played_of opened_of the_day) the_day_printed in record { text = r.0; copies = r.1 }
