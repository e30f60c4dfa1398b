-- How an input begins: with a whole entry, or with what can't be taken; and every input taken apart so (theorem Every input).
-- Assumes nothing.
use mathlib.Core.Path.{◌≡◌, refl, sym, ap, ◌∙◌}
use mathlib.Core.Logic.{◌⊎◌, inl, inr}
use mathlib.Core.Bool.{Bool, true, false, not}
use mathlib.Core.List.{List, [], ◌∷◌, ◌++◌, append_assoc}
use Prim.Native.Nat.{ℕ, zero, suc, ◌+◌, ◌≤◌, ◌<◌}
use native.Mathlib.Nat.{add-zero, zero-add}
use native.Mathlib.Omega.{arith}
use borrow.Author.Tests.{leb-true, le-leb, not-true}
use lib.Dec.{leb}
use lib.ListN.{length, take, drop, take-append-drop, length-take}
use lib.Seq.{take-nil, take-append-le, take_at, length-take-le}
use Rattle.octets.specs.Choice.{either}
use Rattle.octets.specs.Numbers.{le32}
use Rattle.octets.proofs.Tests.{both_reads, both_yes}
use Rattle.table.specs.Table.{size_b}
use Rattle.season_step.specs.Step.{most_tables, table_bytes, whole_b}
use Rattle.theorems_season.specs.Run.{entry_in, joined, all_whole_b, stops_b}
use Rattle.theorems_season.specs.Theorems.{EveryInput}
use Rattle.theorems_season.proofs.StepLaws.{whole_reads}

-- the four bytes of a size are those of the entry
head_kept : (l : List ℕ) → le32 (take 4 l) 0 ≡ le32 l 0
head_kept [] = refl
head_kept (a ∷ []) = refl
head_kept (a ∷ b ∷ []) = refl
head_kept (a ∷ b ∷ c ∷ []) = refl
head_kept (a ∷ b ∷ c ∷ d ∷ l) = refl

-- an input begins with a whole entry that stands in front of it
module _ (entry rest : List ℕ) (w : whole_b entry ≡ true) where
  w_size : size_b (le32 entry 0) ≡ true
  unfolding whole_b
  w_size = (both_reads _ _ w).0

  asked : table_bytes (take 4 (entry ++ rest)) ≡ le32 entry 0
  unfolding table_bytes
  asked =
      let e = whole_reads entry w in
      let four : 4 ≤ length entry = omega arith in
      rw (take-append-le 4 entry rest four, length-take-le 4 entry four, head_kept entry, w_size)

  pub entry_first : entry_in (entry ++ rest) ≡ entry
  unfolding entry_in
  entry_first = rw asked (take_at entry rest _ (whole_reads entry w).all)

pub entry_none : entry_in [] ≡ []
unfolding entry_in
entry_none = take-nil (4 + table_bytes [])

pub entry_some : (rest : List ℕ) → 1 ≤ length rest → 1 ≤ length (entry_in rest)
unfolding entry_in
entry_some rest h = omega (arith, length-take (4 + table_bytes (take 4 rest)) rest)

-- what can't be taken, after n entries
pub record Stops (n : ℕ) (rest : List ℕ) : Type 0 where
  pub some : 1 ≤ length rest
  pub why : (65535 < n + 1) ⊎ (whole_b (entry_in rest) ≡ false)

pub stops_reads : (n : ℕ) (rest : List ℕ) → stops_b n rest ≡ true → Stops n rest
unfolding stops_b
stops_reads n rest h =
    let b = both_reads (leb 1 (length rest)) _ h in
    record { some = leb-true _ _ b.0; why = go (leb most_tables n) (whole_b (entry_in rest)) refl refl b.1 }
  where
    go : (a d : Bool) → leb most_tables n ≡ a → whole_b (entry_in rest) ≡ d → either a (not d) ≡ true → (65535 < n + 1) ⊎ (whole_b (entry_in rest) ≡ false)
    go true d x y e = inl (omega (arith, leb-true most_tables n x))
    go false d x y e = inr (y ∙ not-true d e)

stops_late : (n : ℕ) (rest : List ℕ) → 1 ≤ length rest → 65535 ≤ n → stops_b n rest ≡ true
unfolding stops_b
stops_late n rest h l = rw (le-leb 1 (length rest) h, le-leb 65535 n l)

stops_cut : (n : ℕ) (rest : List ℕ) → 1 ≤ length rest → whole_b (entry_in rest) ≡ false → stops_b n rest ≡ true
unfolding stops_b
stops_cut n rest h w = rw (le-leb 1 (length rest) h, w) (go (leb most_tables n))
  where
    go : (b : Bool) → either b true ≡ true
    go true = refl
    go false = refl

-- an input taken apart, after n entries
record PartedAfter (n : ℕ) (input : List ℕ) : Type 0 where
  entries : List (List ℕ)
  rest : List ℕ
  parted : input ≡ joined entries ++ rest
  whole : all_whole_b entries ≡ true
  few : n + length entries ≤ 65535
  ends : (rest ≡ []) ⊎ (stops_b (n + length entries) rest ≡ true)

-- what follows the entry with which an input begins
abbrev after_entry : List ℕ → List ℕ
after_entry input = drop (4 + table_bytes (take 4 input)) input

part_here : (n : ℕ) (input : List ℕ) → n ≤ 65535 → (input ≡ []) ⊎ (stops_b n input ≡ true) → PartedAfter n input
unfolding joined all_whole_b
part_here n input h s = record { entries = []; rest = input; parted = refl; whole = refl; few = omega arith; ends = rw (add-zero n) s }

part_entry : (n : ℕ) (input : List ℕ) → whole_b (entry_in input) ≡ true → PartedAfter (n + 1) (after_entry input) → PartedAfter n input
unfolding joined all_whole_b entry_in
part_entry n input w x =
    let next : n + suc (length x.entries) ≡ n + 1 + length x.entries = omega arith in
    record {
      entries = entry_in input ∷ x.entries;
      rest = x.rest;
      parted =
          sym (take-append-drop (4 + table_bytes (take 4 input)) input)
          ∙ ap (λ (l : List ℕ). entry_in input ++ l) x.parted
          ∙ sym (append_assoc (entry_in input) (joined x.entries) x.rest);
      whole = both_yes w ∙ x.whole;
      few = omega arith;
      ends = rw next x.ends;
    }

part_last : (input : List ℕ) → PartedAfter 65535 input
part_last [] = part_here 65535 [] (omega arith) (inl refl)
part_last (b ∷ l) = part_here 65535 (b ∷ l) (omega arith) (inr (stops_late 65535 (b ∷ l) (omega arith) (omega arith)))

part_first : (n : ℕ) (input : List ℕ) → n ≤ 65535 → PartedAfter (n + 1) (after_entry input) → PartedAfter n input
part_first n [] h x = part_here n [] h (inl refl)
part_first n (b ∷ l) h x = go (whole_b (entry_in (b ∷ l))) refl
  where
    go : (d : Bool) → whole_b (entry_in (b ∷ l)) ≡ d → PartedAfter n (b ∷ l)
    go true w = part_entry n (b ∷ l) w x
    go false w = part_here n (b ∷ l) h (inr (stops_cut n (b ∷ l) (omega arith) w))

-- k entries more may follow
part_after : (k n : ℕ) (input : List ℕ) → n + k ≡ 65535 → PartedAfter n input
part_after zero n input h = let last : n ≡ 65535 = omega arith in rw last (part_last input)
part_after (suc k) n input h = part_first n input (omega arith) (part_after k (n + 1) (after_entry input) (omega arith))

pub every_input : EveryInput
every_input input =
    let x = part_after 65535 0 input (omega arith) in
    record {
      entries = x.entries;
      rest = x.rest;
      parted = x.parted;
      whole = x.whole;
      few = omega arith;
      ends = rw (zero-add (length x.entries)) at x.ends;
    }
