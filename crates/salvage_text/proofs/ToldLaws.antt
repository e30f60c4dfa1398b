-- The lines of a report one after the other, what is said of an answer, and both buffers.
-- Assumes nothing.
use mathlib.Core.Path.{◌≡◌, refl, sym, ap, ◌∙◌}
use mathlib.Core.Bool.{Bool, true, false}
use mathlib.Core.List.{List, [], ◌++◌}
use Prim.Native.Nat.{ℕ, zero, suc, ◌/◌, ◌≤◌, ◌<◌}
use native.Mathlib.Omega.{arith}
use borrow.Author.Tests.{leb-true, leb-false}
use Rattle.std.proofs.Common.{Result, Ok, Err}
use lib.Dec.{leb}
use lib.ListN.{length, replicate, length-append}
use lib.Seq.{take_at, drop_at}
use Rattle.octets.specs.Choice.{both, pick}
use Rattle.octets.specs.Parts.{over}
use Rattle.text.specs.Laid.{Filled, filled, laid}
use Rattle.text.proofs.LaidLaws.{laid_within}
use Rattle.salvage_call.specs.Salvage.{Salvage, salvaged, given, salvage_of}
use Rattle.salvage_call.proofs.SalvageLaws.{is_impossible, is_short, is_sound, is_none, is_rebuilt, length_salvaged, done_small}
use Rattle.salvage_call.specs.declared.salvage.SalvageError.{SalvageError}
use Rattle.salvage_call.specs.declared.salvage.SalvageError.TheVariants.{DoesNotFit}
use Rattle.salvage_text.specs.Told.{entry_line, lines_of, report_lines, told_by, back_by, Printed, report_room, printed, printed_by, tell_of}
use Rattle.salvage_text.specs.declared.told.Told.{Told}

-- the lines of a report with one more entry in front, and of one that is too short for an entry
pub lines_next : (x r : List ℕ) → length x ≡ 16 → report_lines (x ++ r) ≡ entry_line x ++ report_lines r
unfolding report_lines lines_of
lines_next x r e =
    let more : length (x ++ r) / 16 ≡ suc (length r / 16) = omega (arith, length-append x r) in
    rw (more, take_at x r 16 e, drop_at x r 16 e)

pub lines_end : (r : List ℕ) → length r < 16 → report_lines r ≡ []
unfolding report_lines lines_of
lines_end r h = let none : length r / 16 ≡ 0 = omega arith in rw none

abbrev buffers : Filled → Filled → Printed
buffers table told = record { table = table; told = told }

-- a call with room for any report, that left x and y in its rooms
module _ (input table : List ℕ) {a : Result ℕ SalvageError} {x y : List ℕ} (called : salvaged a x y ≡ salvage_of input table (replicate report_room 0)) where
  pub done_within : (n : ℕ) → a ≡ Ok n → n ≤ report_room
  done_within n e = done_small input table (replicate report_room 0) n (ap (λ (s : Salvage). s.answer) (sym called) ∙ e)

  -- both buffers, once the report is told
  pub both_told : (out : List ℕ) {m n : ℕ} {b : List ℕ} → m ≡ back_by a (length input) → filled n b ≡ laid out 0 (told_by a y)
      → buffers (filled m x) (filled n b) ≡ tell_of input table out
  unfolding tell_of
  both_told out {m} {n} {b} back told =
      ap (λ (k : ℕ). buffers (filled k x) (filled n b)) back
      ∙ ap (buffers (filled (back_by a (length input)) x)) told
      ∙ ap (λ (s : Salvage). printed_by s (length input) out) called

by_test : {P : Type 0} (b : Bool) → (b ≡ true → P) → (b ≡ false → P) → P
by_test true h k = h refl
by_test false h k = k refl

by_zero : {P : Type 0} (n : ℕ) → (n ≡ 0 → P) → ((n ≡ 0 → ⊥) → P) → P
by_zero zero h k = h refl
by_zero (suc n) h k = k (λ e. omega arith)

-- what came back is as long as the input, and stands in the table's room
abbrev Stands : ℕ → Salvage → Type 0
Stands size s = back_by s.answer size ≤ length s.table

given_stands : (new told table report : List ℕ) (size : ℕ) → length new ≡ size → Stands size (given new told table report)
unfolding given over
given_stands new told table report size e = go (both (leb (length new) (length table)) (leb (length told) (length report)))
  where
    go : (b : Bool) → Stands size (pick b (salvaged (Ok (length told)) (over table 0 new) (over report 0 told)) (salvaged (Err DoesNotFit) table report))
    go true = simp length-append (omega arith)
    go false = omega arith

stands : (t table report : List ℕ) → Stands (length t) (salvage_of t table report)
unfolding over
stands t table report =
    by_test _
    (λ z. by_test _
    (λ s. by_test (leb (length t) (length table))
    (λ h. rw (sym (is_sound t table report z s (leb-true _ _ h))) (simp length-append (omega arith)))
    (λ h. rw (sym (is_short t table report z s (leb-false _ _ h))) (omega arith)))
    (λ s. by_zero _
    (λ h. rw (sym (is_none t table report z s h)) (omega arith))
    (λ h. rw (sym (is_rebuilt t table report z s h)) (given_stands _ _ table report (length t) (length_salvaged t z)))))
    (λ z. rw (sym (is_impossible t table report z)) (omega arith))

-- what is to be written lies within its buffer: the table and the lines
module _ (input table out : List ℕ) {r : Told} {x b : List ℕ} (e : printed r x b ≡ tell_of input table out) where
  pub table_within : r.table ≤ length x
  unfolding tell_of
  table_within =
      rw (ap (λ (p : Printed). p.table.end) e, ap (λ (p : Printed). p.table.buffer) e) (stands input table (replicate report_room 0))

  pub told_within : r.told ≤ length b
  unfolding tell_of
  told_within = laid_within out _ (ap (λ (p : Printed). p.told) e)
