-- Computed cases of the theorems about copies, the whole way: a report of all records, heard, joined and kept, and stamps carried over the copy. The reader's
-- log has wrapped: four records were logged in three slots, so that the first one held has the number 1.
use Rattle.std.specs.Prelude.{◌≡◌, Bool, true, List, [], ◌∷◌, map, ℕ, pos, Err, Ok, Result, ℤ}
use Rattle.record.specs.Fields.{sequence_of}
use Rattle.table.specs.Table.{next, held}
use Rattle.keep.specs.Keep.{numbered, record_kept, keep_of, keeping_number}
use Rattle.carry.specs.Stamp.{later_of, moved_by, carried_over, carried_from, carry_of}
use Rattle.theorems_reports.specs.World.{world}
use Rattle.theorems_reports.specs.Hearing.{heard_in, heard_by, hearing_by, hearing_of}
use Rattle.theorems_reports.specs.Open.{calls_open, joining_open}
use Rattle.theorems_reports.specs.Reports.{report_begun}
use Rattle.theorems_reports.specs.Cases.{table, reader, output, asks}
use Rattle.theorems_copies.specs.Copies.{keep_all, copy_of}
use Rattle.carry.specs.declared.stamp.CarryError.{CarryError}
use Rattle.carry.specs.declared.stamp.CarryError.TheVariants.{FaultAmong, NotHeld}

-- what a copy came to: was every record kept; its next number; the numbers of its records; and the stamp 800,000,195 carried over it from the next
-- numbers 4, 3, 2 and 1
pub record Copied : Type 0 where
  pub fine : Bool
  pub next : ℕ
  pub numbers : List ℕ
  pub carried : List (Result ℤ CarryError)

unfoldable pub copied_in : ℕ → Copied
unfolding table reader calls_open joining_open heard_in heard_by hearing_by keep_all keep_of record_kept numbered keeping_number later_of moved_by carried_over carried_from carry_of
copied_in n =
    let w : List ℕ = 1 ∷ 1 ∷ [] in
    let c = copy_of n (hearing_of (report_begun (world reader table) w output) asks).notes in
    record {
      fine = c.fine;
      next = next c.table;
      numbers = map sequence_of (held c.table);
      carried = map (λ (q : ℕ). carry_of 800000195 q c.table) (4 ∷ 3 ∷ 2 ∷ 1 ∷ []);
    }

-- A copy of five slots has all three records: back over a time set 110 s back, over one set 150 s on, and not over the fault.
abbrev pub InFive : Type 0
InFive = copied_in 5
    ≡ record {
      fine = true;
      next = 4;
      numbers = 1 ∷ 2 ∷ 3 ∷ [];
      carried = Ok (pos 800000195) ∷ Ok (pos 800000085) ∷ Ok (pos 800000235) ∷ (Err FaultAmong) ∷ [];
    }

-- One of two slots has the newest two, and says of the stamp that would need three that they are not held.
abbrev pub InTwo : Type 0
InTwo = copied_in 2
    ≡ record {
      fine = true;
      next = 4;
      numbers = 2 ∷ 3 ∷ [];
      carried = Ok (pos 800000195) ∷ Ok (pos 800000085) ∷ Ok (pos 800000235) ∷ (Err NotHeld) ∷ [];
    }

abbrev pub Computed : Type 0
Computed = InFive × InTwo
