-- Carrying a stamp (document 01, "Carrying a stamp"), "Given a stamp (unsigned 32 bits), its next sequence number q and a table": how many
-- records came later, what one adds, the sum over them, and the call.
use Rattle.std.specs.Prelude.{Bool, true, false, List, [], ◌∷◌, ℕ, ◌+◌, ◌-◌, ◌%◌, leb, length, ℤ, pos, ◌+ℤ◌, ◌-ℤ◌, Err, Ok, Result}
use Rattle.octets.specs.Choice.{pick}
use Rattle.record.specs.declared.kinds.Record.{Record}
use Rattle.record.specs.declared.kinds.Record.TheVariants.{TimeUpdate, TimeFault}
use Rattle.table.specs.Table.{next, held, sound_b}
use Rattle.table_write.specs.Append.{newest}
use Rattle.carry.specs.declared.stamp.CarryError.{CarryError}
use Rattle.carry.specs.declared.stamp.CarryError.TheVariants.{FaultAmong, NotHeld, TableNotSound}

-- "m = (next - q) mod 65,536": how many records were logged after the stamp was noted
unfoldable pub later_of : ℕ → ℕ → ℕ
later_of next q = (next + 65536 - q) % 65536

-- what a record adds by itself
unfoldable pub moved_by : Record → ℤ
moved_by (TimeUpdate u) = pos u.base -ℤ pos u.oldbase
moved_by (TimeFault f) = pos 0

-- is none of the records a Time_Fault?
unfoldable pub no_fault_b : List Record → Bool
no_fault_b [] = true
no_fault_b (TimeUpdate u ∷ l) = no_fault_b l
no_fault_b (TimeFault f ∷ l) = false

-- "each Time_Update adds received minus old; any other type adds nothing by itself, and a Time_Fault gives 13. The result is signed."
unfoldable pub carried_over : ℤ → List Record → Result ℤ CarryError
carried_over z [] = Ok z
carried_over z (TimeUpdate u ∷ l) = carried_over (z +ℤ moved_by (TimeUpdate u)) l
carried_over z (TimeFault f ∷ l) = Err FaultAmong

-- what a table means to carrying: its held records, oldest first, and its next number; "If m exceeds H, 12. Over the m newest records .."
unfoldable pub carried_from : ℕ → ℕ → List Record → ℕ → Result ℤ CarryError
carried_from stamp q held next =
    pick (leb (later_of next q) (length held))
    (carried_over (pos stamp) (newest (later_of next q) held))
    (Err NotHeld)

unfoldable pub carry_of : ℕ → ℕ → List ℕ → Result ℤ CarryError
carry_of stamp q t = pick (sound_b t) (carried_from stamp q (held t) (next t)) (Err TableNotSound)

-- "0 means done"; rows 1, 12, 13
unfoldable pub carrying_number : Result ℤ CarryError → ℕ
carrying_number (Ok z) = 0
carrying_number (Err TableNotSound) = 1
carrying_number (Err NotHeld) = 12
carrying_number (Err FaultAmong) = 13
