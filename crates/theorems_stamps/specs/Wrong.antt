-- Wrong ways of carrying a stamp, which the theorem Carried stamp shuts out.
use Rattle.std.specs.Prelude.{◌≡◌, true, false, List, [], ◌∷◌, ℕ, ◌+◌, ◌-◌, ◌%◌, ◌<◌, leb, eqb, ℤ, pos, ◌+ℤ◌, ◌-ℤ◌, length, take, Err, Ok, Result}
use Rattle.octets.specs.Choice.{pick}
use Rattle.record.specs.declared.kinds.Record.{Record}
use Rattle.record.specs.declared.kinds.Record.TheVariants.{TimeUpdate, TimeFault}
use Rattle.table.specs.Table.{size_b, next, held, sound_b}
use Rattle.table_write.specs.Append.{newest}
use Rattle.carry.specs.Stamp.{later_of, carried_over, carry_of, carrying_number}
use Rattle.theorems_reports.specs.World.{new_world, Call, run_of}
use Rattle.theorems_stamps.specs.Stamps.{logged_of, Carrying, carried_after, CarriedBelow, CarriedStamp}
use Rattle.carry.specs.declared.stamp.CarryError.{CarryError}
use Rattle.carry.specs.declared.stamp.CarryError.TheVariants.{FaultAmong, NotHeld, TableNotSound}

-- carrying, with each part that can be wrong: how many records came later, which of the held are summed, how
unfoldable pub carry_by : (ℕ → ℕ → ℕ) → (ℕ → List Record → List Record) → (ℤ → List Record → Result ℤ CarryError) → Carrying
carry_by later these sum stamp q t =
    pick (sound_b t)
    (pick (leb (later (next t) q) (length (held t))) (sum (pos stamp) (these (later (next t) q) (held t))) (Err NotHeld))
    (Err TableNotSound)

abbrev pub summing : (ℤ → List Record → Result ℤ CarryError) → Carrying
summing = carry_by later_of newest

-- "m = (next - q) mod 65,536" without the modulus; stopping at 0
abbrev pub unreduced : Carrying
unreduced = carry_by (λ next q. next + 65536 - q) newest carried_over

abbrev pub saturated : Carrying
saturated = carry_by ◌-◌ newest carried_over

-- of the m newest records one too few, one too many; the m oldest
abbrev pub fewer : Carrying
fewer = carry_by later_of (λ m l. newest (m - 1) l) carried_over

abbrev pub more : Carrying
more = carry_by later_of (λ m l. newest (m + 1) l) carried_over

abbrev pub oldest : Carrying
oldest = carry_by later_of take carried_over

-- a fault is passed over
unfoldable pub passing : ℤ → List Record → Result ℤ CarryError
passing z [] = carried_over z []
passing z (TimeUpdate u ∷ l) = passing (z +ℤ (pos u.base -ℤ pos u.oldbase)) l
passing z (TimeFault f ∷ l) = passing z l

-- "Unsigned subtraction for a clock set back": the difference of a record's times stops at 0, or comes out 2^32 too large
unfoldable pub adding : (ℕ → ℕ → ℕ) → ℤ → List Record → Result ℤ CarryError
adding minus z [] = carried_over z []
adding minus z (TimeUpdate u ∷ l) = adding minus (z +ℤ pos (minus u.base u.oldbase)) l
adding minus z (TimeFault f ∷ l) = Err FaultAmong

abbrev pub stopping : ℕ → ℕ → ℕ
stopping a b = a - b

abbrev pub wrapping : ℕ → ℕ → ℕ
wrapping a b = (a + 4294967296 - b) % 4294967296

-- what was set back is set forward
unfoldable pub turned : ℤ → List Record → Result ℤ CarryError
turned z [] = carried_over z []
turned z (TimeUpdate u ∷ l) = turned (z +ℤ (pos u.oldbase -ℤ pos u.base)) l
turned z (TimeFault f ∷ l) = Err FaultAmong

pub record ShutOut : Type 0 where
  -- with the right parts it is `carry_of`: each wrong way is wrong in its one part
  pub right : (stamp q : ℕ) (t : List ℕ) → carry_by later_of newest carried_over stamp q t ≡ carry_of stamp q t
  -- whatever else a way does: one that returns its stamp unchanged, one that always refuses
  pub unchanged : (carry : Carrying)
      → ((stamp q : ℕ) (t : List ℕ) (z : ℤ) → carry stamp q t ≡ Ok z → z ≡ pos stamp) → CarriedStamp carry → ⊥
  pub refusing : (carry : Carrying)
      → ((stamp q : ℕ) (t : List ℕ) → eqb (carrying_number (carry stamp q t)) 0 ≡ false) → CarriedStamp carry → ⊥
  pub unreduced : CarriedStamp unreduced → ⊥
  pub saturated : CarriedStamp saturated → ⊥
  pub fewer : CarriedStamp fewer → ⊥
  pub more : CarriedStamp more → ⊥
  pub oldest : CarriedStamp oldest → ⊥
  pub passing : CarriedStamp (summing passing) → ⊥
  pub stopping : CarriedStamp (summing (adding stopping)) → ⊥
  pub wrapping : CarriedStamp (summing (adding wrapping)) → ⊥
  pub turned : CarriedStamp (summing turned) → ⊥
  -- "fewer than 65,536 records": of 65,536 the numbers no longer tell
  pub one_more : CarriedBelow 65537 carry_of → ⊥

-- Two ways that keep the theorem give one outcome in every reached world.
abbrev pub OneCarrying : Type 0
OneCarrying = (a b : Carrying) → CarriedStamp a → CarriedStamp b → (t : List ℕ) (before after : List Call) → size_b (length t) ≡ true
    → length (logged_of (run_of (new_world t) before) after) < 65536
    → carried_after a (run_of (new_world t) before) after ≡ carried_after b (run_of (new_world t) before) after
