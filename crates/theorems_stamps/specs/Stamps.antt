-- The theorem Carried stamp (document 01, "Carrying a stamp"): the seconds that ran and the records logged in a history of calls, what the
-- log holds of them, and what carrying then answers. The way of carrying is left open, so that wrong ways can be shown wrong.
use Rattle.std.specs.Prelude.{◌≡◌, Bool, true, false, List, [], ◌∷◌, ◌++◌, ℕ, ◌+◌, ◌%◌, ◌<◌, leb, eqb, ℤ, pos, ◌-ℤ◌, length, Err, Ok, Result}
use Rattle.octets.specs.Choice.{both, pick}
use Rattle.octets.specs.Parts.{same_b}
use Rattle.record_write.specs.Layout.{update_values, fault_values}
use Rattle.record.specs.declared.kinds.Record.{Record}
use Rattle.record.specs.declared.kinds.Record.TheVariants.{TimeUpdate, TimeFault}
use Rattle.table.specs.Table.{slots_in, size_b, next, held}
use Rattle.table_write.specs.Append.{newest}
use Rattle.clock.specs.Events.{seconds_of}
use Rattle.update_judge.specs.Proposal.{proposal_at}
use Rattle.update_decide.specs.Accept.{update_record}
use Rattle.update.specs.Fault.{fault_record, fault_of}
use Rattle.rows.specs.Reply.{done_b}
use Rattle.update_logged.specs.Theorems.{success_b}
use Rattle.update.specs.TimeUpdate.{update_of}
use Rattle.carry.specs.Stamp.{carrying_number, no_fault_b}
use Rattle.theorems_reports.specs.World.{World, new_world, Call, seconds, switches, disconnect, fault, time_update, record_access, notify, step_of, run_of}
use Rattle.carry.specs.declared.stamp.CarryError.{CarryError}
use Rattle.carry.specs.declared.stamp.CarryError.TheVariants.{FaultAmong, NotHeld}

-- "The seconds that ran are those of events answered 0."
unfoldable pub ran_in : World → Call → ℕ
ran_in v (seconds n) = pick (done_b (seconds_of v.clock n).answer) n 0
ran_in v (switches a b d) = 0
ran_in v disconnect = 0
ran_in v (fault o) = 0
ran_in v (time_update w o h) = 0
ran_in v (record_access w o) = 0
ran_in v (notify p o) = 0

unfoldable pub ran_of : World → List Call → ℕ
ran_of v [] = 0
ran_of v (k ∷ ks) = ran_in v k + ran_of (step_of v k) ks

-- What a call logs: a fault answered 0 its Time_Fault, a time update answered Success its Time_Update, under the log's next number; every
-- other call nothing.
unfoldable pub logged_in : World → Call → List Record
logged_in v (seconds n) = []
logged_in v (switches a b d) = []
logged_in v disconnect = []
logged_in v (fault o) =
    pick (done_b (fault_of v.clock v.table o).reply.answer) (fault_record v.clock (next v.table) ∷ []) []
logged_in v (time_update w o h) =
    pick (success_b (update_of v.clock v.table w o)) (update_record v.clock (proposal_at w) (next v.table) ∷ []) []
logged_in v (record_access w o) = []
logged_in v (notify p o) = []

unfoldable pub logged_of : World → List Call → List Record
logged_of v [] = []
logged_of v (k ∷ ks) = logged_in v k ++ logged_of (step_of v k) ks

-- how a stamp is carried, from the stamp, its next number and a table: `carry_of`, or a wrong way
abbrev pub Carrying : Type 0
Carrying = ℕ → ℕ → List ℕ → Result ℤ CarryError

-- In the world v "note the clock's time as a stamp with the log's next number", let the calls `after` come, "copy clock and log": what
-- carrying the stamp over the copied log gives.
abbrev pub carried_after : Carrying → World → List Call → Result ℤ CarryError
carried_after carry v after = carry v.clock.time.base (next v.table) (run_of v after).table

-- a record's type and fields, in the order of the paper
unfoldable pub values_of : Record → List ℕ
values_of (TimeUpdate u) = update_values u
values_of (TimeFault f) = fault_values f

-- two rows of records are the same, field by field
unfoldable pub same_records_b : List Record → List Record → Bool
same_records_b [] [] = true
same_records_b [] (y ∷ b) = false
same_records_b (x ∷ a) [] = false
same_records_b (x ∷ a) (y ∷ b) = both (same_b (values_of x) (values_of y)) (same_records_b a b)

-- Are all records that the calls logged still held? They are the newest of the held ones.
unfoldable pub all_held_b : World → List Call → Bool
all_held_b v after = let l = logged_of v after in same_records_b (newest (length l) (held (run_of v after).table)) l

-- The log holds the newest of the records that the calls logged, oldest first, as many as it has slots; its next number counts them. What
-- `all_held_b` tests is that the last calls' records are the newest of the held ones, no more and no less; to compare their counts would give
-- the same answer, and they are held exactly where they are no more than the log has slots.
pub record HoldsLogged : Type 0 where
  pub holds : (t : List ℕ) (calls : List Call) → size_b (length t) ≡ true
      → held (run_of (new_world t) calls).table ≡ newest (slots_in (length t)) (logged_of (new_world t) calls)
  pub counts : (t : List ℕ) (calls : List Call) → size_b (length t) ≡ true
      → next (run_of (new_world t) calls).table ≡ length (logged_of (new_world t) calls) % 65536
  pub same : (a b : List Record) → same_records_b a b ≡ true → a ≡ b
  pub same_back : (a : List Record) → same_records_b a a ≡ true
  pub by_counts : (t : List ℕ) (before after : List Call) → size_b (length t) ≡ true
      → all_held_b (run_of (new_world t) before) after
      ≡ leb (length (logged_of (run_of (new_world t) before) after)) (length (held (run_of (run_of (new_world t) before) after).table))
  pub by_slots : (t : List ℕ) (before after : List Call) → size_b (length t) ≡ true
      → all_held_b (run_of (new_world t) before) after ≡ leb (length (logged_of (run_of (new_world t) before) after)) (slots_in (length t))
  pub later : (t : List ℕ) (before after : List Call) → size_b (length t) ≡ true → all_held_b (run_of (new_world t) before) after ≡ true
      → newest (length (logged_of (run_of (new_world t) before) after)) (held (run_of (run_of (new_world t) before) after).table)
      ≡ logged_of (run_of (new_world t) before) after

pub record Carries (carry : Carrying) (v : World) (after : List Call) : Type 0 where
  -- "Carrying the stamp answers exactly when all later records are held and no time fault is among them"
  pub exactly : eqb (carrying_number (carried_after carry v after)) 0 ≡ both (all_held_b v after) (no_fault_b (logged_of v after))
  -- "and clock minus carried stamp is then the seconds that ran, however often the time was set"
  pub difference : (z : ℤ) → carried_after carry v after ≡ Ok z → pos (run_of v after).clock.time.base -ℤ z ≡ pos (ran_of v after)
  -- "If m exceeds H, 12", first; "a Time_Fault gives 13"
  pub not_held : all_held_b v after ≡ false → carried_after carry v after ≡ Err NotHeld
  pub fault : all_held_b v after ≡ true → no_fault_b (logged_of v after) ≡ false → carried_after carry v after ≡ Err FaultAmong

-- of fewer than n later records
abbrev pub CarriedBelow : ℕ → Carrying → Type 0
CarriedBelow n carry = (t : List ℕ) (before after : List Call) → size_b (length t) ≡ true
    → length (logged_of (run_of (new_world t) before) after) < n → Carries carry (run_of (new_world t) before) after

-- Theorem Carried stamp: "From a new reader .. let fewer than 65,536 records be logged".
abbrev pub CarriedStamp : Carrying → Type 0
CarriedStamp = CarriedBelow 65536
