-- The theorem of the carried stamp (document 01, "Carrying a stamp") as the C side sees it: of buffers, results and outputs alone.
use Rattle.std.specs.Prelude.{◌≡◌, Bool, true, false, List, [], ◌∷◌, ◌++◌, map, ℕ, ◌+◌, ◌%◌, ◌<◌, ◌≤◌, leb, eqb, ℤ, pos, negsuc, ◌-ℤ◌, length}
use Rattle.octets.specs.Choice.{both, pick}
use Rattle.octets.specs.Numbers.{at, le16, le32}
use Rattle.octets.specs.Parts.{same_b}
use Rattle.record_write.specs.Layout.{bytes_of}
use Rattle.table.specs.Table.{slots_in, size_b, count, next, bytes_in, ring}
use Rattle.table_write.specs.Append.{newest}
use Rattle.update_judge.specs.Proposal.{proposal_at}
use Rattle.update_decide.specs.Accept.{update_record}
use Rattle.update.specs.Fault.{fault_record}
use Rattle.codes.specs.Dtcp.{success}
use Rattle.state_bytes.specs.State.{state_bytes, clock_of}
use Rattle.state_bytes.specs.Results.{refusal}
use Rattle.server_bytes.specs.Calls.{Called}
use Rattle.server_bytes.specs.ValuesRead.{device_time_at}
use Rattle.tablet_bytes.specs.Calls.{CarriedTo, carrying, carry_at}
use Rattle.theorems_bytes.specs.World.{ByteWorld, ByteCall, seconds, switches, disconnect, fault, dtcp_write, racp_write, notify, device_time, called_at, step_at, run_at, EntryCall, history_at, started_at, since_start}

-- "at least 0 is done", and exactly 0
abbrev pub done_at : ℤ → Bool
done_at (pos n) = true
done_at (negsuc n) = false

abbrev pub zero_at : ℤ → Bool
zero_at (pos n) = eqb n 0
zero_at (negsuc n) = false

-- "The seconds that ran are those of events answered 0."
unfoldable pub ran_in : ByteWorld → ByteCall → ℕ
ran_in b (seconds n) = pick (zero_at (called_at b (seconds n)).result) n 0
ran_in b (switches x y z) = 0
ran_in b disconnect = 0
ran_in b (fault o) = 0
ran_in b (dtcp_write w o h) = 0
ran_in b (racp_write w o h) = 0
ran_in b (notify p o) = 0
ran_in b (device_time o) = 0

unfoldable pub ran_at : ByteWorld → List ByteCall → ℕ
ran_at b [] = 0
ran_at b (k ∷ ks) = ran_in b k + ran_at (step_at b k) ks

-- a write to the DTCP that is done and whose response, its third byte, says Success
abbrev pub success_at : Called → Bool
success_at r = both (done_at r.result) (eqb (at r.output 2) success)

-- The bytes of the record that a call logs: a fault that is done its Time_Fault, a write to the DTCP answered Success its Time_Update, of
-- the clock that stands in the state before it, under the number that stands in the table; every other call logs nothing.
unfoldable pub logged_in : ByteWorld → ByteCall → List (List ℕ)
logged_in b (seconds n) = []
logged_in b (switches x y z) = []
logged_in b disconnect = []
logged_in b (fault o) =
    pick (done_at (called_at b (fault o)).result) (bytes_of (fault_record (clock_of b.state) (next b.table)) ∷ []) []
logged_in b (dtcp_write w o h) =
    pick (success_at (called_at b (dtcp_write w o h))) (bytes_of (update_record (clock_of b.state) (proposal_at w) (next b.table)) ∷ []) []
logged_in b (racp_write w o h) = []
logged_in b (notify p o) = []
logged_in b (device_time o) = []

unfoldable pub logged_at : ByteWorld → List ByteCall → List (List ℕ)
logged_at b [] = []
logged_at b (k ∷ ks) = logged_in b k ++ logged_at (step_at b k) ks

-- Event_Log_Type, a record's byte 2, is 1, Time_Update, in each
unfoldable pub faultless_b : List (List ℕ) → Bool
faultless_b [] = true
faultless_b (r ∷ l) = both (eqb (at r 2) 1) (faultless_b l)

-- the bytes of the held records, oldest first, as they stand in the table
unfoldable pub held_in : List ℕ → List (List ℕ)
held_in t = map bytes_in (ring t)

-- two rows of byte strings are the same
unfoldable pub same_rows_b : List (List ℕ) → List (List ℕ) → Bool
same_rows_b [] [] = true
same_rows_b [] (y ∷ b) = false
same_rows_b (x ∷ a) [] = false
same_rows_b (x ∷ a) (y ∷ b) = both (same_b x y) (same_rows_b a b)

-- Device Time as `dts_device_time` writes it (document 002, Table 3.6): Base_Time is its first four bytes, Next_Sequence_Number the
-- last two of ten
abbrev pub time_read : ByteWorld → List ℕ → List ℕ
time_read b o = (device_time_at b.state b.table o).output

abbrev pub base_read : ByteWorld → List ℕ → ℕ
base_read b o = le32 (time_read b o) 0

abbrev pub number_read : ByteWorld → List ℕ → ℕ
number_read b o = le16 (time_read b o) 8

-- At b "note the clock's time as a stamp with the log's next number", as read; let the calls `after` come, "copy clock and log": what
-- `dts_carry` then gives.
abbrev pub carried_at : ByteWorld → List ByteCall → List ℕ → ℤ → CarriedTo
carried_at b after o y = carry_at (base_read b o) (number_read b o) (run_at b after).table y

-- Are all records that the calls logged still held? They are the newest of the held ones, byte for byte.
unfoldable pub all_held_at : ByteWorld → List ByteCall → Bool
all_held_at b after = let l = logged_at b after in same_rows_b (newest (length l) (held_in (run_at b after).table)) l

-- Theorem Holds what was logged, over bytes: the table holds the newest of the records logged since the last start, oldest first, as many as
-- it has slots, byte for byte; its next number counts them. What `all_held_at` tests is that the last calls' records are the newest of the held
-- ones; to compare their count with H, the table's bytes 2 and 3, would give the same answer, and they are held exactly where they are no
-- more than the table has slots.
pub record HoldsLoggedAt : Type 0 where
  pub holds : (s t : List ℕ) (ks : List EntryCall) → length s ≡ state_bytes → size_b (length t) ≡ true
      → held_in (history_at (started_at s t) ks).table ≡ newest (slots_in (length t)) (logged_at (started_at s t) (since_start [] ks))
  pub counts : (s t : List ℕ) (ks : List EntryCall) → length s ≡ state_bytes → size_b (length t) ≡ true
      → next (history_at (started_at s t) ks).table ≡ length (logged_at (started_at s t) (since_start [] ks)) % 65536
  pub same : (a b : List (List ℕ)) → same_rows_b a b ≡ true → a ≡ b
  pub same_back : (a : List (List ℕ)) → same_rows_b a a ≡ true
  pub by_counts : (s t : List ℕ) (before : List EntryCall) (after : List ByteCall) → length s ≡ state_bytes → size_b (length t) ≡ true
      → all_held_at (history_at (started_at s t) before) after
      ≡ leb (length (logged_at (history_at (started_at s t) before) after)) (count (run_at (history_at (started_at s t) before) after).table)
  pub by_slots : (s t : List ℕ) (before : List EntryCall) (after : List ByteCall) → length s ≡ state_bytes → size_b (length t) ≡ true
      → all_held_at (history_at (started_at s t) before) after ≡ leb (length (logged_at (history_at (started_at s t) before) after)) (slots_in (length t))
  pub later : (b : ByteWorld) (after : List ByteCall) → all_held_at b after ≡ true
      → newest (length (logged_at b after)) (held_in (run_at b after).table) ≡ logged_at b after

pub record CarriesAt (b : ByteWorld) (after : List ByteCall) (o p : List ℕ) (y : ℤ) : Type 0 where
  pub noted : (device_time_at b.state b.table o).result ≡ pos 10
  pub copied : (device_time_at (run_at b after).state (run_at b after).table p).result ≡ pos 10
  -- "Carrying the stamp answers exactly when all later records are held and no time fault is among them"
  pub exactly : zero_at (carried_at b after o y).result ≡ both (all_held_at b after) (faultless_b (logged_at b after))
  -- "and clock minus carried stamp is then the seconds that ran, however often the time was set"
  pub difference : (carried_at b after o y).result ≡ pos 0
      → pos (base_read (run_at b after) p) -ℤ (carried_at b after o y).carried ≡ pos (ran_at b after)
  -- "If m exceeds H, 12", first; "a Time_Fault gives 13"
  pub not_held : all_held_at b after ≡ false → carried_at b after o y ≡ carrying (refusal 12) y
  pub fault : all_held_at b after ≡ true → faultless_b (logged_at b after) ≡ false → carried_at b after o y ≡ carrying (refusal 13) y

-- Theorem Carried stamp, over bytes: "From a new reader .. let fewer than 65,536 records be logged". `dts_start` may be among the calls
-- before the stamp; one after it makes another reader, of which the stamp is none.
abbrev pub CarriedStampAt : Type 0
CarriedStampAt = (s t : List ℕ) (before : List EntryCall) (after : List ByteCall) (o p : List ℕ) (y : ℤ) → length s ≡ state_bytes
    → size_b (length t) ≡ true → 20 ≤ length o → 20 ≤ length p → length (logged_at (history_at (started_at s t) before) after) < 65536
    → CarriesAt (history_at (started_at s t) before) after o p y
