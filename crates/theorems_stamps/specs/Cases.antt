-- Computed cases of the theorem Carried stamp: its premises can hold, and what it says is then no empty word.
use Rattle.std.specs.Prelude.{◌≡◌, Bool, true, false, List, [], ◌∷◌, ◌++◌, ℕ, pos, negsuc, length, replicate, Err, Ok, Result, ℤ}
use Rattle.octets.specs.Numbers.{bytes4}
use Rattle.octets.specs.Parts.{Bytes, same_b}
use Rattle.record_write.specs.Layout.{update_values, fault_values}
use Rattle.table.specs.Table.{next}
use Rattle.carry.specs.Stamp.{later_of, carried_over, carried_from, carry_of, no_fault_b, moved_by}
use Rattle.theorems_reports.specs.World.{new_world, Call, seconds, switches, fault, time_update, record_access, notify, run_of}
use Rattle.theorems_reports.specs.Open.{calls_open}
use Rattle.theorems_stamps.specs.Stamps.{ran_in, ran_of, logged_in, logged_of, carried_after, values_of, same_records_b, all_held_b}
use Rattle.carry.specs.declared.stamp.CarryError.{CarryError}
use Rattle.carry.specs.declared.stamp.CarryError.TheVariants.{FaultAmong, NotHeld}

-- the stamp and its number, how many records came after it, the theorem's two tests, what carrying gives; the clock then, and the seconds
-- that ran
pub record Outcome : Type 0 where
  pub stamp : ℕ
  pub number : ℕ
  pub later : ℕ
  pub all_held : Bool
  pub no_fault : Bool
  pub carried : Result ℤ CarryError
  pub clock : ℕ
  pub ran : ℕ

-- a new reader's buffer with so many slots: 80, 144 or 208 bytes
abbrev pub buffer : ℕ → List ℕ
buffer e = replicate e 0xaa

abbrev pub output : List ℕ
output = replicate 244 0

unfoldable pub result_of : List ℕ → List Call → List Call → Outcome
unfolding calls_open later_of moved_by carried_over carried_from carry_of run_of ran_in ran_of logged_in logged_of no_fault_b same_b update_values fault_values values_of same_records_b all_held_b
result_of t before after =
    let v = run_of (new_world t) before in
    record {
      stamp = v.clock.time.base;
      number = next v.table;
      later = length (logged_of v after);
      all_held = all_held_b v after;
      no_fault = no_fault_b (logged_of v after);
      carried = carried_after carry_of v after;
      clock = (run_of v after).clock.time.base;
      ran = ran_of v after;
    }

-- A Force Time Update: epoch 2000, UTC and qualified-local flags, zone 4, DST 0, GPS. The write is bytes, as `Computed` shows.
abbrev pub force : ℕ → List ℕ
force b = 3 ∷ 0x43 ∷ 0 ∷ (bytes4 b ++ (4 ∷ 0 ∷ 2 ∷ 1 ∷ []))

abbrev pub Writable : Type 0
Writable = (b : ℕ) → Bytes (force b)

abbrev pub set : Writable → ℕ → Call
set h b = time_update (force b) output (h b)

abbrev pub on : Call
on = switches true true true

-- The paper's case 6: "Stamp 800,000,050, q 1; at 800,000,100 record 1 sets 800,000,070: carried 800,000,020. After 40 more seconds the
-- clock shows 800,000,110, and 90 ran." A seconds event that is refused with 7 runs no second.
abbrev Case6 : Writable → Type 0
Case6 h = result_of (buffer 144) (on ∷ set h 800000000 ∷ seconds 50 ∷ [])
    (seconds 50 ∷ set h 800000070 ∷ seconds 4000000000 ∷ seconds 40 ∷ [])
    ≡ record {
      stamp = 800000050;
      number = 1;
      later = 1;
      all_held = true;
      no_fault = true;
      carried = Ok (pos 800000020);
      clock = 800000110;
      ran = 90;
    }

-- Set forward, back and far back, with an update out of range and, while a report runs, one that is refused with 6: the carried stamp is
-- negative.
abbrev SetBack : Writable → Type 0
SetBack h = result_of (buffer 208) (on ∷ set h 800000000 ∷ [])
    (seconds 5 ∷ set h 800000100 ∷ set h 631151999 ∷ set h 800000020 ∷ record_access (1 ∷ 1 ∷ []) output ∷ notify 244 output
    ∷ set h 900000000 ∷ record_access (3 ∷ 0 ∷ []) output ∷ seconds 2000000000 ∷ set h 631152000 ∷ seconds 7 ∷ [])
    ≡ record {
      stamp = 800000000;
      number = 1;
      later = 3;
      all_held = true;
      no_fault = true;
      carried = Ok (negsuc 1368848004);
      clock = 631152007;
      ran = 2000000012;
    }

-- A fault among the later records; the one before the stamp is not among them.
abbrev Faulted : Writable → Type 0
Faulted h = result_of (buffer 208) (on ∷ fault output ∷ set h 800000000 ∷ []) (set h 800000100 ∷ seconds 3 ∷ fault output ∷ [])
    ≡ record {
      stamp = 800000000;
      number = 2;
      later = 2;
      all_held = true;
      no_fault = false;
      carried = Err FaultAmong;
      clock = 800000100;
      ran = 3;
    }

abbrev FaultBefore : Writable → Type 0
FaultBefore h = result_of (buffer 208) (on ∷ fault output ∷ []) (seconds 3 ∷ set h 800000000 ∷ [])
    ≡ record {
      stamp = 631152000;
      number = 1;
      later = 1;
      all_held = true;
      no_fault = true;
      carried = Ok (pos 799999997);
      clock = 800000000;
      ran = 3;
    }

-- Two records logged in one slot: the first is overwritten.
abbrev Overwritten : Writable → Type 0
Overwritten h = result_of (buffer 80) (on ∷ []) (set h 800000000 ∷ seconds 1 ∷ set h 800000000 ∷ [])
    ≡ record {
      stamp = 631152000;
      number = 0;
      later = 2;
      all_held = false;
      no_fault = true;
      carried = Err NotHeld;
      clock = 800000000;
      ran = 1;
    }

pub record Computed : Type 0 where
  pub writable : Writable
  pub case6 : Case6 writable
  pub set_back : SetBack writable
  pub faulted : Faulted writable
  pub fault_before : FaultBefore writable
  pub overwritten : Overwritten writable
