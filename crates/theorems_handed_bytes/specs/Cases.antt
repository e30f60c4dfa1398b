-- One report over bytes to each ending, run by the checker on the definitions that the entry points' promises cite: two records of 24 bytes,
-- each cut in two.
use Rattle.std.specs.Prelude.{◌≡◌, true, List, [], ◌∷◌, ◌++◌, ℕ, ℤ, pos, length, take, drop}
use Rattle.octets.specs.Parts.{Bytes}
use Rattle.theorems_stamps.specs.Cases.{buffer, output, Writable}
use Rattle.theorems_reports.specs.Endings.{Ending, closed, aborted, faulted, disconnected, restarted, ending_by}
use Rattle.theorems_handed.specs.Handed.{Handed, handed, assembled_from, assembled}
use Rattle.theorems_handed.specs.Counted.{numbers_in}
use Rattle.theorems_bytes.specs.World.{ByteWorld, ByteCall, seconds, disconnect, fault, racp_write, notify, called_at, step_at, EntryCall, start, call, entered_at, enter_at, run_at, started_at, call_of}
use Rattle.theorems_bytes.specs.Cases.{heard_of, set, on, update, update_from}
use Rattle.theorems_handed_bytes.specs.Endings.{entry_by, heard_entry}
use Rattle.theorems_handed_bytes.specs.Courses.{course_at, notes_at, begins_at, courses_at}

-- The result of the write; how the report ended, what it handed over and the numbers of the whole records; then all segments that were heard,
-- and of how many reports.
pub record Result : Type 0 where
  pub accepted : ℤ
  pub ending : Ending
  pub handed : Handed
  pub numbers : List ℕ
  pub heard : List (List ℕ)
  pub begun : ℕ

-- a report that is asked for at b, and the calls after it
unfoldable pub result_at : ByteWorld → ByteCall → List EntryCall → Result
unfolding heard_of entered_at enter_at call_of ending_by assembled_from entry_by heard_entry course_at notes_at begins_at courses_at
result_at b ask ks =
    let u = step_at b ask in
    let c = course_at u ks in
    record {
      accepted = (called_at b ask).result;
      ending = c.ending;
      handed = assembled c.notes;
      numbers = numbers_in c;
      heard = notes_at u ks;
      begun = length (courses_at b (call ask ∷ ks));
    }

-- the writes of the cases are bytes
pub record Writes : Type 0 where
  pub writable : Writable
  pub asks : Bytes (1 ∷ 1 ∷ [])
  pub aborts : Bytes (3 ∷ 0 ∷ [])

abbrev all : Writes → ByteCall
all h = racp_write (1 ∷ 1 ∷ []) output h.asks

abbrev abort : Writes → EntryCall
abort h = call (racp_write (3 ∷ 0 ∷ []) output h.aborts)

-- a reader that was set twice: two Time_Updates
abbrev reader : Writes → ByteWorld
reader h =
    run_at (started_at (buffer 32) (buffer 144))
    (on ∷ set h.writable 800000000 ∷ seconds 100 ∷ set h.writable 800000070 ∷ [])

-- their bytes: record 0 and record 1
abbrev first : List ℕ
first = update_from 0x19 0 800000000 631152000

abbrev second : List ℕ
second = update 1 800000070 800000100

-- an asking with the payload size p; the five that the report needs, the last of them for the closing response
abbrev ask : ℕ → EntryCall
ask p = call (notify p output)

abbrev asks : List EntryCall
asks = ask 20 ∷ ask 244 ∷ ask 20 ∷ ask 20 ∷ ask 20 ∷ []

-- the segments that they are answered with: of each record 19 bytes, then 5
abbrev segments : List (List ℕ)
segments =
    (1 ∷ take 19 first)
    ∷ (6 ∷ drop 19 first)
    ∷ (9 ∷ take 19 second)
    ∷ (14 ∷ drop 19 second)
    ∷ []

abbrev result_of : Writes → List EntryCall → Result
result_of h ks = result_at (reader h) (all h) ks

-- accepted; ended with e after n segments: w records whole, of the next one the bytes u; then the segments l were heard; y reports were begun
abbrev result : Ending → ℕ → ℕ → List ℕ → List (List ℕ) → ℕ → Result
result e n w u l y =
    record {
      accepted = pos 0;
      ending = e;
      handed = handed (take w (first ∷ second ∷ [])) u true;
      numbers = take w (0 ∷ 1 ∷ []);
      heard = take n segments ++ l;
      begun = y;
    }

-- what of record 1 came with the third segment
abbrev begin : List ℕ
begin = take 19 second

pub record Computed : Type 0 where
  pub writes : Writes
  -- left to finish, with payload sizes that change: both, none unfinished; asked on, and nothing more comes
  pub finished : result_of writes (asks ++ (ask 20 ∷ [])) ≡ result closed 4 2 [] [] 1
  -- ended after the third notification: record 0, and of record 1 the first 19 bytes; asked on, and nothing more comes
  pub abort_inside : result_of writes (take 3 asks ++ (abort writes ∷ ask 20 ∷ [])) ≡ result aborted 3 1 begin [] 1
  pub fault_inside : result_of writes (take 3 asks ++ (call (fault output) ∷ ask 20 ∷ [])) ≡ result faulted 3 1 begin [] 1
  pub disconnect_inside : result_of writes (take 3 asks ++ (call disconnect ∷ ask 20 ∷ [])) ≡ result disconnected 3 1 begin [] 1
  pub start_inside : result_of writes (take 3 asks ++ (start ∷ ask 20 ∷ [])) ≡ result restarted 3 1 begin [] 1
  -- before the first notification: none
  pub abort_before : result_of writes (abort writes ∷ ask 20 ∷ []) ≡ result aborted 0 0 [] [] 1
  -- after the last segment, before the closing response: both, none unfinished
  pub abort_last : result_of writes (take 4 asks ++ (abort writes ∷ ask 20 ∷ [])) ≡ result aborted 4 2 [] [] 1
  -- a new report after the Abort: its first segment is its own, and the first report's course stays what it was
  pub abort_anew : result_of writes (take 3 asks ++ (abort writes ∷ call (all writes) ∷ ask 20 ∷ [])) ≡ result aborted 3 1 begin (take 1 segments) 2
