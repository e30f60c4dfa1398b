-- Computed cases of each ending, on the table of three records that Finished report is computed on (20, 24 and 24 bytes; numbers 1, 2, 3).
use Rattle.std.specs.Prelude.{◌≡◌, true, false, List, [], ◌∷◌, ◌++◌, map, ℕ, length, take, drop}
use Rattle.filter.specs.declared.filter.Filter.TheVariants.{All}
use Rattle.record_write.specs.Layout.{bytes_of}
use Rattle.racp_access.specs.Report.{first_bytes}
use Rattle.theorems_reports.specs.World.{World, world, Call, seconds, disconnect, fault, record_access}
use Rattle.theorems_reports.specs.Closing.{answer_of}
use Rattle.theorems_reports.specs.Reach.{Good}
use Rattle.theorems_reports.specs.Cases.{table, records, reader, output, ask, asks}
use Rattle.theorems_reports.specs.Cases as cases
use Rattle.theorems_handed.specs.Server.{AnyCall, start, call, Server, right, after_of, answer_to, heard_to, Accepts, begins}
use Rattle.theorems_reports.specs.Endings.{Ending, ongoing, closed, aborted, faulted, disconnected, restarted, ending_by}
use Rattle.theorems_handed.specs.Handed.{course_by, Handed, handed, assembled_from, assembled}
use Rattle.theorems_handed.specs.Counted.{numbers_in, times, asked_from, asked_b}
use Rattle.theorems_handed.specs.History.{notes_by, begins_b, courses_by, notes_in}

-- How a report ended, what it handed over, the numbers of the whole records; how many segments were heard in all, and of how many reports.
pub record Result : Type 0 where
  pub ending : Ending
  pub handed : Handed
  pub numbers : List ℕ
  pub heard : ℕ
  pub begun : ℕ

abbrev pub all : List ℕ
all = 1 ∷ 1 ∷ []

abbrev pub report_again : Call
report_again = record_access all output

abbrev pub abort : Call
abort = record_access (3 ∷ 0 ∷ []) output

unfoldable pub result_by : Server → World → List AnyCall → Result
unfolding cases.result_by table records answer_of after_of answer_to heard_to ending_by course_by assembled_from times asked_from notes_by begins_b courses_by notes_in
result_by s v ks =
    let u = begins s v all output in
    let c = course_by s u ks in
    record {
      ending = c.ending;
      handed = assembled c.notes;
      numbers = numbers_in c;
      heard = length (notes_by s u ks);
      begun = length (courses_by s v (call report_again ∷ ks));
    }

abbrev pub result_of : List Call → Result
result_of ks = result_by right (world reader table) (map call ks)

-- ended with e: the first n of the three and m bytes of the next; x segments heard in all, y reports begun
abbrev pub result : Ending → ℕ → ℕ → ℕ → ℕ → Result
result e n m x y =
    record {
      ending = e;
      handed = handed (take n (map bytes_of records)) (take m (first_bytes (drop n records))) true;
      numbers = take n (1 ∷ 2 ∷ 3 ∷ []);
      heard = x;
      begun = y;
    }

pub record Computed : Type 0 where
  pub good : Good (world reader table)
  pub accepts : Accepts right (world reader table) all output All
  -- left to finish, with payload sizes that change at every asking: all; asked on, and nothing more comes
  pub finished : result_of (asks ++ (ask 20 ∷ [])) ≡ result closed 3 0 5 1
  -- an Abort without operator is answered 0x03, one without room for its response is refused: they end nothing
  pub broken_abort : result_of (ask 21 ∷ record_access (3 ∷ []) output ∷ record_access (3 ∷ 0 ∷ []) [] ∷ seconds 5 ∷ ask 20 ∷ []) ≡ result ongoing 1 19 2 1
  -- ended inside the second record, and asked on
  pub abort_inside : result_of (ask 21 ∷ ask 20 ∷ abort ∷ ask 20 ∷ []) ≡ result aborted 1 19 2 1
  pub fault_inside : result_of (ask 21 ∷ ask 20 ∷ fault output ∷ ask 20 ∷ []) ≡ result faulted 1 19 2 1
  pub disconnect_inside : result_of (ask 21 ∷ ask 20 ∷ disconnect ∷ ask 20 ∷ []) ≡ result disconnected 1 19 2 1
  pub start_inside : result_by right (world reader table) (call (ask 21) ∷ call (ask 20) ∷ start ∷ call (ask 20) ∷ []) ≡ result restarted 1 19 2 1
  -- a new report after it, whose segments are its own
  pub abort_anew : result_of (ask 21 ∷ ask 20 ∷ abort ∷ report_again ∷ ask 20 ∷ []) ≡ result aborted 1 19 3 2
  -- before the first notification
  pub abort_before : result_of (abort ∷ ask 20 ∷ []) ≡ result aborted 0 0 0 1
  pub fault_before : result_of (fault output ∷ ask 20 ∷ []) ≡ result faulted 0 0 0 1
  pub disconnect_before : result_of (disconnect ∷ ask 20 ∷ []) ≡ result disconnected 0 0 0 1
  -- after the last segment, before the closing response
  pub abort_last : result_of (take 5 asks ++ (abort ∷ ask 20 ∷ [])) ≡ result aborted 3 0 5 1
  pub fault_last : result_of (take 5 asks ++ (fault output ∷ ask 20 ∷ [])) ≡ result faulted 3 0 5 1
  pub disconnect_last : result_of (take 5 asks ++ (disconnect ∷ ask 20 ∷ [])) ≡ result disconnected 3 0 5 1
  -- a number that is held is asked for, one that is not held is not
  pub asked : asked_b All table 3 ≡ true
  pub unasked : asked_b All table 0 ≡ false
