-- Runs worked out by hand, computed by the checker on the definitions that the theorems cite. Each kind of line stands once with every byte as a
-- number, and three runs wholly so; in the others lines are put together from their words.
use Rattle.std.specs.Prelude.{◌≡◌, List, [], ◌∷◌, ◌++◌, map, ℕ, length, take}
use Rattle.octets.specs.Numbers.{bytes4}
use Rattle.octets.specs.Parts.{zeros_b, over}
use Rattle.rules.specs.Fields.{base_b, zone_b, dst_b, source_b, status_b, bits_b}
use Rattle.record.specs.Fields.{sequence_of}
use Rattle.record.specs.declared.kinds.Record.{Record}
use Rattle.record.specs.declared.kinds.Record.TheVariants.{TimeUpdate, TimeFault}
use Rattle.record_write.specs.Layout.{update_bytes, fault_bytes, bytes_of, update_read, fault_read, record_of, sized_b, shape_b}
use Rattle.record_read.specs.Reading.{update_b, fault_b, record_b, well_formed_b}
use Rattle.table.specs.Table.{size_b, start_b, empty_b, fields_b, head_b, slot, bytes_in, record_in, slots, ring, held, slot_b, row_b, sound_b, steps}
use Rattle.table_write.specs.Start.{fresh}
use Rattle.table_write.specs.Append.{place_of, slot_of, header_after, append_of, log_all}
use Rattle.text.specs.Line.{digits_up_to, decimal}
use Rattle.season_figures.specs.Figures.{nothing, figures_of, sum_of, figures_in, in_widths}
use Rattle.season_text.specs.Lines.{updates_word, forward_word, back_word, faults_word, largest_word, total_word, ended_word, named, first_figures, last_figures, figures_text, table_line, refused_line, ended_line, total_line}
use Rattle.season_step.specs.Step.{table_bytes, whole_b, ends_with, taken, passed_over, step_of}
use Rattle.theorems_season.specs.Run.{entry_in, run_from, season_of}

-- a case: the input, and what is written
pub record Case : Type 0 where
  pub input : List ℕ
  pub written : List ℕ

abbrev case : List ℕ → List ℕ → Case
case i w = record { input = i; written = w }

-- a record of a time of grade 3: number, status before, faults before, time received and time before
abbrev set : ℕ → ℕ → ℕ → ℕ → ℕ → Record
set n old f b oldbase =
    TimeUpdate (record {
      sequence = n;
      status = 0x16;
      oldstatus = old;
      faults = f;
      zone = 4;
      dst = 0;
      source = 2;
      accuracy = 1;
      base = b;
      oldbase = oldbase;
    })

-- the paper's case 1; set back 30 seconds; a fault
abbrev first : Record
first = set 0 0x19 0 800000000 631152000

abbrev back : Record
back = set 1 0x16 0 800000070 800000100

abbrev fault : Record
fault = TimeFault (record { sequence = 2; status = 0x19; oldstatus = 0x16; faults = 0; base = 800000070; oldbase = 800000110 })

-- a table "preceded by its size in four bytes"
abbrev entry : List ℕ → List ℕ
entry t = bytes4 (length t) ++ t

-- an entry of a table with so many slots in which these records were logged
abbrev logged : ℕ → List Record → List ℕ
logged n rs = entry (log_all (fresh n) rs)

abbrev good : List ℕ
good = logged 4 (first ∷ back ∷ [])

-- byte 41 of a table, the first after its first record, stands among the zeros of the slot
abbrev unsound : List ℕ
unsound = entry (over (log_all (fresh 1) (first ∷ [])) 41 (1 ∷ []))

-- the five figures in their words, to the line's end
abbrev figures : ℕ → ℕ → ℕ → ℕ → ℕ → List ℕ
figures updates forward back faults largest =
    updates_word
    ++ (decimal updates
    ++ (forward_word
    ++ (decimal forward
    ++ (back_word
    ++ (decimal back
    ++ (faults_word
    ++ (decimal faults
    ++ (largest_word
    ++ (decimal largest
    ++ (10 ∷ []))))))))))

-- `ended ` and a position
abbrev ended_at : ℕ → List ℕ
ended_at position = ended_word ++ (decimal position ++ (10 ∷ []))

-- `total updates 0 forward 0 back 0 faults 0 largest 0`
abbrev total_of_none : List ℕ
total_of_none =
    116 ∷ 111 ∷ 116 ∷ 97 ∷ 108 ∷ 32 ∷ 117 ∷ 112 ∷ 100 ∷ 97 ∷ 116 ∷ 101 ∷ 115 ∷ 32 ∷ 48 ∷ 32 ∷ 102 ∷ 111 ∷ 114 ∷ 119 ∷ 97 ∷ 114 ∷ 100 ∷ 32
    ∷ 48 ∷ 32 ∷ 98 ∷ 97 ∷ 99 ∷ 107 ∷ 32 ∷ 48 ∷ 32 ∷ 102 ∷ 97 ∷ 117 ∷ 108 ∷ 116 ∷ 115 ∷ 32 ∷ 48 ∷ 32 ∷ 108 ∷ 97 ∷ 114 ∷ 103 ∷ 101 ∷ 115
    ∷ 116 ∷ 32 ∷ 48 ∷ 10
    ∷ []

-- `1 updates 2 forward 168848000 back 30 faults 0 largest 168848000`, and the same as the total
abbrev lines_of_good : List ℕ
lines_of_good =
    49 ∷ 32 ∷ 117 ∷ 112 ∷ 100 ∷ 97 ∷ 116 ∷ 101 ∷ 115 ∷ 32 ∷ 50 ∷ 32 ∷ 102 ∷ 111 ∷ 114 ∷ 119 ∷ 97 ∷ 114 ∷ 100 ∷ 32 ∷ 49 ∷ 54 ∷ 56 ∷ 56
    ∷ 52 ∷ 56 ∷ 48 ∷ 48 ∷ 48 ∷ 32 ∷ 98 ∷ 97 ∷ 99 ∷ 107 ∷ 32 ∷ 51 ∷ 48 ∷ 32 ∷ 102 ∷ 97 ∷ 117 ∷ 108 ∷ 116 ∷ 115 ∷ 32 ∷ 48 ∷ 32 ∷ 108
    ∷ 97 ∷ 114 ∷ 103 ∷ 101 ∷ 115 ∷ 116 ∷ 32 ∷ 49 ∷ 54 ∷ 56 ∷ 56 ∷ 52 ∷ 56 ∷ 48 ∷ 48 ∷ 48 ∷ 10
    ∷ 116 ∷ 111 ∷ 116 ∷ 97 ∷ 108 ∷ 32 ∷ 117 ∷ 112 ∷ 100 ∷ 97 ∷ 116 ∷ 101 ∷ 115 ∷ 32 ∷ 50 ∷ 32 ∷ 102 ∷ 111 ∷ 114 ∷ 119 ∷ 97 ∷ 114 ∷ 100 ∷ 32
    ∷ 49 ∷ 54 ∷ 56 ∷ 56 ∷ 52 ∷ 56 ∷ 48 ∷ 48 ∷ 48 ∷ 32 ∷ 98 ∷ 97 ∷ 99 ∷ 107 ∷ 32 ∷ 51 ∷ 48 ∷ 32 ∷ 102 ∷ 97 ∷ 117 ∷ 108 ∷ 116 ∷ 115
    ∷ 32 ∷ 48 ∷ 32 ∷ 108 ∷ 97 ∷ 114 ∷ 103 ∷ 101 ∷ 115 ∷ 116 ∷ 32 ∷ 49 ∷ 54 ∷ 56 ∷ 56 ∷ 52 ∷ 56 ∷ 48 ∷ 48 ∷ 48 ∷ 10
    ∷ []

-- `2 refused 1`
abbrev second_refused : List ℕ
second_refused = 50 ∷ 32 ∷ 114 ∷ 101 ∷ 102 ∷ 117 ∷ 115 ∷ 101 ∷ 100 ∷ 32 ∷ 49 ∷ 10 ∷ []

-- `ended 1`
abbrev ended_first : List ℕ
ended_first = 101 ∷ 110 ∷ 100 ∷ 101 ∷ 100 ∷ 32 ∷ 49 ∷ 10 ∷ []

unfoldable pub table : List Case
table =
    -- no byte
    case [] total_of_none
    -- one table with two updates
    ∷ case good lines_of_good
    -- one that is refused between two that are not, the second with a fault; then a size of 81
    ∷ case (good ++ (unsound ++ (logged 3 (first ∷ back ∷ fault ∷ []) ++ bytes4 81)))
    (49 ∷ figures 2 168848000 30 0 168848000
    ++ (second_refused
    ++ (51 ∷ figures 2 168848000 30 1 168848000
    ++ (ended_at 4
    ++ (total_word
    ++ figures 4 337696000 60 1 168848000)))))
    -- input that stops inside a size
    ∷ case (0x50 ∷ 0x00 ∷ 0x00 ∷ []) (ended_first ++ total_of_none)
    -- input that stops inside a table, before its last byte
    ∷ case (logged 1 (first ∷ []) ++ take 83 (logged 1 (first ∷ [])))
    (49 ∷ figures 1 168848000 0 0 168848000 ++ (ended_at 2 ++ (total_word ++ figures 1 168848000 0 0 168848000)))
    -- a table that holds nothing; an update by nothing
    ∷ case (logged 1 [] ++ logged 1 (set 0 0x16 0 800000000 800000000 ∷ []))
    (49 ∷ figures 0 0 0 0 0 ++ (50 ∷ figures 1 0 0 0 0 ++ (total_word ++ figures 1 0 0 0 0)))
    -- the widest move there is, back, among smaller ones forward
    ∷ case (logged 2 (set 0 0x16 0 631152000 3155759999 ∷ set 1 0x16 0 631152005 631152000 ∷ []) ++ good)
    (49 ∷ figures 2 5 2524607999 0 2524607999
    ++ (50 ∷ figures 2 168848000 30 0 168848000
    ++ (total_word
    ++ figures 4 168848005 2524608029 0 2524607999)))
    ∷ []

-- what is written of a case's input, with all that it cites laid open, for the checker to compute
unfoldable pub got : Case → List ℕ
unfolding season_of run_from entry_in step_of ends_with taken passed_over whole_b table_bytes nothing figures_of sum_of figures_in in_widths named first_figures last_figures figures_text table_line refused_line ended_line total_line decimal digits_up_to sound_b head_b size_b start_b empty_b fields_b slot bytes_in record_in slots ring held slot_b row_b well_formed_b shape_b sized_b record_b update_b fault_b record_of update_read fault_read sequence_of base_b zone_b dst_b source_b status_b bits_b zeros_b over fresh log_all append_of steps place_of slot_of header_after bytes_of update_bytes fault_bytes
got k = season_of k.input

unfoldable pub expected : Case → List ℕ
unfolding decimal digits_up_to
expected k = k.written

abbrev pub Computed : Type 0
Computed = map got table ≡ map expected table
