-- Which answer comes when, and what a call of `dts_salvage` leaves of the two rooms.
use Rattle.std.specs.Prelude.{◌≡◌, List, ℕ, ◌+◌, ◌*◌, ◌≤◌, leb, pos, negsuc, length, drop}
use Rattle.octets.specs.Choice.{both, pick}
use Rattle.table.specs.Table.{size_b, sound_b, slots_in}
use Rattle.salvage_run.specs.Runs.{in_order}
use Rattle.salvage_report.specs.Report.{entry_length, report_of}
use Rattle.salvage_call.specs.Salvage.{none_b, salvage_of, salvage_number}
use Rattle.salvage_bytes.specs.Calls.{SalvagedBytes, salvaged_bytes, salvage_at}

-- 20 exactly where the size is impossible; of a sound table 3 exactly where there is no room for it; else 21 exactly where no slot counts, and 3
-- exactly where there is no room for table or report.
abbrev pub AnswersWhen : Type 0
AnswersWhen = (t table report : List ℕ)
    → let room = leb (length t) (length table) in
    salvage_number (salvage_of t table report).answer
    ≡ pick (size_b (length t))
    (pick (sound_b t) (pick room 0 3) (pick (none_b (in_order t)) 21 (pick (both room (leb (length (report_of t)) (length report))) 0 3)))
    20

-- With room for the largest table and for any report, as the program has it, 3 never comes.
abbrev pub EnoughRoom : Type 0
EnoughRoom = (t table report : List ℕ) → 65488 ≤ length table → 16448 ≤ length report
    → salvage_number (salvage_of t table report).answer ≡ pick (size_b (length t)) (pick (sound_b t) 0 (pick (none_b (in_order t)) 21 0)) 20

-- n bytes of the report were written, and the two rooms are then as in `after`
pub record Wrote (t table report : List ℕ) (n : ℕ) (after : SalvagedBytes) : Type 0 where
  pub room : length t ≤ length table
  pub report_room_lem : n ≤ length report
  -- never more than DTS_REPORT_BYTES
  pub few : n ≤ entry_length * (slots_in (length t) + 5)
  -- "Bytes of the two rooms past what is written keep their values."
  pub past : drop (length t) after.table ≡ drop (length t) table
  pub report_past : drop n after.report ≡ drop n report

pub record AtBoundary : Type 0 where
  -- "A refusal writes nothing."
  pub refused : (t table report : List ℕ) (n : ℕ) → (salvage_at t table report).result ≡ negsuc n
      → salvage_at t table report ≡ salvaged_bytes (negsuc n) table report
  pub done : (t table report : List ℕ) (n : ℕ) → (salvage_at t table report).result ≡ pos n → Wrote t table report n (salvage_at t table report)
