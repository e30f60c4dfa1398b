-- Values as a client reads them, run by the checker on the definitions that the calls' promises cite.
use Rattle.std.specs.Prelude.{◌≡◌, List, [], ◌∷◌, map, ℕ, replicate}
use Rattle.octets.specs.Parts.{zeros_b, over}
use Rattle.rules.specs.Fields.{base_b, zone_b, dst_b, source_b, status_b, bits_b}
use Rattle.table.specs.Table.{size_b, start_b, empty_b, fields_b, head_b, slots, ring, row_b, sound_b}
use Rattle.table_write.specs.Start.{fresh}
use Rattle.clock.specs.Answers.{number_of}
use Rattle.clock.specs.State.{new_reader}
use Rattle.clock.specs.Obeys.{clock_b, time_b}
use Rattle.clock.specs.Obeys as clock
use Rattle.clock.specs.Events.{with_base}
use Rattle.clock.specs.declared.state.Clock.{Clock}
use Rattle.rows.specs.Reply.{done_b, answered}
use Rattle.rows.specs.Rows.{running_whole_b, whole_b, first_failed, table_rows}
use Rattle.characteristics.specs.Value.{device_time_bytes, device_time_of, told_of, feature_of, parameters_of}

-- the paper's number, how many bytes, the output after
pub record Read : Type 0 where
  pub number : ℕ
  pub len : ℕ
  pub output : List ℕ

abbrev pub read : ℕ → ℕ → List ℕ → Read
read n l o = record { number = n; len = l; output = o }

-- an output of so many bytes 0xAA
abbrev pub room : ℕ → List ℕ
room n = replicate n 0xaa

-- a case: clock, table and output, and what is read
pub record Case : Type 0 where
  pub clock : Clock
  pub table : List ℕ
  pub room : ℕ
  pub read : Read

abbrev case : Clock → List ℕ → ℕ → Read → Case
case c t n r = record { clock = c; table = t; room = n; read = r }

unfoldable pub table : List Case
table =
    -- a new reader: Base_Time 631,152,000, zone -128, DST 255, status 0x0019, next number 0
    case new_reader (fresh 4) 22 (read 0 10 (0x80 ∷ 0x9d ∷ 0x9e ∷ 0x25 ∷ 0x80 ∷ 0xff ∷ 0x19 ∷ 0 ∷ 0 ∷ 0 ∷ room 12))
    -- Base_Time 3,155,759,999, next number 513
    ∷ case (with_base new_reader 3155759999) (over (fresh 1) 8 (1 ∷ 2 ∷ [])) 20 (read 0 10 (0x7f ∷ 0x13 ∷ 0x19 ∷ 0xbc ∷ 0x80 ∷ 0xff ∷ 0x19 ∷ 0 ∷ 1 ∷ 2 ∷ room 10))
    -- 1 before 2 before 3
    ∷ case (with_base new_reader 0) [] 0 (read 1 0 [])
    ∷ case (with_base new_reader 0) (fresh 4) 0 (read 2 0 [])
    ∷ case new_reader (fresh 4) 19 (read 3 0 (room 19))
    ∷ []

-- `device_time_of` of a case with all that it cites laid open, for the checker to compute
unfoldable pub got : Case → Read
unfolding device_time_of device_time_bytes answered done_b number_of first_failed table_rows whole_b running_whole_b clock_b time_b clock.running_b base_b zone_b dst_b source_b status_b bits_b sound_b head_b size_b start_b empty_b fields_b slots ring row_b zeros_b over fresh new_reader with_base
got k =
    let u = device_time_of k.clock k.table (room k.room) in
    read (number_of u.reply.answer) u.reply.len u.output

unfoldable pub expected : Case → Read
expected k = k.read

-- Feature and Parameters at an output of so many bytes
unfoldable pub feature_at : ℕ → Read
unfolding feature_of told_of number_of over
feature_at n = let u = feature_of (room n) in read (number_of u.value.answer) u.value.len u.output

unfoldable pub parameters_at : ℕ → Read
unfolding parameters_of told_of number_of over
parameters_at n = let u = parameters_of (room n) in read (number_of u.value.answer) u.value.len u.output

pub record Computed : Type 0 where
  pub cases : map got table ≡ map expected table
  pub feature : feature_at 20 ≡ read 0 4 (0xff ∷ 0xff ∷ 0x02 ∷ 0x04 ∷ room 16)
  pub feature_short : feature_at 19 ≡ read 3 0 (room 19)
  pub parameters : parameters_at 20 ≡ read 0 4 (0xff ∷ 0xff ∷ 0 ∷ 0 ∷ room 16)
  pub parameters_short : parameters_at 19 ≡ read 3 0 (room 19)
