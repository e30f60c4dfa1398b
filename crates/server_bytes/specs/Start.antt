-- Starting a reader over the state's image: "`start_at` answers 1 by the table's size, then 2 for a state buffer that is not 32 bytes
-- long", and what stood in the state is not looked at.
use Rattle.std.specs.Prelude.{List, ℕ, eqb, ℤ, length}
use Rattle.octets.specs.Choice.{pick}
use Rattle.table.specs.Table.{size_b}
use Rattle.update.specs.Start.{Begun, new_reader_of}
use Rattle.state_bytes.specs.State.{state_bytes}
use Rattle.state_bytes.specs.Results.{refusal}
use Rattle.server_bytes.specs.Results.{result_of, state_after}

-- the result, and the bytes of state and table after it
pub record StartedBytes : Type 0 where
  pub result : ℤ
  pub state : List ℕ
  pub table : List ℕ

abbrev pub started_bytes : ℤ → List ℕ → List ℕ → StartedBytes
started_bytes z s t = record { result = z; state = s; table = t }

-- a state of another length, beside a buffer of so many bytes for the table
unfoldable pub short_of : ℕ → ℤ
short_of n = refusal (pick (size_b n) 2 1)

abbrev pub begun_at : List ℕ → Begun → StartedBytes
begun_at s b =
    started_bytes (result_of b.event.answer 0) (state_after s b.event.answer b.event.clock) b.table

unfoldable pub start_at : List ℕ → List ℕ → StartedBytes
start_at s t = pick (eqb (length s) state_bytes) (begun_at s (new_reader_of t)) (started_bytes (short_of (length t)) s t)
