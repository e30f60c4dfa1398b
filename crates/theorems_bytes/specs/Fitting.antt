-- Each field of a clock that was reached fits its width: "the types in the code say so of every clock there", the calls by value keep it.
use Rattle.std.specs.Prelude.{◌≡◌, true, List, [], ◌∷◌, ℕ, ◌<◌, length}
use Rattle.octets.specs.Parts.{Bytes}
use Rattle.table.specs.Table.{size_b}
use Rattle.clock.specs.State.{new_reader}
use Rattle.clock.specs.declared.state.Clock.{Clock}
use Rattle.state_bytes.specs.State.{image_of}
use Rattle.state_images.specs.Theorems.{RunningFits, Fits}
use Rattle.theorems_reports.specs.World.{World, new_world, Call, seconds, switches, disconnect, fault, time_update, record_access, notify, step_of, run_of}
use Rattle.theorems_reports.specs.Reach.{Good}

-- A write to the Record Access Control Point is bytes, as a write to the DTCP is by its call. Nothing is asked of seconds and payload
-- sizes: those past their width are refused.
abbrev pub WritesBytes : Call → Type 0
WritesBytes (seconds n) = Unit {0}
WritesBytes (switches a b d) = Unit {0}
WritesBytes disconnect = Unit {0}
WritesBytes (fault o) = Unit {0}
WritesBytes (time_update w o h) = Unit {0}
WritesBytes (record_access w o) = Bytes w
WritesBytes (notify p o) = Unit {0}

abbrev pub AllWriteBytes : List Call → Type 0
AllWriteBytes [] = Unit {0}
AllWriteBytes (k ∷ ks) = WritesBytes k × AllWriteBytes ks

-- The two fields of one byte that the rules do not bound: "-48 to 56, or -128" is 208 and more where it is below 0, and accuracy is any byte.
pub record ByteFields (c : Clock) : Type 0 where
  pub zone : c.time.zone < 256
  pub accuracy : c.time.accuracy < 256

pub record FitsKept : Type 0 where
  pub new_reader_lem : Fits new_reader
  -- of a good world only the running report is left to say
  pub of_good : (v : World) → Good v → RunningFits v.clock.running → Fits v.clock
  pub call : (v : World) (k : Call) → WritesBytes k → Good v → Fits v.clock → Fits (step_of v k).clock
  pub reached : (t : List ℕ) (ks : List Call) → AllWriteBytes ks → size_b (length t) ≡ true → Fits (run_of (new_world t) ks).clock
  -- the same of zone and accuracy; so every element of a state's image is a byte
  pub new_bytes : ByteFields new_reader
  pub call_bytes : (v : World) (k : Call) → Good v → ByteFields v.clock → ByteFields (step_of v k).clock
  pub image_bytes : (v : World) → Good v → ByteFields v.clock → Bytes (image_of v.clock)
