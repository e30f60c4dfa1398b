-- The clock events that take no table, over the clock that the state's bytes stand for.
use Rattle.std.specs.Prelude.{Bool, List, ℕ, ltb}
use Rattle.clock.specs.Events.{seconds_of, switches_of, disconnect_of, Event}
use Rattle.state_bytes.specs.State.{clock_of}
use Rattle.server_bytes.specs.Results.{Ran, settled_of}

-- what an event does to the state; no bytes are written besides
abbrev pub eventful : List ℕ → Event → Ran
eventful s e = settled_of s e.answer e.clock 0

unfoldable pub seconds_at : List ℕ → ℕ → Ran
seconds_at s n = eventful s (seconds_of (clock_of s) n)

-- "any value but 0 is on"
abbrev pub on_b : ℕ → Bool
on_b n = ltb 0 n

unfoldable pub switches_at : List ℕ → ℕ → ℕ → ℕ → Ran
switches_at s dtcp racp log = eventful s (switches_of (clock_of s) (on_b dtcp) (on_b racp) (on_b log))

unfoldable pub disconnect_at : List ℕ → Ran
disconnect_at s = eventful s (disconnect_of (clock_of s))
