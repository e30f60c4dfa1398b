-- A text laid over a buffer, as a program's lines are before it writes them.
use Rattle.std.specs.Prelude.{List, ℕ, ◌+◌, length}
use Rattle.octets.specs.Parts.{over}

-- a buffer, and where what was filled in ends
pub record Filled : Type 0 where
  pub end : ℕ
  pub buffer : List ℕ

abbrev pub filled : ℕ → List ℕ → Filled
filled end buffer = record { end = end; buffer = buffer }

-- a text laid over a buffer from a place on; the bytes before it and after it stay
unfoldable pub laid : List ℕ → ℕ → List ℕ → Filled
laid buffer from text = filled (from + length text) (over buffer from text)
