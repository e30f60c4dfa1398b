-- How many numbers of a word lie below a number: what a function behind the calls answers.
use Rattle.std.specs.Prelude.{ℕ, ◌-◌, min}

-- of the 64 numbers from `first` on, those below `end`
abbrev pub clamped : ℕ → ℕ → ℕ
clamped end first = min (end - first) 64
