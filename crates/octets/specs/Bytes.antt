-- Bytes by value with zeros after them.
use Rattle.std.specs.Prelude.{List, ◌++◌, ℕ, ◌-◌, length, replicate}
use Rattle.octets.specs.declared.bytes.Bytes.{Bytes}

-- the bytes with zeros after them up to n
abbrev pub padded : (n : ℕ) → List ℕ → Bytes n
padded n b = record { len = length b; bytes = b ++ replicate (n - length b) 0 }
