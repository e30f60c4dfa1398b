-- The joining state as bytes: "exactly 48 bytes: 0 phase (0 empty, 1 a whole record, 2 inside one), 1 next counter, 2 length, 3-47 the
-- bytes; all zero is the empty state".
use Rattle.std.specs.Prelude.{List, ◌∷◌, ℕ, drop}
use Rattle.octets.specs.Numbers.{at}
use Rattle.joining.specs.declared.joining.Joining.{Joining}

abbrev pub joining_bytes : ℕ
joining_bytes = 48

unfoldable pub joining_image : Joining → List ℕ
joining_image j = j.phase ∷ j.counter ∷ j.len ∷ j.bytes

-- the state that 48 bytes stand for, within its ranges or not: values out of range are joining's to refuse
unfoldable pub joining_in : List ℕ → Joining
joining_in s = record { phase = at s 0; counter = at s 1; len = at s 2; bytes = drop 3 s }
