-- A line's text, what of a text fits a line, and a number in decimal.
use Rattle.std.specs.Prelude.{List, [], ◌∷◌, ◌++◌, ℕ, zero, suc, ◌+◌, ◌/◌, ◌%◌, ltb, take}
use Rattle.octets.specs.Choice.{pick}
use Rattle.octets.specs.declared.bytes.Bytes.{Bytes}

-- the bytes of a line that count: its first `len`
unfoldable pub text_of : Bytes 96 → List ℕ
text_of line = take line.len line.bytes

-- as much of a text as a line holds: its first 96 bytes
unfoldable pub fitted : List ℕ → List ℕ
fitted text = take 96 text

-- the decimal digits of n as ASCII (48 is `0`), most significant first, no zeros in front; of more than k the last k.
-- The digits of n / 10 come first, unless n has one digit only, and then the digit n % 10. (The `let` keeps the checker
-- from working out digits that `pick` passes over.)
unfoldable pub digits_up_to : ℕ → ℕ → List ℕ
digits_up_to zero n = []
digits_up_to (suc k) n =
    let leading = digits_up_to k (n / 10) in
    pick (ltb n 10) [] leading ++ ((48 + n % 10) ∷ [])

-- n in decimal: no number of 64 bits has more than 20 digits
unfoldable pub decimal : ℕ → List ℕ
decimal n = digits_up_to 20 n

-- the last two digits of n, a zero in front among them
unfoldable pub two_digits : ℕ → List ℕ
two_digits n = (48 + n / 10 % 10) ∷ (48 + n % 10) ∷ []
