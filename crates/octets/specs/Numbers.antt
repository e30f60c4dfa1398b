-- Numbers in bytes: "Numbers are little endian" (document 01, "Log table").
use Rattle.std.specs.Prelude.{List, [], ◌∷◌, ℕ, ◌+◌, ◌*◌, ◌/◌, ◌%◌, get_or}

-- byte i of t; past the end 0
abbrev pub at : List ℕ → ℕ → ℕ
at t i = get_or t i 0

abbrev pub le16 : List ℕ → ℕ → ℕ
le16 t i = at t i + 256 * at t (i + 1)

abbrev pub le32 : List ℕ → ℕ → ℕ
le32 t i = le16 t i + 65536 * le16 t (i + 2)

abbrev pub bytes2 : ℕ → List ℕ
bytes2 n = n % 256 ∷ n / 256 % 256 ∷ []

abbrev pub bytes4 : ℕ → List ℕ
bytes4 n = n % 256 ∷ n / 256 % 256 ∷ n / 65536 % 256 ∷ n / 16777216 % 256 ∷ []
