-- Byte strings: a part, all zero, two the same, one laid over another, and that each element is a byte.
use Rattle.std.specs.Prelude.{Bool, true, false, List, [], ◌∷◌, ◌++◌, ℕ, ◌+◌, ◌<◌, length, take, drop, eqb}
use Rattle.octets.specs.Choice.{both}
use Rattle.octets.specs.Numbers.{at}

-- the n bytes of t from p on
abbrev pub part : List ℕ → ℕ → ℕ → List ℕ
part t p n = take n (drop p t)

-- every byte is zero
unfoldable pub zeros_b : List ℕ → Bool
zeros_b [] = true
zeros_b (b ∷ l) = both (eqb b 0) (zeros_b l)

-- two byte strings are the same
unfoldable pub same_b : List ℕ → List ℕ → Bool
same_b [] [] = true
same_b [] (b ∷ y) = false
same_b (a ∷ x) [] = false
same_b (a ∷ x) (b ∷ y) = both (eqb a b) (same_b x y)

-- t with xs in the place of its bytes from p on
unfoldable pub over : List ℕ → ℕ → List ℕ → List ℕ
over t p xs = take p t ++ (xs ++ drop (p + length xs) t)

-- every element is a byte
pub record Bytes (t : List ℕ) : Type 0 where
  pub byte : (i : ℕ) → at t i < 256
