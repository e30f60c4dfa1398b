-- The bits of a word: "one bit for each of the 65,536 sequence numbers, 64 to a word" (change request E10).
use Rattle.std.specs.Prelude.{Bool, List, [], ◌∷◌, ℕ, zero, suc, ◌+◌, ◌*◌, ◌/◌, ◌%◌, ◌^◌, eqb}
use Rattle.octets.specs.Choice.{either, pick}

-- "64 to a word"
abbrev pub word_bits : ℕ
word_bits = 64

-- is bit b of x set? Bit 0 is the lowest.
unfoldable pub bit_b : ℕ → ℕ → Bool
bit_b x b = eqb (x / 2 ^ b % 2) 1

-- the number whose bits, from 0 up to n - 1, are set where f says so
unfoldable pub bits_of : (ℕ → Bool) → ℕ → ℕ
bits_of f zero = 0
bits_of f (suc n) = pick (f 0) 1 0 + 2 * bits_of (λ b. f (suc b)) n

-- the word of such bits
unfoldable pub word_of : (ℕ → Bool) → ℕ
word_of f = bits_of f word_bits

-- "A bit is set": x with bit b set, whether it was or not
unfoldable pub with_bit : ℕ → ℕ → ℕ
with_bit x b = word_of (λ i. either (bit_b x i) (eqb i b))

-- what f says of 0 up to n - 1, in a row
unfoldable pub row : (ℕ → Bool) → ℕ → List Bool
row f zero = []
row f (suc n) = f 0 ∷ row (λ i. f (suc i)) n
