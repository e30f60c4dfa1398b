-- The map of numbers received (change request E10): counted, told, taken in. What is proposed of it stands in crate fetch_propose.
use Rattle.std.specs.Prelude.{Bool, List, [], ◌∷◌, Option, Result, Ok, Err, ℕ, ◌+◌, ◌/◌, ◌%◌, eqb, length, set, sum_by}
use Rattle.std.specs.Int.Count.{ones_in}
use Rattle.octets.specs.Choice.{both, pick}
use Rattle.octets.specs.Numbers.{at}
use Rattle.fetch_word.specs.Bits.{word_bits, bit_b, word_of, with_bit}
use Rattle.fetch_told.specs.Told.{inside_b}
use Rattle.fetch_told.specs.declared.told.Span.{Span}
use Rattle.fetch_map.specs.declared.refusal.Refusal.{Refusal}
use Rattle.fetch_map.specs.declared.refusal.Refusal.TheVariants.{WrongWords}

-- "one bit for each of the 65,536 sequence numbers, 64 to a word": 1,024 words
abbrev pub map_words : ℕ
map_words = 1024

abbrev pub map_b : List ℕ → Bool
map_b m = eqb (length m) map_words

-- Is the number s received? Its bit is bit s % 64 of word s / 64.
unfoldable pub received_b : List ℕ → ℕ → Bool
received_b m s = bit_b (at m (s / word_bits)) (s % word_bits)

-- the answer of a call that changes the map
abbrev pub Mapped : Type 0
Mapped = Result (Unit {0}) Refusal

-- the same with the map as it is then
pub record Mapping : Type 0 where
  pub answer : Mapped
  pub map : List ℕ

abbrev pub mapping : Mapped → List ℕ → Mapping
mapping a m = record { answer = a; map = m }

-- "The number received is the count of ones": of all words
abbrev pub ones_of : List ℕ → ℕ
ones_of m = sum_by (ones_in word_bits) m

unfoldable pub received_of : List ℕ → Result ℕ Refusal
received_of m = pick (map_b m) (Ok (ones_of m)) (Err WrongWords)

-- "clears every bit outside": of the words from the number s on, whose bits stand for the numbers in a row
unfoldable pub inside_from : Option Span → ℕ → List ℕ → List ℕ
inside_from told s [] = []
inside_from told s (x ∷ m) = word_of (λ b. both (bit_b x b) (inside_b told (s + b))) ∷ inside_from told (s + word_bits) m

unfoldable pub tell_of : List ℕ → Option Span → Mapping
tell_of m told = pick (map_b m) (mapping (Ok tt) (inside_from told 0 m)) (mapping (Err WrongWords) m)

-- "A bit is set exactly when its record was taken in inside the told range ..; any other changes nothing."
unfoldable pub taken_in : List ℕ → Option Span → ℕ → List ℕ
taken_in m told s = pick (inside_b told s) (set m (s / word_bits) (with_bit (at m (s / word_bits)) (s % word_bits))) m

unfoldable pub take_of : List ℕ → Option Span → ℕ → Mapping
take_of m told s = pick (map_b m) (mapping (Ok tt) (taken_in m told s)) (mapping (Err WrongWords) m)

-- "0 means done"; a map of another length is 3
abbrev pub refusal_number : Refusal → ℕ
refusal_number WrongWords = 3

unfoldable pub mapped_number : Mapped → ℕ
mapped_number (Ok done) = 0
mapped_number (Err why) = refusal_number why

unfoldable pub tally_number : Result ℕ Refusal → ℕ
tally_number (Ok n) = 0
tally_number (Err why) = refusal_number why
