-- Joining the segments of a report into records (document 01, "RACP and notifications"): the state and its ranges, the reasons for refusing
-- a segment, what a segment that is taken leaves, and the call.
use Rattle.std.specs.Prelude.{◌≡◌, Bool, List, ℕ, ◌+◌, ◌≤◌, ◌/◌, ◌%◌, leb, eqb, length, take, drop, replicate}
use Rattle.octets.specs.Choice.{both, either, pick}
use Rattle.octets.specs.Numbers.{at}
use Rattle.octets.specs.Parts.{over}
use Rattle.record.specs.Fields.{most_bytes}
use Rattle.joining.specs.declared.joining.Answer.{Answer}
use Rattle.joining.specs.declared.joining.Answer.TheVariants.{More, Whole, Refused}
use Rattle.joining.specs.declared.joining.Joining.{Joining}
use Rattle.joining.specs.declared.joining.Joined.{Joined}

-- the phases: no segment yet, a whole record stands there, inside a record
abbrev pub empty : ℕ
empty = 0

abbrev pub whole : ℕ
whole = 1

abbrev pub inside : ℕ
inside = 2

abbrev pub joining : ℕ → ℕ → ℕ → List ℕ → Joining
joining phase counter len bytes = record { phase = phase; counter = counter; len = len; bytes = bytes }

abbrev pub blank : List ℕ
blank = replicate most_bytes 0

-- "joining restarts": all zero
unfoldable pub empty_joining : Joining
empty_joining = joining empty 0 0 blank

-- "a joining state outside its own ranges": a phase, a counter of 0 to 63, at most 45 bytes; none and the counter 0 where no segment came,
-- else at least one. Bytes past the length are not looked at.
unfoldable pub ranges_b : Joining → Bool
ranges_b j =
    both (both (leb j.phase inside) (leb j.counter 63))
    (both (leb j.len most_bytes)
    (pick (eqb j.phase empty) (both (eqb j.counter 0) (eqb j.len 0)) (leb 1 j.len)))

abbrev pub inside_b : Joining → Bool
inside_b j = eqb j.phase inside

-- the header byte of a notification, and its body
abbrev pub first_bit : List ℕ → ℕ
first_bit n = at n 0 % 2

abbrev pub last_bit : List ℕ → ℕ
last_bit n = at n 0 / 2 % 2

abbrev pub counter_in : List ℕ → ℕ
counter_in n = at n 0 / 4

abbrev pub body : List ℕ → List ℕ
body n = drop 1 n

-- "an empty notification, an empty body"
unfoldable pub filled_b : List ℕ → Bool
filled_b n = leb 2 (length n)

-- "a first bit inside a record, a missing first bit at its start"
unfoldable pub placed_b : Joining → List ℕ → Bool
placed_b j n = pick (inside_b j) (eqb (first_bit n) 0) (eqb (first_bit n) 1)

-- "a counter that doesn't follow"; "after a restart, any counter is taken on a first segment"
unfoldable pub follows_b : Joining → List ℕ → Bool
follows_b j n = either (eqb j.phase empty) (eqb (counter_in n) j.counter)

-- how many bytes of the record stand there already
unfoldable pub standing : Joining → ℕ
standing j = pick (inside_b j) j.len 0

abbrev pub len_after : Joining → List ℕ → ℕ
len_after j n = standing j + length (body n)

unfoldable pub takes_b : Joining → List ℕ → Bool
takes_b j n =
    both (filled_b n)
    (both (ranges_b j)
    (both (placed_b j n)
    (both (follows_b j n)
    (leb (len_after j n) most_bytes))))

-- a first segment clears the bytes, a later one keeps those it does not write
unfoldable pub laid_under : Joining → List ℕ
laid_under j = pick (inside_b j) j.bytes blank

abbrev pub joined : Answer → Joining → Joined
joined a j = record { answer = a; joining = j }

unfoldable pub taken_of : Joining → List ℕ → Joined
taken_of j n =
    let ended = eqb (last_bit n) 1 in
    joined (pick ended Whole More)
    (joining (pick ended whole inside) ((counter_in n + 1) % 64) (len_after j n) (over (laid_under j) (standing j) (body n)))

-- "10 empties the joining state"
unfoldable pub join_of : Joining → List ℕ → Joined
join_of j n = pick (takes_b j n) (taken_of j n) (joined Refused empty_joining)

-- "0 means done", "10: joining: segment refused"
abbrev pub joining_number : Answer → ℕ
joining_number More = 0
joining_number Whole = 0
joining_number Refused = 10

-- the record that stands in the state
abbrev pub joined_in : Joining → List ℕ
joined_in j = take j.len j.bytes

-- What the tests say: a state within its ranges, and a notification that is taken.
pub record Ranges (j : Joining) : Type 0 where
  pub phase : j.phase ≤ inside
  pub counter : j.counter ≤ 63
  pub len : j.len ≤ most_bytes
  pub fresh : j.phase ≡ empty → (j.counter ≡ 0) × (j.len ≡ 0)
  pub begun : (j.phase ≡ empty → ⊥) → 1 ≤ j.len

pub record Takes (j : Joining) (n : List ℕ) : Type 0 where
  pub filled : 2 ≤ length n
  pub ranges : Ranges j
  pub later : j.phase ≡ inside → first_bit n ≡ 0
  pub first : (j.phase ≡ inside → ⊥) → first_bit n ≡ 1
  pub follows : (j.phase ≡ empty → ⊥) → counter_in n ≡ j.counter
  pub room : len_after j n ≤ most_bytes
