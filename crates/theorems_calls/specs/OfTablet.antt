-- What is promised of joining and reading beyond each call's own equation (document 01, "RACP and notifications"): what a refusal leaves,
-- what is refused, that the state keeps its ranges, and how the record builds up.
use Rattle.std.specs.Prelude.{◌≡◌, true, false, List, [], ◌++◌, ℕ, ◌<◌, length}
use Rattle.octets.specs.Choice.{pick}
use Rattle.record.specs.Fields.{most_bytes}
use Rattle.joining.specs.Joining.{empty, inside, empty_joining, ranges_b, inside_b, first_bit, counter_in, body, len_after, takes_b, joined, join_of, joining_number, joined_in, Takes}
use Rattle.joining.specs.declared.joining.Answer.TheVariants.{Refused}
use Rattle.joining.specs.declared.joining.Joining.{Joining}

-- "10 empties the joining state": the number is 10 exactly where the notification is not taken, and nothing is left then.
pub record RefusedEmpties : Type 0 where
  pub number : (j : Joining) (n : List ℕ) → joining_number (join_of j n).answer ≡ pick (takes_b j n) 0 10
  pub empties : (j : Joining) (n : List ℕ) → (join_of j n).answer ≡ Refused → (join_of j n).joining ≡ empty_joining

abbrev pub RefusedAt : Joining → List ℕ → Type 0
RefusedAt j n = join_of j n ≡ joined Refused empty_joining

-- "Joining refuses an empty notification, an empty body, a counter that doesn't follow, a first bit inside a record, a missing first
-- bit at its start, over 45 bytes, or a joining state outside its own ranges", and nothing else.
pub record Refuses : Type 0 where
  pub no_bytes : (j : Joining) (n : List ℕ) → length n ≡ 0 → RefusedAt j n
  pub no_body : (j : Joining) (n : List ℕ) → length n ≡ 1 → RefusedAt j n
  pub counter : (j : Joining) (n : List ℕ) → (j.phase ≡ empty → ⊥) → (counter_in n ≡ j.counter → ⊥) → RefusedAt j n
  pub first_inside : (j : Joining) (n : List ℕ) → j.phase ≡ inside → first_bit n ≡ 1 → RefusedAt j n
  pub first_missing : (j : Joining) (n : List ℕ) → (j.phase ≡ inside → ⊥) → first_bit n ≡ 0 → RefusedAt j n
  pub too_long : (j : Joining) (n : List ℕ) → most_bytes < len_after j n → RefusedAt j n
  pub ranges : (j : Joining) (n : List ℕ) → ranges_b j ≡ false → RefusedAt j n
  pub nothing_else : (j : Joining) (n : List ℕ) → Takes j n → joining_number (join_of j n).answer ≡ 0

-- Whatever came, the state after is within its ranges.
pub record KeepsRanges : Type 0 where
  pub restart : ranges_b empty_joining ≡ true
  pub join : (j : Joining) (n : List ℕ) → ranges_b (join_of j n).joining ≡ true
  pub bytes : (j : Joining) (n : List ℕ) → length j.bytes ≡ most_bytes → length (join_of j n).joining.bytes ≡ most_bytes

-- "The record builds up in that state": the bytes so far inside a record, none at its start, and the body after them.
abbrev pub BuildsUp : Type 0
BuildsUp =
    (j : Joining) (n : List ℕ) → length j.bytes ≡ most_bytes → Takes j n
    → joined_in (join_of j n).joining ≡ pick (inside_b j) (joined_in j) [] ++ body n
