-- Computed cases of the theorem Kept: its premises can hold, and what it says is then no empty word.
use Rattle.std.specs.Prelude.{◌≡◌, Bool, true, false, List, [], ◌∷◌, ◌++◌, Some, None, Ok, ℕ, ◌+◌}
use Rattle.fetch_word.specs.Bits.{bit_b, bits_of, word_of, with_bit, row}
use Rattle.fetch_word.specs.Run.{received_first, missing_first}
use Rattle.fetch_told.specs.Told.{span, inside_b, range_size}
use Rattle.fetch_map.specs.Map.{received_b, inside_from, tell_of, taken_in, take_of}
use Rattle.fetch_propose.specs.Propose.{numbers_from, run_after, run_among, Proposal, propose_of}
use Rattle.theorems_fetch.specs.History.{range, Step, telling, taking, number_of, told_of, Tell, Take, tell, take, last_from, map_from, new_map, last_of, map_of, kept_from, kept_b, presumed, Fair}

-- is the number of a record received after a history, by a way of telling and of taking in?
unfoldable pub received_after : Tell → Take → List Step → ℕ → Bool
unfolding bit_b bits_of word_of with_bit inside_b received_b inside_from tell_of taken_in take_of last_from map_from new_map kept_from
received_after t u l k = received_b (map_of t u l) (number_of k)

-- Of the six records from 65,533 on: is its number received, is it kept; and what is proposed. The count follows from these by the theorem: to compute
-- it here would be to look at 65,536 bits.
pub record Answers : Type 0 where
  pub received : List Bool
  pub kept : List Bool
  pub proposed : Proposal

unfoldable pub answers_after : List Step → Answers
unfolding received_after row received_first missing_first range_size numbers_from run_after run_among propose_of
answers_after l = record {
  received = row (λ i. received_after tell take l (65533 + i)) 6;
  kept = row (λ i. kept_b l (65533 + i)) 6;
  proposed = propose_of (map_of tell take l) (told_of (last_of l));
}

abbrev pub answers : List Bool → Proposal → Answers
answers bits p = record { received = bits; kept = bits; proposed = p }

-- The first evening the reader holds the records 65,534 to 65,537, with the numbers 65534, 65535, 0 and 1. Two come in, and one that it no longer
-- holds.
abbrev pub told_first : List Step
told_first = telling (range 65534 4) ∷ []

abbrev pub first_evening : List Step
first_evening = told_first ++ taking 65534 ∷ taking 65536 ∷ taking 65533 ∷ []

-- The next evening two more are logged, and it holds four again; a third one comes in before the tool is told of it.
abbrev pub told_next : List Step
told_next = first_evening ++ telling (range 65536 4) ∷ []

abbrev pub next_evening : List Step
next_evening = told_next ++ taking 65537 ∷ taking 65538 ∷ taking 65539 ∷ taking 65540 ∷ []

-- then the log is emptied
abbrev pub emptied : List Step
emptied = next_evening ++ telling (range 65540 0) ∷ []

pub record Computed : Type 0 where
  pub fair : Fair presumed emptied
  pub none_told : answers_after [] ≡ answers (false ∷ false ∷ false ∷ false ∷ false ∷ false ∷ []) (Ok None)
  pub all_missing : answers_after told_first ≡ answers (false ∷ false ∷ false ∷ false ∷ false ∷ false ∷ []) (Ok (Some (span 65534 1)))
  pub one_missing : answers_after first_evening ≡ answers (false ∷ true ∷ false ∷ true ∷ false ∷ false ∷ []) (Ok (Some (span 65535 65535)))
  pub stayed : answers_after told_next ≡ answers (false ∷ false ∷ false ∷ true ∷ false ∷ false ∷ []) (Ok (Some (span 1 3)))
  pub nothing_missing : answers_after next_evening ≡ answers (false ∷ false ∷ false ∷ true ∷ true ∷ true ∷ []) (Ok None)
  pub none_held : answers_after emptied ≡ answers (false ∷ false ∷ false ∷ false ∷ false ∷ false ∷ []) (Ok None)
