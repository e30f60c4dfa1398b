-- The search that goes through the words: what is left to be looked at. What functions behind the proposal answer and require.
use Rattle.std.specs.Prelude.{◌≡◌, List, ℕ, ◌+◌, ◌*◌, ◌-◌, ◌%◌, ◌≤◌}
use Rattle.octets.specs.Choice.{pick}
use Rattle.fetch_word.specs.Run.{look_all}
use Rattle.fetch_word.specs.declared.run.Run.{Run}
use Rattle.fetch_propose.specs.Propose.{numbers_from}

-- No more was seen than there is.
abbrev pub Within : ℕ → Run → Type 0
Within size s = s.before + s.length ≤ size

-- of `size` numbers, those that are still to be looked at: none once the run has ended
unfoldable pub left_of : Run → ℕ → ℕ
left_of s size = pick s.ongoing (size - (s.before + s.length)) 0

-- the search, gone on to the end over the numbers from the word w on
unfoldable pub searched_from : List ℕ → ℕ → Run → ℕ → Run
searched_from m w s size = look_all s (numbers_from m (64 * w) (left_of s size))

-- What a way round the other words comes to: at most the 63 numbers below the first are left, and these lead to the end of the search.
pub record WentRound (m : List ℕ) (word size : ℕ) (begun r : Run) : Type 0 where
  pub within : Within size r
  pub few : left_of r size ≤ 63
  pub same : searched_from m word r size ≡ searched_from m ((word + 1) % 1024) begun size
