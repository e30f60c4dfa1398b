-- The first run of missing numbers among numbers in a row, of which each is received or not (change request E10).
use Rattle.std.specs.Prelude.{Bool, true, false, List, [], ◌∷◌, ℕ, suc, ◌+◌, eqb}
use Rattle.octets.specs.Choice.{pick}
use Rattle.fetch_word.specs.declared.run.Run.{Run}

-- how many at the beginning are received, and how many are missing
unfoldable pub received_first : List Bool → ℕ
received_first [] = 0
received_first (true ∷ l) = suc (received_first l)
received_first (false ∷ l) = 0

unfoldable pub missing_first : List Bool → ℕ
missing_first [] = 0
missing_first (true ∷ l) = 0
missing_first (false ∷ l) = suc (missing_first l)

abbrev pub run : ℕ → ℕ → Bool → Run
run g r o = record { before = g; length = r; ongoing = o }

-- One number more, by which the search goes on: a received one comes before the run, or ends it; a missing one makes it longer.
abbrev pub look_open : ℕ → ℕ → Bool → Run
look_open g r true = pick (eqb r 0) (run (g + 1) 0 true) (run g r false)
look_open g r false = run g (r + 1) true

unfoldable pub look_at : Run → Bool → Run
look_at s b = pick s.ongoing (look_open s.before s.length b) s

-- all numbers of a row
unfoldable pub look_all : Run → List Bool → Run
look_all s [] = s
look_all s (b ∷ l) = look_all (look_at s b) l

-- nothing was seen so far
abbrev pub unseen : Run
unseen = run 0 0 true
