-- The proposal (change request E10): "the first run of held numbers not yet received", or that nothing is missing.
use Rattle.std.specs.Prelude.{Bool, List, Option, Some, None, Result, Ok, Err, ℕ, ◌+◌, ◌-◌, ◌%◌, eqb, drop}
use Rattle.octets.specs.Choice.{pick}
use Rattle.fetch_word.specs.Bits.{row}
use Rattle.fetch_word.specs.Run.{received_first, missing_first}
use Rattle.fetch_told.specs.Told.{span, range_size}
use Rattle.fetch_told.specs.declared.told.Span.{Span}
use Rattle.fetch_map.specs.Map.{map_b, received_b, refusal_number}
use Rattle.fetch_map.specs.declared.refusal.Refusal.{Refusal}
use Rattle.fetch_map.specs.declared.refusal.Refusal.TheVariants.{WrongWords}

-- the answer: the first and the last number of a run, or none, since nothing is missing
abbrev pub Proposal : Type 0
Proposal = Result (Option Span) Refusal

-- the number k steps after s; after 65,535 comes 0
abbrev pub number_at : ℕ → ℕ → ℕ
number_at s k = (s + k) % 65536

-- the n numbers from s on, each received or not
unfoldable pub numbers_from : List ℕ → ℕ → ℕ → List Bool
numbers_from m s n = row (λ i. received_b m (number_at s i)) n

-- "It then proposes the first run of held numbers not yet received, or says that nothing is missing": of the numbers in a row from the oldest on,
-- so many at the beginning are received; then so many are missing
unfoldable pub run_after : ℕ → ℕ → ℕ → Option Span
run_after oldest before length =
    pick (eqb length 0) None (Some (span (number_at oldest before) (number_at oldest (before + length - 1))))

unfoldable pub run_among : ℕ → List Bool → Option Span
run_among oldest l = run_after oldest (received_first l) (missing_first (drop (received_first l) l))

abbrev pub proposed_in : List ℕ → Option Span → Option Span
proposed_in m None = None
proposed_in m (Some held) = run_among held.first (numbers_from m held.first (range_size held.first held.last))

unfoldable pub propose_of : List ℕ → Option Span → Proposal
propose_of m told = pick (map_b m) (Ok (proposed_in m told)) (Err WrongWords)

-- "0 means done", or the refusal's number
unfoldable pub proposal_number : Proposal → ℕ
proposal_number (Ok run) = 0
proposal_number (Err why) = refusal_number why
