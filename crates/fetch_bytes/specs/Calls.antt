-- The calls on the map over what C lends (change request E10): "at least 0 is done, below 0 is minus the paper's refusal number".
use Rattle.std.specs.Prelude.{List, Some, None, Result, Ok, Err, ℕ, ℤ, pos}
use Rattle.state_bytes.specs.Results.{refusal}
use Rattle.fetch_map.specs.Map.{Mapped, tell_of, take_of, received_of, refusal_number, mapped_number, tally_number}
use Rattle.fetch_map.specs.declared.refusal.Refusal.{Refusal}
use Rattle.fetch_propose.specs.Propose.{Proposal, propose_of, proposal_number}
use Rattle.fetch_bytes.specs.Told.{told_at, range_of, told_after}
use Rattle.fetch_bytes.specs.Request.{request_after}

abbrev pub refused : Refusal → ℤ
refused why = refusal (refusal_number why)

-- ---- telling

unfoldable pub mapped_result : Mapped → ℤ
mapped_result a = refusal (mapped_number a)

-- the result, the map and the told range after it
pub record ToldResult : Type 0 where
  pub result : ℤ
  pub map : List ℕ
  pub told : List ℕ

abbrev pub told : ℤ → List ℕ → List ℕ → ToldResult
told z m t = record { result = z; map = m; told = t }

unfoldable pub tell_at : List ℕ → List ℕ → ℕ → ℕ → ℕ → ToldResult
tell_at m t any oldest newest =
    let range = range_of any oldest newest in
    let x = tell_of m range in
    told (mapped_result x.answer) x.map (told_after x.answer range t)

-- ---- the proposal

-- the bytes of the request, 7, or 0 where nothing is missing
unfoldable pub proposal_result : Proposal → ℤ
proposal_result (Ok (Some run)) = pos 7
proposal_result (Ok None) = pos 0
proposal_result (Err why) = refusal (proposal_number (Err why))

-- the result, and the request's bytes after it
pub record Proposed : Type 0 where
  pub result : ℤ
  pub request : List ℕ

abbrev pub proposed : ℤ → List ℕ → Proposed
proposed z r = record { result = z; request = r }

unfoldable pub propose_at : List ℕ → List ℕ → List ℕ → Proposed
propose_at m t request = let p = propose_of m (told_at t) in proposed (proposal_result p) (request_after p request)

-- ---- taking in

-- the result, and the map after it
pub record MapResult : Type 0 where
  pub result : ℤ
  pub map : List ℕ

abbrev pub mapped : ℤ → List ℕ → MapResult
mapped z m = record { result = z; map = m }

unfoldable pub take_at : List ℕ → List ℕ → ℕ → MapResult
take_at m t number = let x = take_of m (told_at t) number in mapped (mapped_result x.answer) x.map

-- ---- how many are received

unfoldable pub tally_result : Result ℕ Refusal → ℤ
tally_result (Ok n) = pos n
tally_result (Err why) = refusal (tally_number (Err why))

unfoldable pub received_at : List ℕ → ℤ
received_at m = tally_result (received_of m)
