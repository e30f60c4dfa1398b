-- The request that asks for a proposed run, as it is written to the Record Access Control Point: "a range runs forward from minimum to
-- maximum" (change request E1), so that a run over 65,535 is one request.
use Rattle.std.specs.Prelude.{List, ◌∷◌, ◌++◌, Some, None, Ok, Err, ℕ}
use Rattle.octets.specs.Numbers.{bytes2}
use Rattle.fetch_propose.specs.Propose.{Proposal}

-- opcode 1 Report Stored Records, operator 4 within range, filter type 1 sequence number, minimum, maximum
unfoldable pub request_bytes : ℕ → ℕ → List ℕ
request_bytes first last = 1 ∷ 4 ∷ 1 ∷ (bytes2 first ++ bytes2 last)

-- the bytes after a proposal: as they were where there is nothing to ask for
unfoldable pub request_after : Proposal → List ℕ → List ℕ
request_after (Ok (Some run)) before = request_bytes run.first run.last
request_after (Ok None) before = before
request_after (Err why) before = before
