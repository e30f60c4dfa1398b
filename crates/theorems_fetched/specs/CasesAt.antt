-- The same over bytes, the whole way: the reader of the copies' cases, which was started in three slots and logged the records 0 to 3, so that it holds
-- 1 to 3. The tablet has received 0 and 1; it is told, asks for the bytes that are proposed, hears, reads and takes in, and is told that nothing is missing.
use Rattle.std.specs.Prelude.{◌≡◌, Bool, true, List, [], ◌∷◌, ℕ, ℤ, pos, replicate}
use Rattle.octets.specs.Numbers.{at}
use Rattle.octets.specs.Parts.{Bytes}
use Rattle.table.specs.Table.{first}
use Rattle.fetch_word.specs.Bits.{bit_b, bits_of, word_of, with_bit, row}
use Rattle.fetch_word.specs.Run.{received_first, missing_first}
use Rattle.fetch_told.specs.Told.{inside_b, range_size}
use Rattle.fetch_map.specs.Map.{received_b, inside_from, tell_of, taken_in, take_of, mapped_number}
use Rattle.fetch_propose.specs.Propose.{numbers_from, run_after, run_among, propose_of}
use Rattle.fetch_bytes.specs.Told.{told_at, range_of, told_numbers, told_after}
use Rattle.fetch_bytes.specs.Request.{request_bytes, request_after}
use Rattle.fetch_bytes.specs.Calls.{mapped_result, tell_at, proposal_result, Proposed, proposed, propose_at, take_at}
use Rattle.theorems_stamps.specs.Cases.{output, Writable}
use Rattle.theorems_reports.specs.Hearing.{calm_b, all_calm_b}
use Rattle.theorems_bytes.specs.World.{ByteCall, seconds, racp_write, notify, called_at, step_at, call_of}
use Rattle.theorems_bytes.specs.Reports.{all_quiet_at, hearing_at}
use Rattle.theorems_bytes.specs.Cases.{heard_of}
use Rattle.theorems_copies.specs.CasesAt.{reader}
use Rattle.theorems_fetched.specs.Fetched.{newest_number}
use Rattle.theorems_fetched.specs.FetchedAt.{take_all_at, fetched_at}

-- the numbers 2 and 3
abbrev asked : List ℕ
asked = 1 ∷ 4 ∷ 1 ∷ 2 ∷ 0 ∷ 3 ∷ 0 ∷ []

abbrev pub Asks : Type 0
Asks = (n : ℕ) → Bytes asked

abbrev hearing : List ByteCall
hearing = notify 25 output ∷ seconds 1 ∷ notify 20 output ∷ notify 244 output ∷ notify 20 output ∷ []

-- what came of it: the told range's three numbers; the map's first word then; what is proposed; the result of asking for that; that no call ended the
-- report; that it closed; the first word afterwards; and what is proposed then, where zeros stood
pub record Came : Type 0 where
  pub told : List ℕ
  pub inside : ℕ
  pub proposed : Proposed
  pub accepted : ℤ
  pub quiet : Bool
  pub closed : Bool
  pub received : ℕ
  pub left : Proposed

unfoldable pub came_of : Writable → Asks → Came
unfolding heard_of call_of calm_b all_calm_b all_quiet_at bit_b bits_of word_of with_bit row received_first missing_first inside_b range_size received_b inside_from tell_of taken_in take_of mapped_number numbers_from run_after run_among propose_of told_at range_of told_numbers told_after request_bytes request_after mapped_result tell_at proposal_result propose_at take_at newest_number take_all_at
came_of h a =
    let b = reader h in
    let x = tell_at (3 ∷ replicate 1023 0) (0 ∷ 0 ∷ 0 ∷ []) 1 (first b.table) (newest_number b.table) in
    let c = step_at b (racp_write asked output (a 0)) in
    let m = fetched_at (replicate 11 0) x.told x.map (hearing_at c hearing).notes in
    record {
      told = x.told;
      inside = at x.map 0;
      proposed = propose_at x.map x.told (replicate 7 0);
      accepted = (called_at b (racp_write asked output (a 0))).result;
      quiet = all_quiet_at c hearing;
      closed = (hearing_at c hearing).closed;
      received = at m 0;
      left = propose_at m x.told (replicate 7 0);
    }

pub record ComputedAt : Type 0 where
  pub writable : Writable
  pub asks : Asks
  pub came : came_of writable asks
      ≡ record {
        told = 1 ∷ 1 ∷ 3 ∷ [];
        inside = 2;
        proposed = proposed (pos 7) asked;
        accepted = pos 0;
        quiet = true;
        closed = true;
        received = 14;
        left = proposed (pos 0) (replicate 7 0);
      }
