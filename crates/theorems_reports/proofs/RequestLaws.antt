-- What a write to the Record Access Control Point asks for goes with its opcode.
-- Assumes nothing.
use mathlib.Core.Path.{◌≡◌, refl}
use mathlib.Core.Bool.{true}
use mathlib.Core.List.{List}
use Prim.Native.Nat.{ℕ}
use lib.Dec.{eqb}
use borrow.Author.Tests.{eq-eqb}
use Rattle.filter.specs.declared.filter.Filter.{Filter}
use Rattle.clock.specs.Obeys.{opcode_b}
use Rattle.racp_request.specs.Request.{opcode_in, request_of}
use Rattle.codes.specs.declared.response.Code.{Code}
use Rattle.racp_request.proofs.RequestLaws.{report_reads, number_reads, abort_reads}
use Rattle.racp_request.specs.declared.request.Request.{Request}
use Rattle.racp_request.specs.declared.request.Request.TheVariants.{Abort, Number, Report}
use Rattle.std.proofs.Common.{Err, Ok, Result}

-- what a write asks for goes with its opcode
pub data Right (opcode : ℕ) : Result Request Code → Type 0 where
  reports : {f : Filter} → opcode_b opcode ≡ true → Right opcode (Ok (Report f))
  numbers : {f : Filter} → eqb opcode 4 ≡ true → Right opcode (Ok (Number f))
  ends : eqb opcode 3 ≡ true → Right opcode (Ok Abort)
  refuses : {k : Code} → Right opcode (Err k)

-- a report that is asked for has the opcode 1 or 7
pub request_report : (w : List ℕ) (f : Filter) → request_of w ≡ Ok (Report f) → opcode_b (opcode_in w) ≡ true
request_report w f q = (report_reads w f q).0

pub request_right : (w : List ℕ) → Right (opcode_in w) (request_of w)
request_right w = go (request_of w) refl
  where
    go : (r : Result Request Code) → request_of w ≡ r → Right (opcode_in w) r
    go (Ok (Report f)) q = reports (request_report w f q)
    go (Ok (Number f)) q = numbers (eq-eqb _ _ (number_reads w f q).0)
    go (Ok Abort) q = ends (eq-eqb _ _ (abort_reads w q))
    go (Err k) q = refuses
