-- Record access: the theorems hold of the right server, and a computed write breaks one for each wrong one.
-- Assumes nothing.
use mathlib.Core.Path.{◌≡◌, refl, ap}
use mathlib.Core.List.{List, [], ◌∷◌}
use Prim.Native.Nat.{ℕ}
use Rattle.filter.specs.declared.filter.Filter.TheVariants.{All, AtLeast}
use Rattle.clock.specs.declared.state.Clock.{Clock}
use Rattle.rows.specs.Reply.{Outcome}
use Rattle.racp_request.specs.Request.{opcode_in, request_of}
use Rattle.racp_access.specs.Access.{accessed_of, access_of}
use Rattle.theorems_calls.specs.OfTransfer.{AcceptedWhenMatching, NumberCounts}
use Rattle.theorems_calls.proofs.AnswerLaws.{accepted_when_matching, number_counts}
use Rattle.theorems_paper.specs.Reader.{output, response, switched_on, access, first}
use Rattle.theorems_paper.proofs.ShutLaws.{differ}
use Rattle.theorems_paper.specs.Wrong.{accessed_by, accessing_by, count_matching, first_match, numbers_next, numbers_none, accepts_any, AccessShutOut}
use Rattle.codes.specs.declared.response.Code.{Code}
use Rattle.racp_request.specs.declared.request.Request.{Request}
use Rattle.racp_request.specs.declared.request.Request.TheVariants.{Abort, Number, Report}
use Rattle.std.proofs.Common.{Err, Ok, Result}

module _ (c : Clock) (t w o : List ℕ) where
  same : (opcode : ℕ) (q : Result Request Code) → accessed_by count_matching first_match c t opcode q ≡ accessed_of c t opcode q
  unfolding accessed_by accessed_of
  same opcode (Ok (Report f)) = refl
  same opcode (Ok (Number f)) = refl
  same opcode (Ok Abort) = refl
  same opcode (Err k) = refl

  parts : accessing_by count_matching first_match c t w o ≡ access_of c t w o
  unfolding accessing_by access_of
  parts = rw (same (opcode_in w) (request_of w))

numbers_next_lem : NumberCounts numbers_next → ⊥
unfolding access first accessing_by accessed_by
numbers_next_lem a =
    let e = a first.clock first.table (0x04 ∷ 0x03 ∷ 0x01 ∷ 0x01 ∷ 0x00 ∷ []) output (AtLeast 1) refl refl in
    differ 2 (ap (λ (u : Outcome). response u) e) refl

numbers_none_lem : NumberCounts numbers_none → ⊥
unfolding access first accessing_by accessed_by
numbers_none_lem a =
    let e = a first.clock first.table (0x04 ∷ 0x01 ∷ []) output All refl refl in
    differ 2 (ap (λ (u : Outcome). response u) e) refl

accepts_any_lem : AcceptedWhenMatching accepts_any → ⊥
unfolding access switched_on accessing_by accessed_by
accepts_any_lem a =
    let e = a.report switched_on.clock switched_on.table (0x01 ∷ 0x01 ∷ []) output All refl refl in
    differ 0 (ap (λ (u : Outcome). response u) e) refl

pub access_shut_out : AccessShutOut
access_shut_out =
    record {
      right = (accepted_when_matching, number_counts);
      parts = parts;
      numbers_next_lem = numbers_next_lem;
      numbers_none_lem = numbers_none_lem;
      accepts_any_lem = accepts_any_lem;
    }
