-- The run's request, the bytes before where nothing is missing, or the refusal.
use mathlib.Core.Path.{sym, ap, ◌∙◌}
use mir.Syntax.{w32}
use mir.Facts.{to_z-of_z}
use Rattle.fetch_propose.specs.Propose.{Proposal, propose_of, proposal_number}
use Rattle.fetch_propose.proofs.ProposeLaws.{answered}
use Rattle.fetch_bytes.specs.Request.{request_after}
use Rattle.fetch_bytes.specs.Calls.{proposed, proposal_result, propose_at}
use Rattle.fetch_bytes.proofs.calls.propose_at.Goals as goal

pub returns-in-Ok-Some : goal.returns-in-Ok-Some
unfolding propose_at proposal_result request_after
returns-in-Ok-Some c =
    let a = c.args in
    let is = sym (c.propose.ensures ∙ ap (propose_of a.map.now) c.told_at.ensures)
    ∙ c.in-Ok-Some.is ∙ ap answered c.in-Ok-Some.field-0-is in
    rw c.request_bytes.ensures (sym (ap (λ (p : Proposal). proposed (proposal_result p) (request_after p a.request.now)) is))

pub returns-in-Ok-None : goal.returns-in-Ok-None
unfolding propose_at proposal_result request_after
returns-in-Ok-None c =
    let a = c.args in
    let is = sym (c.propose.ensures ∙ ap (propose_of a.map.now) c.told_at.ensures)
    ∙ c.in-Ok-None.is ∙ ap answered c.in-Ok-None.field-0-is in
    sym (ap (λ (p : Proposal). proposed (proposal_result p) (request_after p a.request.now)) is)

pub returns-in-Err : goal.returns-in-Err
unfolding propose_at proposal_result proposal_number request_after
returns-in-Err c =
    let a = c.args in
    let is = sym (c.propose.ensures ∙ ap (propose_of a.map.now) c.told_at.ensures) ∙ c.in-Err.is in
    let z = to_z-of_z {w = w32} (record { sfits = c.refused.type_inv }) ∙ c.refused.ensures in
    rw z (sym (ap (λ (p : Proposal). proposed (proposal_result p) (request_after p a.request.now)) is))
