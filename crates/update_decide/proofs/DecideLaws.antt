-- The decision: one law for each answer to an operand, and what a write that is taken is known to be.
-- Assumes nothing.
use mathlib.Core.Path.{◌≡◌, refl, ◌∙◌}
use mathlib.Core.Bool.{Bool, true, false}
use mathlib.Core.List.{List}
use Prim.Native.Nat.{ℕ}
use native.Mathlib.Omega.{arith}
use borrow.Author.Tests.{eq-eqb, ne_eqb, eqb-true}
use lib.Dec.{eqb}
use lib.ListN.{length}
use Rattle.octets.specs.Choice.{pick}
use Rattle.octets.specs.Numbers.{at}
use Rattle.clock.specs.declared.state.Clock.{Clock}
use Rattle.update_judge.specs.Proposal.{update_write_bytes, proposal_at}
use Rattle.update_judge.specs.Grounds.{grounds_of}
use Rattle.codes.specs.Dtcp.{propose_opcode, force_opcode}
use Rattle.update_decide.specs.Decide.{judged, update_operand, decide_of, TakenFrom}
use Rattle.update_judge.specs.declared.proposal.Proposal.{Proposal}
use Rattle.update_judge.proofs.GroundLaws.{grounds_none}
use Rattle.std.proofs.Common.{Err, Ok}
use Rattle.update_decide.specs.declared.decide.NotTaken.TheVariants.{Rejected, Unsupported, WrongLength}

module _ (c : Clock) (w : List ℕ) (forced : Bool) where
  pub operand_short : (length w ≡ update_write_bytes → ⊥) → update_operand c w forced ≡ Err WrongLength
  unfolding update_operand
  operand_short h = rw (ne_eqb (length w) update_write_bytes h)

  sized_operand : length w ≡ update_write_bytes → update_operand c w forced ≡ judged (proposal_at w) (grounds_of c.time (proposal_at w) forced)
  unfolding update_operand
  sized_operand h = rw (eq-eqb (length w) update_write_bytes h)

  module _ (p : Proposal) (flags : ℕ) (size : length w ≡ update_write_bytes) (read : p ≡ proposal_at w) (found : flags ≡ grounds_of c.time p forced) where
    judged_operand : update_operand c w forced ≡ judged p flags
    judged_operand = sized_operand size ∙ cc

    pub operand_taken : flags ≡ 0 → update_operand c w forced ≡ Ok p
    unfolding judged
    operand_taken h = judged_operand ∙ rw (eq-eqb flags 0 h)

    pub operand_rejected : (flags ≡ 0 → ⊥) → update_operand c w forced ≡ Err (Rejected flags)
    unfolding judged
    operand_rejected h = judged_operand ∙ rw (ne_eqb flags 0 h)

-- a decision that is `Taken` comes from a write of the right length with no ground
operand_reads : (c : Clock) (w : List ℕ) (forced : Bool) (p : Proposal) → update_operand c w forced ≡ Ok p
    → (p ≡ proposal_at w) × ((length w ≡ update_write_bytes) × (grounds_of c.time p forced ≡ 0))
unfolding update_operand judged
operand_reads c w forced p h =
    go (eqb (length w) update_write_bytes) (eqb (grounds_of c.time (proposal_at w) forced) 0) refl refl h
  where
    go : (size none : Bool) → eqb (length w) update_write_bytes ≡ size → eqb (grounds_of c.time (proposal_at w) forced) 0 ≡ none
        → pick size (pick none (Ok (proposal_at w)) (Err (Rejected (grounds_of c.time (proposal_at w) forced)))) (Err WrongLength) ≡ Ok p
        → (p ≡ proposal_at w) × ((length w ≡ update_write_bytes) × (grounds_of c.time p forced ≡ 0))
    go true true s n e =
        let q : p ≡ proposal_at w = cc in
        (q, (eqb-true (length w) update_write_bytes s, rw q (eqb-true (grounds_of c.time (proposal_at w) forced) 0 n)))
    go true false s n e = let z : ◌≡◌ {A = ℕ} 0 1 = cc in absurd (omega arith)
    go false none s n e = let z : ◌≡◌ {A = ℕ} 0 1 = cc in absurd (omega arith)

pub taken_reads : (c : Clock) (w : List ℕ) (p : Proposal) → decide_of c w ≡ Ok p → TakenFrom c w p
unfolding decide_of
taken_reads c w p h = go (eqb (at w 0) propose_opcode) (eqb (at w 0) force_opcode) refl refl h
  where
    from : (forced : Bool) → eqb (at w 0) force_opcode ≡ forced → update_operand c w forced ≡ Ok p → TakenFrom c w p
    from forced f e =
        let r = operand_reads c w forced p e in
        record {
          proposal = r.0;
          size = r.1.0;
          none = rw f r.1.1;
          in_range = grounds_none c.time p forced r.1.1;
        }

    go : (propose force : Bool) → eqb (at w 0) propose_opcode ≡ propose → eqb (at w 0) force_opcode ≡ force
        → pick propose (update_operand c w false) (pick force (update_operand c w true) (Err Unsupported)) ≡ Ok p
        → TakenFrom c w p
    go true force a f e =
        let two = eqb-true (at w 0) propose_opcode a in from false (ne_eqb (at w 0) force_opcode (λ three. omega arith)) e
    go false true a f e = from true f e
    go false false a f e = let z : ◌≡◌ {A = ℕ} 0 1 = cc in absurd (omega arith)
