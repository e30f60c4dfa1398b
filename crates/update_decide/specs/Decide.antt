-- What is to happen with a write to the Device Time Control Point (document 01, "Time updates"): by its opcode, then its length, then its
-- grounds.
use Rattle.std.specs.Prelude.{◌≡◌, Bool, true, false, List, ℕ, eqb, length, Err, Ok, Result}
use Rattle.octets.specs.Choice.{pick}
use Rattle.octets.specs.Numbers.{at}
use Rattle.codes.specs.Dtcp.{propose_opcode, force_opcode}
use Rattle.clock.specs.declared.state.Clock.{Clock}
use Rattle.update_judge.specs.Proposal.{update_write_bytes, proposal_at}
use Rattle.update_judge.specs.Grounds.{grounds_of, InRange}
use Rattle.update_judge.specs.declared.proposal.Proposal.{Proposal}
use Rattle.update_decide.specs.declared.decide.NotTaken.{NotTaken}
use Rattle.update_decide.specs.declared.decide.NotTaken.TheVariants.{Rejected, Unsupported, WrongLength}

-- "all flags that apply go into Procedure Rejected"; a proposal without a ground is taken
unfoldable pub judged : Proposal → ℕ → Result Proposal NotTaken
judged p flags = pick (eqb flags 0) (Ok p) (Err (Rejected flags))

-- "A wrong operand length, second fractions included, gives Invalid Operand 0x03. Otherwise every ground is tested"
unfoldable pub update_operand : Clock → List ℕ → Bool → Result Proposal NotTaken
update_operand c w forced =
    pick (eqb (length w) update_write_bytes) (judged (proposal_at w) (grounds_of c.time (proposal_at w) forced)) (Err WrongLength)

-- "An unknown opcode gives 0x02, as does a procedure left out": whatever follows it
unfoldable pub decide_of : Clock → List ℕ → Result Proposal NotTaken
decide_of c w =
    pick (eqb (at w 0) propose_opcode)
    (update_operand c w false)
    (pick (eqb (at w 0) force_opcode) (update_operand c w true) (Err Unsupported))

-- What a write that is taken is known to be.
pub record TakenFrom (c : Clock) (w : List ℕ) (p : Proposal) : Type 0 where
  pub proposal : p ≡ proposal_at w
  pub size : length w ≡ update_write_bytes
  pub none : grounds_of c.time p (eqb (at w 0) force_opcode) ≡ 0
  pub in_range : InRange p
