-- The DTCP response to a decision, byte for byte (document 002, Tables 3.15, 3.20 and 3.21).
use Rattle.std.specs.Prelude.{List, [], ◌∷◌, ℕ, Err, Ok, Result}
use Rattle.octets.specs.Bytes.{padded}
use Rattle.octets.specs.Numbers.{bytes2}
use Rattle.octets.specs.declared.bytes.Bytes.{Bytes}
use Rattle.codes.specs.Dtcp.{response_opcode, success, opcode_not_supported, invalid_operand, procedure_rejected}
use Rattle.update_decide.specs.declared.decide.NotTaken.{NotTaken}
use Rattle.update_decide.specs.declared.decide.NotTaken.TheVariants.{Rejected, Unsupported, WrongLength}
use Rattle.update_judge.specs.declared.proposal.Proposal.{Proposal}

-- Table 3.20: the opcode of the write, the Response_Value, and the flags "if the Response_Value is Procedure Rejected, otherwise
-- Excluded".
unfoldable pub response_bytes : ℕ → Result Proposal NotTaken → List ℕ
response_bytes opcode (Err Unsupported) = response_opcode ∷ opcode ∷ opcode_not_supported ∷ []
response_bytes opcode (Err WrongLength) = response_opcode ∷ opcode ∷ invalid_operand ∷ []
response_bytes opcode (Err (Rejected flags)) = response_opcode ∷ opcode ∷ procedure_rejected ∷ bytes2 flags
response_bytes opcode (Ok p) = response_opcode ∷ opcode ∷ success ∷ []

-- as `response_of` hands them over: with zeros after them up to 5
unfoldable pub response_of : ℕ → Result Proposal NotTaken → Bytes 5
response_of opcode d = padded 5 (response_bytes opcode d)
