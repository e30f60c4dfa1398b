-- The responses of the Record Access Control Point, byte for byte (document 002, Tables 3.23 to 3.26; document 01, "RACP and notifications"):
-- the opcode, the operator Null, the operand.
use Rattle.std.specs.Prelude.{List, [], ◌∷◌, ℕ}
use Rattle.octets.specs.Numbers.{bytes2}
use Rattle.codes.specs.declared.response.Code.{Code}
use Rattle.codes.specs.declared.response.Code.TheVariants.{Success, OpcodeNotSupported, InvalidOperator, OperatorNotSupported, InvalidOperand, NoRecordsFound, AbortUnsuccessful, ProcedureNotCompleted, OperandNotSupported}
use Rattle.codes.specs.Racp.{code_response, null}

-- the response codes of Table 3.26
unfoldable pub code_of : Code → ℕ
code_of Success = 0x01
code_of OpcodeNotSupported = 0x02
code_of InvalidOperator = 0x03
code_of OperatorNotSupported = 0x04
code_of InvalidOperand = 0x05
code_of NoRecordsFound = 0x06
code_of AbortUnsuccessful = 0x07
code_of ProcedureNotCompleted = 0x08
code_of OperandNotSupported = 0x09

-- the opcode that was asked, and the code
unfoldable pub code_bytes : ℕ → Code → List ℕ
code_bytes opcode k = code_response ∷ null ∷ opcode ∷ code_of k ∷ []

-- a count of records
unfoldable pub count_bytes : ℕ → ℕ → List ℕ
count_bytes response n = response ∷ null ∷ bytes2 n
