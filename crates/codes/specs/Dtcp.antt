-- The Device Time Control Point's numbers (document 002, Tables 3.15 and 3.21).
use Rattle.std.specs.Prelude.{ℕ}

-- Propose and Force Time Update, and the DTCP Response (Table 3.15)
abbrev pub propose_opcode : ℕ
propose_opcode = 2

abbrev pub force_opcode : ℕ
force_opcode = 3

abbrev pub response_opcode : ℕ
response_opcode = 0x09

-- the Response_Values of Table 3.21 that are given
abbrev pub success : ℕ
success = 0x01

abbrev pub opcode_not_supported : ℕ
opcode_not_supported = 0x02

abbrev pub invalid_operand : ℕ
invalid_operand = 0x03

abbrev pub procedure_rejected : ℕ
procedure_rejected = 0x05
