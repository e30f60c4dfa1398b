-- The Record Access Control Point's numbers (document 002, Tables 3.24 and 3.25; document 01, "RACP and notifications").
use Rattle.std.specs.Prelude.{ℕ}

-- "Opcodes: 1 Report Stored Records, 3 Abort, 4 Number, 7 Combined Report"
abbrev pub report_opcode : ℕ
report_opcode = 1

abbrev pub abort_opcode : ℕ
abort_opcode = 3

abbrev pub number_opcode : ℕ
number_opcode = 4

abbrev pub combined_opcode : ℕ
combined_opcode = 7

-- "responses 5 number, 6 response code, 8 combined"
abbrev pub number_response : ℕ
number_response = 5

abbrev pub code_response : ℕ
code_response = 6

abbrev pub combined_response : ℕ
combined_response = 8

-- the operators of Table 3.25: Null; All records; Less than or equal to; Greater than or equal to; Within range of; First and Last record
abbrev pub null : ℕ
null = 0

abbrev pub all_records : ℕ
all_records = 1

abbrev pub at_most : ℕ
at_most = 2

abbrev pub at_least : ℕ
at_least = 3

abbrev pub within_range : ℕ
within_range = 4

abbrev pub first_record : ℕ
first_record = 5

abbrev pub last_record : ℕ
last_record = 6

-- "filter type not 1", where the operand has one: the sequence number
abbrev pub sequence_type : ℕ
sequence_type = 1
