-- The operand of Propose and Force Time Update (document 002, Tables 3.16 and 3.17), without second fractions: the feature is off.
use Rattle.std.specs.Prelude.{List, ℕ, ◌<◌, ◌/◌, ◌%◌}
use Rattle.octets.specs.Numbers.{at, le16, le32}
use Rattle.update_judge.specs.declared.proposal.Proposal.{Proposal}

-- the opcode, and "The size of the Time Update Operand is 10 .. octets" (Section 3.7.1.1.1)
abbrev pub update_write_bytes : ℕ
update_write_bytes = 11

-- After the opcode's byte the rows of Table 3.16: Time_Update_Flags 2, Base_Time_Update 4, Time_Zone_Update 1, DST_Offset_Update 1,
-- Time_Source_Update 1, Time_Accuracy_Update 1.
unfoldable pub proposal_at : List ℕ → Proposal
proposal_at w =
    record {
      flags = le16 w 1;
      base = le32 w 3;
      zone = at w 7;
      dst = at w 8;
      source = at w 9;
      accuracy = at w 10;
    }

-- the flags of Table 3.17 that count; "Other flag bits are ignored."
abbrev pub utc_flag : ℕ → ℕ
utc_flag f = f % 2

abbrev pub local_flag : ℕ → ℕ
local_flag f = f / 2 % 2

abbrev pub epoch_flag : ℕ → ℕ
epoch_flag f = f / 64 % 2

-- Each field that a record takes over fits its width. The types in the code say so of every proposal there.
pub record Sized (p : Proposal) : Type 0 where
  pub base : p.base < 4294967296
  pub zone : p.zone < 256
  pub dst : p.dst < 256
  pub source : p.source < 256
  pub accuracy : p.accuracy < 256
