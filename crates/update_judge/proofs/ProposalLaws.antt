-- The fields of a proposal that is read from bytes fit their widths.
-- Assumes nothing.
use mathlib.Core.List.{List}
use Prim.Native.Nat.{ℕ}
use Rattle.octets.specs.Parts.{Bytes}
use Rattle.octets.proofs.NumberLaws.{le32_small}
use Rattle.update_judge.specs.Proposal.{proposal_at, Sized}

pub proposal_sized : (w : List ℕ) → Bytes w → Sized (proposal_at w)
unfolding proposal_at
proposal_sized w h =
    record {
      base = le32_small w 3 h;
      zone = h.byte 7;
      dst = h.byte 8;
      source = h.byte 9;
      accuracy = h.byte 10;
    }
