-- `put` is `over`: the part that was lent came back as the bytes.
use lib.ListN.{length-take, length-drop}
use Rattle.octets.proofs.PartLaws.{part_back}
use native.Mathlib.Omega.{arith}
use Rattle.octets.proofs.parts.put.Goals as goal

pub copy-requires : goal.copy-requires
copy-requires c = simp (length-take, length-drop) (omega arith)

pub returns : goal.returns
returns c = let a = c.args in part_back a.t.now a.bytes.now a.at c.copy.ensures
