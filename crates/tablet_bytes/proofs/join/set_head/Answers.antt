-- The three numbers, one by one.
use Rattle.tablet_bytes.proofs.JoinLaws.{head_set}
use native.Mathlib.Omega.{arith}
use Rattle.tablet_bytes.proofs.join.set_head.Goals as goal

pub returns : goal.returns
returns c = head_set c.args.s.now _ _ _ (omega arith)
