-- The machine's count is that of 64 bits.
use Rattle.fetch_word.proofs.BitLaws.{ones_in_lem}
use native.Mathlib.Omega.{arith}
use Rattle.fetch_word.proofs.word.ones.Goals as goal

pub returns : goal.returns
returns c = ones_in_lem 64 c.args.x (omega arith)
