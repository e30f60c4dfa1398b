-- The machine's count of trailing zeros, and no more than n.
use mathlib.Core.Path.{◌∙◌}
use Rattle.fetch_word.proofs.RunLaws.{gap_is}
use native.Mathlib.Omega.{arith}
use Rattle.fetch_word.proofs.run.trailing_gap.Goals as goal

pub returns : goal.returns
returns c = let a = c.args in c.min.ensures ∙ gap_is a.x a.n (omega arith)
