-- The machine's count of trailing zeros, and no more than n.
use mathlib.Core.Path.{◌∙◌}
use Rattle.fetch_word.proofs.RunLaws.{ones_are}
use native.Mathlib.Omega.{arith}
use Rattle.fetch_word.proofs.run.trailing_ones.Goals as goal

pub returns : goal.returns
returns c = let a = c.args in c.min.ensures ∙ ones_are a.x a.n (omega arith) (omega arith)
