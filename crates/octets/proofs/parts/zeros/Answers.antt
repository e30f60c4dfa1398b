-- `zeros` is `zeros_b`: at each turn the bytes passed or to zero exactly where the test of them holds.
use Rattle.octets.proofs.Tests.{zeros_step, zeros_done}
use Rattle.std.proofs.Common.{sym, ◌∙◌, rules}
use Rattle.octets.proofs.parts.zeros.Goals as goal

pub loop-x-preserved : goal.loop-x-preserved
loop-x-preserved c = let l = c.loop-x in l.invariant ∙ zeros_step _ l.x-index l.any (search rules)

pub returns : goal.returns
returns c = let l = c.loop-x in sym (l.invariant ∙ zeros_done _ l.x-index l.any (search rules))
