-- A line has 96 bytes, of which the first `len` count.
use Rattle.std.proofs.Common.{◌≡◌, length, length-take, rules, arith}
use Rattle.text.specs.Line.{text_of}
use Rattle.text.proofs.line.size.Goals as goal

pub returns : goal.returns
unfolding text_of
returns c = let long : length c.args.line.bytes ≡ 96 = search rules in simp length-take (omega (arith, c.min.ensures))
