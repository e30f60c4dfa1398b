-- `with_byte` puts the byte at the text's end where there is room (byte-added), else drops it (byte-dropped).
use native.Mathlib.Omega.{arith}
use Rattle.text.specs.Line.{text_of}
use Rattle.text.proofs.TextLaws.{byte_added, byte_dropped}
use Rattle.std.proofs.Common.{rules}
use Rattle.text.proofs.line.with_byte.Goals as goal

pub returns-then-len-ge96 : goal.returns-then-len-ge96
unfolding text_of
returns-then-len-ge96 c = let a = c.args in byte_dropped a.line.bytes a.line.len (search rules) a.b (omega arith)

pub returns : goal.returns
unfolding text_of
returns c = let a = c.args in byte_added a.line.bytes a.line.len (search rules) a.b (omega arith)
