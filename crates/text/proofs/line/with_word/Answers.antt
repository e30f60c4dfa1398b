-- Each turn is one call more (fitted_then).
use Rattle.std.proofs.Common.{take, take-suc, add-one, rules, arith}
use Rattle.text.specs.Line.{text_of}
use Rattle.text.proofs.TextLaws.{nothing_added, fitted_then}
use Rattle.text.proofs.line.with_word.Goals as goal

pub loop-byte-init : goal.loop-byte-init
unfolding text_of
loop-byte-init c = let line = c.args.line in nothing_added line.bytes line.len (search rules)

pub loop-byte-preserved : goal.loop-byte-preserved
loop-byte-preserved c =
    let word = c.args.word.now in
    let i = c.loop-byte.byte-index in
    rw (add-one, take-suc word i 0 (omega arith))
    (fitted_then (text_of c.args.line) (take i word) _ c.loop-byte.invariant c.with_byte-longer.ensures)
