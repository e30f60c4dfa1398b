-- After some bytes of the word the line has what fits of its text and of these bytes.
use Rattle.std.proofs.Common.{◌≡◌, ◌++◌, take}
use Rattle.text.specs.Line.{text_of, fitted}
use Rattle.text.proofs.line.with_word.Given as goal

abbrev pub invariant-loop-byte : goal.invariant-loop-byte
invariant-loop-byte l = text_of l.longer ≡ fitted (text_of l.initial.longer ++ take l.byte-index l.word)
