-- An empty line has no text: of its bytes none counts.
use mathlib.Core.Path.{refl}
use Rattle.text.specs.Line.{text_of}
use Rattle.text.proofs.line.empty.Goals as goal

pub returns : goal.returns
unfolding text_of
returns c = refl
