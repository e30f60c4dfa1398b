-- `read_joined` is `read_joined_of`: a length over 45 first, then what `read` says.
use mathlib.Core.Path.{sym}
use Rattle.joining.specs.Reading.{read_joined_of}
use Rattle.joining.proofs.ReadingLaws.{too_long}
use Rattle.std.proofs.Common.{rules}
use Rattle.joining.proofs.reading.read_joined.Goals as goal

pub returns-then-j-gt-MOST_BYTES : goal.returns-then-j-gt-MOST_BYTES
returns-then-j-gt-MOST_BYTES c = sym (too_long _ (search rules) c.if-j-gt-MOST_BYTES.true)

pub returns : goal.returns
unfolding read_joined_of
returns c = c.read_first.ensures
