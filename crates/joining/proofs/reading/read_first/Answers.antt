-- What `read` says of the part that is lent on.
use mathlib.Core.Path.{ap, ◌∙◌}
use Prim.Native.Nat.{ℕ}
use native.Mathlib.Nat.{sub-zero}
use lib.ListN.{take}
use Rattle.record_read.specs.Reading.{read_of}
use Rattle.joining.proofs.reading.read_first.Goals as goal

pub returns : goal.returns
returns c = let a = c.args in c.read.ensures ∙ ap (λ (k : ℕ). read_of (take k a.bytes.now)) (sub-zero a.len)
