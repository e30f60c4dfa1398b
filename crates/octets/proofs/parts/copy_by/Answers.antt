-- What `by` has read is what the part of `to` that was lent comes back as.
use mathlib.Core.Path.{◌∙◌}
use lib.ListN.{length}
use Rattle.octets.proofs.PartLaws.{lent, copied_back}
use Rattle.std.proofs.Common.{rules}
use Rattle.octets.proofs.parts.copy_by.Goals as goal

pub returns : goal.returns
returns c =
    let a = c.args in
    copied_back a.to.now a.from.now a.k (length a.by.now) (search rules)
    (c.copy_from_slice-2.ensures.after ∙ c.copy_from_slice.ensures.after ∙ lent a.from.now a.k (length a.by.now))
