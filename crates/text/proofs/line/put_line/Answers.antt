-- The line's first bytes, as many as its text has, are its text.
use mathlib.Core.Path.{◌≡◌, sym, ap, ◌∙◌}
use Prim.Native.Nat.{ℕ, ◌+◌, ◌≤◌}
use lib.ListN.{length, take}
use lib.Seq.{length-take-le}
use Rattle.octets.specs.Parts.{over}
use Rattle.text.specs.Line.{text_of}
use Rattle.octets.specs.declared.bytes.Bytes.{Bytes}
use Rattle.text.proofs.TextLaws.{text_part, text_fits}
use Rattle.text.proofs.line.put_line.Goals as goal
use Rattle.text.proofs.line.put_line.Goals.{After-size-n}

abbrev line : After-size-n → Bytes 96
line c = c.args.line

fits : (c : After-size-n) → c.size-n.result ≤ length (line c).bytes
fits c = text_fits (line c) c.size-n.result c.size-n.ensures

part : (c : After-size-n) → take c.size-n.result (line c).bytes ≡ text_of (line c)
part c = text_part (line c) c.size-n.result c.size-n.ensures

pub slice_bounds-bytes-end : goal.slice_bounds-bytes-end
slice_bounds-bytes-end c = fits (goal.at.slice_bounds-bytes-end c).After-size-n

pub slice_bounds-put-end : goal.slice_bounds-put-end
slice_bounds-put-end c = sym (length-take-le c.size-n.result (line (goal.at.slice_bounds-put-end c).After-size-n).bytes (fits (goal.at.slice_bounds-put-end c).After-size-n))

pub returns : goal.returns
returns c =
    let a = c.args in (
      ap (λ (n : ℕ). a.at + n) c.size-n.ensures,
      c.put.ensures ∙ ap (over a.out.now a.at) (part (goal.at.returns c).After-size-n),
    )
