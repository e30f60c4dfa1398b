-- The line's text laid over the page from its end on.
use mathlib.Core.Path.{◌≡◌, refl}
use Prim.Native.Nat.{◌≤◌}
use lib.ListN.{length}
use Rattle.text.specs.Line.{text_of}
use Rattle.text.proofs.TextLaws.{text_short, put_on}
use Rattle.loading_day.specs.Page.{page_text}
use native.Mathlib.Omega.{arith}
use Rattle.std.proofs.Common.{rules}
use Rattle.loading_day.proofs.page.with_line.Goals as goal
use Rattle.loading_day.proofs.page.with_line.Goals.{Start}

short : (c : Start) → length (text_of c.args.line) ≤ 96
short c = text_short c.args.line (search rules)

pub put_line-len-requires : goal.put_line-len-requires
put_line-len-requires c = let long : length c.args.page.bytes ≡ 864 = search rules in omega (arith, short (goal.at.put_line-len-requires c).Start)

pub returns : goal.returns
unfolding page_text
returns c =
    let p = c.put_line-len.ensures in
    let a = c.args in
    let long : length a.page.bytes ≡ 864 = search rules in (
      rw (p.0, p.1) (put_on a.page.bytes (text_of a.line) a.page.len (length (text_of a.line)) (omega arith) refl),
      omega (arith, p.0, short (goal.at.returns c).Start),
    )
