-- What is on the page and the lines that are left give the whole sheet.
use mathlib.Core.Path.{◌≡◌}
use mathlib.Core.List.{◌++◌}
use Prim.Native.Nat.{◌+◌, ◌*◌, ◌≤◌}
use Rattle.loading_day.specs.Page.{page_text, lines_of}
use Rattle.loading_day.proofs.PageLaws.{rest}
use Rattle.loading_day.proofs.page.page_of.Given as goal

abbrev pub invariant-loop-k : goal.invariant-loop-k
invariant-loop-k l =
    (l.page.len ≤ 96 + 96 * l.k)
    × (page_text l.page ++ rest l.tags l.left.notes l.left.base l.left.table l.right.notes l.right.base l.right.table l.k
    ≡ page_text l.initial.page ++ lines_of l.tags l.left.notes l.left.base l.left.table l.right.notes l.right.base l.right.table)
