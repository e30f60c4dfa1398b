-- What is on the page and the lines that are left give the whole sheet.
use mathlib.Core.Path.{◌≡◌, refl, ap, ◌∙◌}
use mathlib.Core.List.{List, ◌++◌}
use Prim.Native.Nat.{ℕ}
use lib.ListN.{length}
use Rattle.text.specs.Line.{text_of}
use Rattle.loading_day.specs.Page.{page_text}
use Rattle.loading_day.proofs.PageLaws.{line_more, lines_end, page_whole}
use native.Mathlib.Omega.{arith}
use Rattle.std.proofs.Common.{rules}
use Rattle.loading_day.proofs.page.page_of.Goals as goal
use Rattle.loading_day.proofs.page.page_of.Goals.{Start}

-- eight tags, and two notes for each
record Eight (c : Start) : Type 0 where
  tags : length c.args.tags ≡ 8
  left : length c.args.left.notes ≡ 8
  right : length c.args.right.notes ≡ 8

eight : (c : Start) → Eight c
eight c = record { tags = search rules; left = search rules; right = search rules }

pub loop-k-init : goal.loop-k-init
loop-k-init c = (
  omega (arith, c.with_line-page.ensures.1, c.blank.ensures.1),
  refl,
)

pub loop-k-preserved : goal.loop-k-preserved
loop-k-preserved c =
    let a = c.args in
    let listed = eight (goal.at.loop-k-preserved c).Start in (
      omega (arith, c.with_line-page-in-loop-k.ensures.1),
      line_more a.tags a.left.notes a.left.base a.left.table a.right.notes a.right.base a.right.table c.loop-k.k _ _ _ (page_text c.loop-k.page)
          c.with_line-page-in-loop-k.ensures.0
          c.line_of.ensures
          (omega arith)
          (omega arith)
          (omega arith)
          ∙ c.loop-k.invariant.1,
    )

pub returns : goal.returns
returns c =
    let a = c.args in
    let listed = eight (goal.at.returns c).Start in (
      page_whole (page_text c.loop-k.page) _ c.loop-k.invariant.1
          (lines_end a.tags a.left.notes a.left.base a.left.table a.right.notes a.right.base a.right.table c.loop-k.k (omega arith))
          (c.with_line-page.ensures.0
          ∙ ap (λ (x : List ℕ). x ++ text_of c.title_line.result) c.blank.ensures.0
          ∙ c.title_line.ensures),
      omega arith,
    )
