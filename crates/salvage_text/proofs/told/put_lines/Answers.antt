-- The lines of the entries that are left, laid over the buffer where it is filled up to, give the whole.
use mathlib.Core.Path.{◌≡◌, sym, ap, ◌∙◌}
use mathlib.Core.List.{List, ◌++◌}
use Prim.Native.Nat.{ℕ, suc, ◌/◌, ◌≤◌}
use lib.ListN.{length, length-append}
use Rattle.std.specs.Slice.Iter.{chunks_exact_rest}
use Rattle.text.specs.Laid.{laid}
use Rattle.text.specs.Line.{text_of}
use Rattle.text.proofs.LaidLaws.{laid_then, laid_nothing}
use Rattle.salvage_text.specs.Told.{report_lines}
use Rattle.salvage_text.proofs.ToldLaws.{lines_next, lines_end}
use native.Mathlib.Omega.{arith}
use Rattle.std.proofs.Common.{rules}
use Rattle.salvage_text.proofs.told.put_lines.Goals as goal

pub loop-entry-preserved : goal.loop-entry-preserved
loop-entry-preserved c =
    let before = c.loop-entry.invariant in
    let step = c.in-Some.ensures.steps in
    let entry = c.in-Some.entry.now in
    let left = chunks_exact_rest c.next.new.self in
    let b = c.loop-entry.out in
    let size : length entry ≡ 16 = step.1.1 ∙ before.2 in
    let short : length (text_of c.entry_line.result) ≤ 53 = rw c.entry_line.ensures.0 c.entry_line.ensures.1 in
    let more : length (chunks_exact_rest c.loop-entry.entry-iterator) / 16 ≡ suc (length left / 16) =
    omega (arith, ap length step.1.0, length-append entry left, size) in
    let same = step.0 ∙ before.2 in (
      omega (arith, same),
      tt,
      same,
      search rules,
      omega (arith, more, short, c.put_line-end.ensures.0, before.4),
      laid_then b (text_of c.entry_line.result) c.loop-entry.end c.put_line-end.ensures.0 c.put_line-end.ensures.1 (report_lines left) (omega (arith, more, short, before.4))
          ∙ ap (λ (l : List ℕ). laid b c.loop-entry.end (l ++ report_lines left)) c.entry_line.ensures.0
          ∙ ap (laid b c.loop-entry.end) (sym (ap report_lines step.1.0 ∙ lines_next entry left size))
          ∙ before.5,
    )

pub returns : goal.returns
returns c =
    let rest = chunks_exact_rest c.loop-entry.entry-iterator in
    let few = c.in-None.ensures.steps.1.0 in
    laid_nothing c.loop-entry.out c.loop-entry.end
    ∙ ap (laid c.loop-entry.out c.loop-entry.end) (sym (lines_end rest (omega (arith, few, c.loop-entry.invariant.2))))
    ∙ c.loop-entry.invariant.5
