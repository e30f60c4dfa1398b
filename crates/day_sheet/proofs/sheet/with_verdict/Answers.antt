-- Each verdict by its own text, and a refusal's number as the ramp gives it.
use Rattle.std.proofs.Common.{rules}
use Prim.Native.Nat.{◌≤◌}
use lib.ListN.{length}
use Rattle.text.specs.Line.{text_of}
use Rattle.text.proofs.TextLaws.{fitted_then}
use Rattle.day_sheet.specs.Sheet.{left_word, right_word, verdict_text}
use Rattle.day_sheet.proofs.SheetLaws.{as_put, no_side, left_side, right_side, verdict_short}
use native.Mathlib.Omega.{arith}
use Rattle.day_sheet.proofs.sheet.with_verdict.Goals as goal
use Rattle.day_sheet.proofs.sheet.with_verdict.Goals.{After-verdict_number-number}

short : (c : After-verdict_number-number) → length (verdict_text c.args.v) ≤ 9
short c = verdict_short c.args.v c.verdict_number-number.ensures (omega arith)

pub returns-in-Ok-One : goal.returns-in-Ok-One
unfolding verdict_text
returns-in-Ok-One c = (as_put (text_of c.args.line) (search rules) c.with_word.ensures, short (goal.at.returns-in-Ok-One c).After-verdict_number-number)

pub returns-in-Ok-Two : goal.returns-in-Ok-Two
unfolding verdict_text
returns-in-Ok-Two c = (as_put (text_of c.args.line) (search rules) c.with_word-in-Ok-Two.ensures, short (goal.at.returns-in-Ok-Two c).After-verdict_number-number)

pub returns-in-Err-WindowTooWide : goal.returns-in-Err-WindowTooWide
returns-in-Err-WindowTooWide c = (as_put (text_of c.args.line) (no_side c.args.v c.verdict_number-number.ensures (search rules)) c.with_number.ensures, short (goal.at.returns-in-Err-WindowTooWide c).After-verdict_number-number)

pub returns-in-Err-LeftRefused : goal.returns-in-Err-LeftRefused
returns-in-Err-LeftRefused c =
    let line = text_of c.args.line in (
      as_put line (left_side c.args.v c.verdict_number-number.ensures {n = c.in-Err-LeftRefused.field-0-0} (search rules))
          (fitted_then line left_word _ c.with_word-in-Err-LeftRefused.ensures c.with_number-in-Err-LeftRefused.ensures),
      short (goal.at.returns-in-Err-LeftRefused c).After-verdict_number-number,
    )

pub returns-in-Err-RightRefused : goal.returns-in-Err-RightRefused
returns-in-Err-RightRefused c =
    let line = text_of c.args.line in (
      as_put line (right_side c.args.v c.verdict_number-number.ensures {n = c.in-Err-RightRefused.field-0-0} (search rules))
          (fitted_then line right_word _ c.with_word-in-Err-RightRefused.ensures c.with_number-in-Err-RightRefused.ensures),
      short (goal.at.returns-in-Err-RightRefused c).After-verdict_number-number,
    )
