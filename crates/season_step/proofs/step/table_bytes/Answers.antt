-- Too few bytes, a permitted size, another: each one law of StepLaws.
use mathlib.Core.Path.{◌≡◌, sym, ap, ◌∙◌}
use Rattle.octets.specs.Numbers.{le32}
use Rattle.table.specs.Table.{size_b}
use Rattle.season_step.proofs.StepLaws.{bytes_short, bytes_said}
use native.Mathlib.Omega.{arith}
use Rattle.season_step.proofs.step.table_bytes.Goals as goal
use Rattle.season_step.proofs.step.table_bytes.Goals.{After-size_ok}

pub returns-then-head-lt-SIZE_BYTES : goal.returns-then-head-lt-SIZE_BYTES
returns-then-head-lt-SIZE_BYTES c = sym (bytes_short c.args.head.now (omega arith))

permitted : (c : After-size_ok) → size_b (le32 c.args.head.now 0) ≡ c.size_ok.result
permitted c = sym (c.size_ok.ensures ∙ ap size_b c.get32-size.ensures)

pub returns-then-size_ok : goal.returns-then-size_ok
returns-then-size_ok c = c.get32-size.ensures ∙ sym (bytes_said c.args.head.now _ (omega arith) (permitted (goal.at.returns-then-size_ok c).After-size_ok ∙ c.if-size_ok.true))

pub returns-else-size_ok : goal.returns-else-size_ok
returns-else-size_ok c = sym (bytes_said c.args.head.now _ (omega arith) (permitted (goal.at.returns-else-size_ok c).After-size_ok ∙ c.if-size_ok.false))
