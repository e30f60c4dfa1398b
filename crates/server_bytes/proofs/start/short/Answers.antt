-- Row 1 by the size, then row 2.
use mathlib.Core.Path.{sym, ◌∙◌}
use Rattle.server_bytes.proofs.StartLaws.{short_1, short_2}
use Rattle.server_bytes.proofs.start.short.Goals as goal

pub returns-then-size_ok : goal.returns-then-size_ok
returns-then-size_ok c = sym (short_2 _ (sym c.size_ok.ensures ∙ c.if-size_ok.true))

pub returns-else-size_ok : goal.returns-else-size_ok
returns-else-size_ok c = sym (short_1 _ (sym c.size_ok.ensures ∙ c.if-size_ok.false))
