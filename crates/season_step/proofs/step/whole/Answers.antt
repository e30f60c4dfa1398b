-- Too few bytes by StepLaws; else the two tests as they stand.
use Rattle.std.proofs.Common.{◌≡◌, ℕ, sym, ap, ◌∙◌, ◌+◌, length, nat_eq, arith}
use Rattle.octets.specs.Numbers.{le32}
use Rattle.table.specs.Table.{size_b}
use Rattle.season_step.proofs.StepLaws.{whole_said, whole_short}
use Rattle.season_step.proofs.step.whole.Goals as goal
use Rattle.season_step.proofs.step.whole.Goals.{After-size_ok}

permitted : (c : After-size_ok) → size_b (le32 c.args.entry.now 0) ≡ c.size_ok.result
permitted c = sym (c.size_ok.ensures ∙ ap size_b c.get32-size.ensures)

pub returns-then-entry-lt-SIZE_BYTES : goal.returns-then-entry-lt-SIZE_BYTES
returns-then-entry-lt-SIZE_BYTES c = sym (whole_short c.args.entry.now (omega arith))

pub returns-then-size_ok : goal.returns-then-size_ok
returns-then-size_ok c =
    let entry = c.args.entry.now in
    ap (λ (n : ℕ). nat_eq (length entry) (4 + n)) c.get32-size.ensures
    ∙ sym (whole_said entry _ (permitted (goal.at.returns-then-size_ok c).After-size_ok ∙ c.if-size_ok.true))

pub returns-else-size_ok : goal.returns-else-size_ok
returns-else-size_ok c =
    c.if-size_ok.false
    ∙ sym (whole_said c.args.entry.now _ (permitted (goal.at.returns-else-size_ok c).After-size_ok ∙ c.if-size_ok.false))
