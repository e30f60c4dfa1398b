-- The ATT error that goes with a refusal, by its number (document 01, "Refusal numbers", the column "Answer").
use Rattle.std.specs.Prelude.{ℕ, eqb, ℤ, pos}
use Rattle.octets.specs.Choice.{pick}

-- 4 "ATT error 0x0D", 5 "0xFD", 6 "0xFE"; the others are "number only", here 0
unfoldable pub att_error_at : ℕ → ℤ
att_error_at n = pick (eqb n 4) (pos 0x0d) (pick (eqb n 5) (pos 0xfd) (pick (eqb n 6) (pos 0xfe) (pos 0)))
