-- What every reply keeps to: it is short, and a clock that breaks a rule is refused, by the table's row and then by its own.
-- Assumes nothing.
use mathlib.Core.Path.{◌≡◌, refl, sym, ap, ◌∙◌}
use mathlib.Core.Bool.{Bool, true, false}
use mathlib.Core.List.{List, [], ◌++◌, append-nil}
use Prim.Native.Nat.{ℕ, ◌≤◌}
use Rattle.octets.specs.Choice.{pick}
use Rattle.octets.proofs.Tests.{clash}
use Rattle.table.specs.Table.{sound_b}
use Rattle.clock.specs.Answers.{number_of, Answer}
use Rattle.clock.specs.Obeys.{clock_b}
use Rattle.clock.specs.declared.state.Clock.{Clock}
use Rattle.rows.specs.Reply.{done_b}
use Rattle.rows.specs.Rows.{Row, first_failed, table_rows}
use Rattle.rows.proofs.RowLaws.{row_holds, row_fails, whole_alone}
use Rattle.clock.specs.declared.answers.Refusal.TheVariants.{ClockBroken, TableNotSound}
use Rattle.std.proofs.Common.{Err}

-- a clock that breaks a rule, beside this table
abbrev pub broken_of : List ℕ → Answer
broken_of t = pick (sound_b t) (Err ClockBroken) (Err TableNotSound)

-- a call, by its answer and the length of its reply, over every clock
pub record Replies (t : List ℕ) (answer : Clock → Answer) (len : Clock → ℕ) : Type 0 where
  pub short : (c : Clock) → len c ≤ 255
  pub broken : (c : Clock) → clock_b c ≡ false → answer c ≡ broken_of t

pub broken_refused : (t : List ℕ) → done_b (broken_of t) ≡ false
unfolding done_b number_of
broken_refused t = go (sound_b t)
  where
    go : (b : Bool) → done_b (pick b (Err ClockBroken) (Err TableNotSound)) ≡ false
    go true = refl
    go false = refl

module _ (c : Clock) (t : List ℕ) (room : Bool) (h : clock_b c ≡ false) where
  -- the table's rows, and then others
  pub rows_broken : (ys : List Row) → first_failed (table_rows c t room ++ ys) ≡ broken_of t
  unfolding table_rows
  rows_broken ys = go (sound_b t) refl
    where
      go : (b : Bool) → sound_b t ≡ b → first_failed (table_rows c t room ++ ys) ≡ pick b (Err ClockBroken) (Err TableNotSound)
      go true e = row_holds _ _ _ e ∙ row_fails _ _ _ (whole_alone c t h)
      go false e = row_fails _ _ _ e

  pub table_broken : first_failed (table_rows c t room) ≡ broken_of t
  table_broken = ap first_failed (sym (append-nil (table_rows c t room))) ∙ rows_broken []

-- where a clock that breaks a rule is refused, only one that obeys them is answered Done
pub obeyed : (c : Clock) (a : Answer) → (clock_b c ≡ false → done_b a ≡ false) → done_b a ≡ true → clock_b c ≡ true
obeyed c a refuses h = go (clock_b c) refl
  where
    go : (b : Bool) → clock_b c ≡ b → clock_b c ≡ true
    go true e = e
    go false e = absurd (clash (done_b a) h (refuses e))
