-- Replies to a fault and to a write to the DTCP: how long they are, and what a clock that breaks a rule is answered.
-- Assumes nothing.
use mathlib.Core.Path.{◌≡◌, refl, ap, ◌∙◌}
use mathlib.Core.Bool.{Bool, true, false}
use mathlib.Core.List.{List}
use Prim.Native.Nat.{ℕ, ◌≤◌}
use native.Mathlib.Omega.{arith}
use lib.Dec.{leb}
use lib.ListN.{length}
use Rattle.octets.specs.Numbers.{at}
use Rattle.clock.specs.Obeys.{clock_b}
use Rattle.clock.specs.declared.state.Clock.{Clock}
use Rattle.update_decide.specs.Decide.{decide_of}
use Rattle.rows.specs.Reply.{Outcome, done_b, answered}
use Rattle.rows.specs.Rows.{first_failed, table_rows}
use Rattle.rows.proofs.ReplyLaws.{broken_of, Replies, broken_refused, rows_broken, table_broken}
use Rattle.update.specs.Fault.{ending_of, fault_of}
use Rattle.update.specs.TimeUpdate.{update_rows, effect_of, update_of}
use Rattle.update.proofs.FaultLaws.{fault_refused, fault_done}
use Rattle.update.proofs.UpdateLaws.{update_refused, update_done, response_short}
use Rattle.clock.specs.declared.state.Report.{Report}
use Rattle.std.proofs.Common.{None, Option, Some}
use Rattle.clock.specs.Answers.{Answer}

abbrev answer_of : Outcome → Answer
answer_of u = u.reply.answer

ending_short : (r : Option Report) → length (ending_of r) ≤ 255
unfolding ending_of
ending_short None = omega arith
ending_short (Some r) = omega arith

module _ (c : Clock) (t o : List ℕ) where
  fault_short : (fault_of c t o).reply.len ≤ 255
  unfolding answered
  fault_short = go (done_b (first_failed (table_rows c t (leb 20 (length o))))) refl
    where
      go : (b : Bool) → done_b (first_failed (table_rows c t (leb 20 (length o)))) ≡ b → (fault_of c t o).reply.len ≤ 255
      go true h = rw (fault_done c t o h) (ending_short c.running)
      go false h = rw (fault_refused c t o h) (omega arith)

  fault_broken : clock_b c ≡ false → (fault_of c t o).reply.answer ≡ broken_of t
  fault_broken h =
      let e = table_broken c t (leb 20 (length o)) h in
      ap answer_of (fault_refused c t o (ap done_b e ∙ broken_refused t)) ∙ e

pub fault_replies : (t o : List ℕ) → Replies t (λ c. (fault_of c t o).reply.answer) (λ c. (fault_of c t o).reply.len)
fault_replies t o = record { short = λ c. fault_short c t o; broken = λ c. fault_broken c t o }

module _ (c : Clock) (t w o : List ℕ) where
  update_short : (update_of c t w o).reply.len ≤ 255
  unfolding effect_of answered
  update_short = go (done_b (first_failed (update_rows c t w o))) refl
    where
      go : (b : Bool) → done_b (first_failed (update_rows c t w o)) ≡ b → (update_of c t w o).reply.len ≤ 255
      go true h = rw (update_done c t w o h) (omega (arith, response_short (at w 0) (decide_of c w)))
      go false h = rw (update_refused c t w o h) (omega arith)

  update_broken : clock_b c ≡ false → (update_of c t w o).reply.answer ≡ broken_of t
  unfolding update_rows
  update_broken h =
      let e = rows_broken c t (leb 20 (length o)) h _ in
      ap answer_of (update_refused c t w o (ap done_b e ∙ broken_refused t)) ∙ e

pub update_replies : (t w o : List ℕ) → Replies t (λ c. (update_of c t w o).reply.answer) (λ c. (update_of c t w o).reply.len)
update_replies t w o = record { short = λ c. update_short c t w o; broken = λ c. update_broken c t w o }
