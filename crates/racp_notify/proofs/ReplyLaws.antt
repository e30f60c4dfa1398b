-- A notification: how long it is, and what a clock that breaks a rule is answered.
-- Assumes nothing.
use mathlib.Core.Path.{◌≡◌, refl}
use mathlib.Core.Bool.{Bool, true, false}
use mathlib.Core.List.{List}
use Prim.Native.Nat.{ℕ, ◌-◌, ◌≤◌}
use native.Mathlib.Omega.{arith}
use lib.Dec.{eqb}
use lib.ListN.{length, length-take}
use Rattle.octets.specs.Choice.{pick}
use Rattle.table_look.specs.Matching.{matching}
use Rattle.clock.specs.Obeys.{clock_b}
use Rattle.clock.specs.declared.state.Clock.{Clock}
use Rattle.clock.specs.declared.state.Report.{Report}
use Rattle.rows.specs.Reply.{done_b}
use Rattle.rows.proofs.ReplyLaws.{broken_of, Replies, broken_refused, rows_broken}
use Rattle.rows.proofs.RowLaws.{table_all}
use Rattle.codes.specs.Racp.{report_opcode, combined_opcode, combined_response}
use Rattle.codes.specs.Response.{code_bytes, count_bytes}
use Rattle.codes.specs.declared.response.Code.TheVariants.{Success}
use Rattle.racp_notify.specs.Notify.{room_b, notify_rows, segment_of, closing_of, said_of, noticed, notify_of}
use Rattle.racp_notify.proofs.NotifyLaws.{tables, notify_idle, notify_refused, notify_said, ready}
use Rattle.std.proofs.Common.{None, Option, Some}

closing_short : (t : List ℕ) (r : Report) → length (closing_of t r) ≤ 255
unfolding closing_of code_bytes count_bytes
closing_short t r = go (eqb r.opcode combined_opcode)
  where
    go : (b : Bool)
        → length (pick b (count_bytes combined_response (length (matching r.filter t))) (code_bytes report_opcode Success)) ≤ 255
    go true = omega arith
    go false = omega arith

said_short : (c : Clock) (t : List ℕ) (q : ℕ) (r : Report) (l : Option (ℕ × ℕ)) → q ≤ 243 → length (said_of c t q r l).bytes ≤ 255
unfolding said_of segment_of
said_short c t q r None h = closing_short t r
said_short c t q r (Some (number, sent)) h = rw length-take (omega arith)

module _ (c : Clock) (t : List ℕ) (p : ℕ) (o : List ℕ) where
  notify_short : (notify_of c t p o).reply.len ≤ 255
  unfolding noticed
  notify_short = go c.running refl (done_b (tables c t p o)) refl
    where
      go : (r : Option Report) → c.running ≡ r → (b : Bool) → done_b (tables c t p o) ≡ b → (notify_of c t p o).reply.len ≤ 255
      go None e false d = rw (notify_refused c t p o d) (omega arith)
      go None e true d = rw (notify_idle c t p o d e) (omega arith)
      go (Some r) e false d = rw (notify_refused c t p o d) (omega arith)
      go (Some r) e true d =
          let k = ready c t p (length o) r e (table_all c t (room_b p (length o)) d) in
          let q : p - 1 ≤ 243 = omega arith in
          rw (notify_said c t p o r e d) (said_short c t (p - 1) r r.left q)

  notify_broken : clock_b c ≡ false → (notify_of c t p o).reply.answer ≡ broken_of t
  unfolding notify_of notify_rows
  notify_broken h = rw (rows_broken c t (room_b p (length o)) h _, broken_refused t)

pub notify_replies : (t : List ℕ) (p : ℕ) (o : List ℕ) → Replies t (λ c. (notify_of c t p o).reply.answer) (λ c. (notify_of c t p o).reply.len)
notify_replies t p o = record { short = λ c. notify_short c t p o; broken = λ c. notify_broken c t p o }
