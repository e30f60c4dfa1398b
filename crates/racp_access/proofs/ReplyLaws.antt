-- The reply to a write to the RACP: how long it is, and what a clock that breaks a rule is answered.
-- Assumes nothing.
use mathlib.Core.Path.{◌≡◌, refl, ap, ◌∙◌}
use mathlib.Core.Bool.{Bool, true, false}
use mathlib.Core.List.{List}
use Prim.Native.Nat.{ℕ, ◌≤◌}
use native.Mathlib.Omega.{arith}
use lib.Dec.{leb}
use lib.ListN.{length, length-take}
use Rattle.clock.specs.Obeys.{clock_b}
use Rattle.clock.specs.declared.state.Clock.{Clock}
use Rattle.rows.specs.Reply.{Outcome, done_b, answered}
use Rattle.rows.specs.Rows.{first_failed}
use Rattle.rows.proofs.ReplyLaws.{broken_of, Replies, broken_refused, rows_broken}
use Rattle.racp_request.specs.Request.{opcode_in, request_of}
use Rattle.racp_access.specs.Access.{access_rows, access_of}
use Rattle.racp_access.proofs.AccessLaws.{access_room, access_refused, access_done_lem}

module _ (c : Clock) (t w o : List ℕ) where
  access_short : (access_of c t w o).reply.len ≤ 255
  unfolding answered
  access_short = go (done_b (first_failed (access_rows c t w o))) refl
    where
      go : (b : Bool) → done_b (first_failed (access_rows c t w o)) ≡ b → (access_of c t w o).reply.len ≤ 255
      go true h =
          rw (access_done_lem c t w o h, length-take) (omega (arith, (access_room c t (opcode_in w) (request_of w)).bytes))
      go false h = rw (access_refused c t w o h) (omega arith)

  access_broken : clock_b c ≡ false → (access_of c t w o).reply.answer ≡ broken_of t
  unfolding access_rows
  access_broken h =
      let e = rows_broken c t (leb 20 (length o)) h _ in
      ap (λ (u : Outcome). u.reply.answer) (access_refused c t w o (ap done_b e ∙ broken_refused t)) ∙ e

pub access_replies : (t w o : List ℕ) → Replies t (λ c. (access_of c t w o).reply.answer) (λ c. (access_of c t w o).reply.len)
access_replies t w o = record { short = λ c. access_short c t w o; broken = λ c. access_broken c t w o }
