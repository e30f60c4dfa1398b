-- A record access by whether a row failed.
-- Assumes nothing.
use mathlib.Core.Path.{◌≡◌, refl, sym, ◌∙◌, ap}
use mathlib.Core.Bool.{Bool, true, false}
use mathlib.Core.List.{List}
use Prim.Native.Nat.{ℕ, ◌+◌}
use lib.Dec.{leb, eqb}
use lib.ListN.{length, take, drop}
use lib.Seq.{take_at}
use Rattle.octets.specs.Choice.{both, either}
use Rattle.octets.specs.Parts.{over}
use Rattle.clock.specs.Answers.{number_of, Answer}
use Rattle.clock.specs.declared.state.Clock.{Clock}
use Rattle.rows.specs.Reply.{done_b, answered, Outcome}
use Rattle.rows.specs.Rows.{first_failed, idle_b, write_rows}
use Rattle.rows.proofs.RowLaws.{TableRows, table_done, write_all}
use Rattle.racp_request.specs.Request.{opcode_in, request_of}
use Rattle.racp_access.specs.declared.access.Accessed.{Accessed}
use Rattle.racp_access.specs.Access.{access_rows, accessed_of, response_in, access_of}
use Rattle.racp_access.proofs.AccessLaws.{access_refused, access_done_lem}
use Rattle.theorems_reports.specs.World.{world, world_after}
use Rattle.theorems_reports.specs.Reports.{response_to}

module _ (c : Clock) (t w o : List ℕ) where
  abbrev failed : Answer
  failed = first_failed (access_rows c t w o)

  abbrev pub done : Accessed
  done = accessed_of c t (opcode_in w) (request_of w)

  -- clock and table after it
  pub left_refused : done_b (first_failed (access_rows c t w o)) ≡ false → world_after (access_of c t w o) ≡ world c t
  left_refused h = ap world_after (access_refused c t w o h)

  pub left_done : done_b (first_failed (access_rows c t w o)) ≡ true → world_after (access_of c t w o) ≡ world done.clock t
  unfolding answered
  left_done h = ap world_after (access_done_lem c t w o h)

  pub answer_done : done_b (first_failed (access_rows c t w o)) ≡ true → done_b (access_of c t w o).reply.answer ≡ true
  unfolding answered done_b number_of
  answer_done h = ap (λ (u : Outcome). done_b u.reply.answer) (access_done_lem c t w o h)

  -- the bytes that answer it
  pub response_done : done_b (first_failed (access_rows c t w o)) ≡ true → response_to (world c t) w o ≡ response_in done
  unfolding answered over
  response_done h =
      ap (λ (u : Outcome). take u.reply.len u.output) (access_done_lem c t w o h)
      ∙ take_at (response_in done) (drop (0 + length (response_in done)) o) (length (response_in done)) refl

  -- the rows that it passed
  abbrev free : Bool
  free = either (idle_b c.running) (eqb (opcode_in w) 3)

  pub rows_passed : done_b (first_failed (access_rows c t w o)) ≡ true → TableRows c t (leb 20 (length o)) × (free ≡ true)
  unfolding access_rows
  rows_passed h =
      let x = table_done c t (leb 20 (length o)) (write_rows (length w) (both c.switches.racp c.switches.log) free) h in
      (x.0, (write_all (length w) (both c.switches.racp c.switches.log) free x.1).alone)

  -- an answered one passed them
  pub answered_passed : done_b (access_of c t w o).reply.answer ≡ true → done_b (first_failed (access_rows c t w o)) ≡ true
  answered_passed h = go (done_b failed) refl
    where
      go : (b : Bool) → done_b failed ≡ b → done_b failed ≡ true
      go true e = e
      go false e = ap (λ (u : Outcome). done_b u.reply.answer) (sym (access_refused c t w o e)) ∙ h
