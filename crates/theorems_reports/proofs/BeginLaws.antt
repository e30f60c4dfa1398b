-- An accepted record access: the report runs, with every held record that matches left to send.
-- Assumes nothing.
use mathlib.Core.Path.{◌≡◌, refl, sym, ◌∙◌, ap}
use mathlib.Core.Bool.{true}
use mathlib.Core.List.{List, []}
use Prim.Native.Nat.{ℕ, suc}
use native.Mathlib.Omega.{arith}
use lib.ListN.{length}
use Rattle.octets.specs.Parts.{Bytes}
use Rattle.filter.specs.declared.filter.Filter.{Filter}
use Rattle.record.specs.declared.kinds.Record.{Record}
use Rattle.table.specs.Table.{count, sound_b}
use Rattle.table_look.specs.Matching.{matching}
use Rattle.clock.specs.Obeys.{opcode_b, clock_b}
use Rattle.clock.specs.declared.state.Clock.{Clock}
use Rattle.clock.proofs.RuleLaws.{running_makes}
use Rattle.clock.proofs.EventLaws.{with_running_obeys}
use Rattle.rows.specs.Reply.{done_b}
use Rattle.rows.proofs.RowLaws.{whole_reads}
use Rattle.codes.specs.Response.{code_bytes}
use Rattle.racp_request.specs.Request.{opcode_in, request_of}
use Rattle.racp_access.specs.Report.{report, left_from}
use Rattle.racp_access.specs.Access.{accessed, begun_of, accessed_of, response_in, access_of}
use Rattle.theorems_reports.specs.World.{World, world}
use Rattle.theorems_reports.specs.Reports.{response_to, Accepted, report_begun}
use Rattle.theorems_reports.proofs.HeldLaws.{Stands, none, some, left_stands}
use Rattle.theorems_reports.proofs.RunLaws.{Runs}
use Rattle.theorems_reports.proofs.RequestLaws.{request_report}
use Rattle.theorems_reports.proofs.AccessLaws.{left_done, response_done, rows_passed, answered_passed}
use Rattle.racp_request.specs.declared.request.Request.TheVariants.{Report}
use Rattle.std.proofs.Common.{Ok, Option, Some}

-- a report that is accepted runs
module _ (t : List ℕ) (sd : sound_b t ≡ true) (hb : Bytes t) (opcode : ℕ) (f : Filter) (c : Clock) (ok : clock_b c ≡ true)
    (h : opcode_b opcode ≡ true) where
  begins : {rest : Option (ℕ × ℕ)} {sent : ℕ} {l : List Record} → Stands t sd f rest sent l → response_in (begun_of c opcode f rest) ≡ []
      → Runs t sd hb opcode f (begun_of c opcode f rest).clock 0 sent l
  unfolding begun_of accessed code_bytes
  begins none e = let n : ◌≡◌ {A = ℕ} 4 0 = ap length e in absurd (omega arith)
  begins (some {number} {sent} {x} {rest} s) e =
      record {
        clock = with_running_obeys c _ ok (running_makes (report opcode f 0 (Some (number, sent))) (record { opcode = h; counter = omega arith }));
        rest = Some (number, sent);
        running = refl;
        stands = some s;
      }

  -- and has something to send
  left_some : {rest : Option (ℕ × ℕ)} {sent : ℕ} {l : List Record} → Stands t sd f rest sent l → response_in (begun_of c opcode f rest) ≡ [] → l ≡ [] → ⊥
  unfolding begun_of accessed code_bytes
  left_some none e q = let n : ◌≡◌ {A = ℕ} 4 0 = ap length e in absurd (omega arith)
  left_some (some {number} {sent} {x} {rest} s) e q = let n : suc (length rest) ≡ 0 = ap length q in absurd (omega arith)

-- the rows that were passed, and what was found
record Answered (v : World) (w o : List ℕ) (f : Filter) : Type 0 where
  sound : sound_b v.table ≡ true
  clock : clock_b v.clock ≡ true
  stands : Stands v.table sound f (left_from f v.table 0) 0 (matching f v.table)
  response : response_to v w o ≡ response_in (begun_of v.clock (opcode_in w) f (left_from f v.table 0))
  after : report_begun v w o ≡ world (begun_of v.clock (opcode_in w) f (left_from f v.table 0)).clock v.table

answered_report : (v : World) (w o : List ℕ) (f : Filter) (hb : Bytes v.table) → request_of w ≡ Ok (Report f)
    → done_b (access_of v.clock v.table w o).reply.answer ≡ true → Answered v w o f
unfolding matching accessed_of
answered_report v w o f hb q h =
    let c = v.clock in
    let t = v.table in
    let done = answered_passed c t w o h in
    let rows = (rows_passed c t w o done).0 in
    record {
      sound = rows.sound;
      clock = (whole_reads c t rows.clock).0;
      stands = left_stands t rows.sound f hb (count t) 0 (omega arith);
      response = rw q at (response_done c t w o done);
      after = rw q at (left_done c t w o done);
    }

-- the world of an accepted report
pub record Begun (v : World) (w o : List ℕ) (f : Filter) (hb : Bytes v.table) : Type 0 where
  pub sound : sound_b v.table ≡ true
  pub clock : Clock
  pub is : report_begun v w o ≡ world clock v.table
  pub runs : Runs v.table sound hb (opcode_in w) f clock 0 0 (matching f v.table)

pub accepted : (v : World) (w o : List ℕ) (f : Filter) (hb : Bytes v.table) → Accepted v w o f → Begun v w o f hb
accepted v w o f hb a =
    let x = answered_report v w o f hb a.asked a.done in
    record {
      sound = x.sound;
      clock = (begun_of v.clock (opcode_in w) f (left_from f v.table 0)).clock;
      is = x.after;
      runs = begins v.table x.sound hb (opcode_in w) f v.clock x.clock (request_report w f a.asked) x.stands
          (sym x.response ∙ a.silent);
    }

-- a report of which nothing matches is not accepted
pub accepted_some : (v : World) (w o : List ℕ) (f : Filter) → Bytes v.table → Accepted v w o f → matching f v.table ≡ [] → ⊥
accepted_some v w o f hb a q =
    let x = answered_report v w o f hb a.asked a.done in
    left_some v.table x.sound hb (opcode_in w) f v.clock x.clock (request_report w f a.asked) x.stands
    (sym x.response ∙ a.silent) q
