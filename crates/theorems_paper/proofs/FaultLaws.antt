-- Time faults: the promise holds of the right server, and a computed fault breaks it for each wrong one.
-- Assumes nothing.
use mathlib.Core.Path.{◌≡◌, refl, sym, ◌∙◌, ap}
use mathlib.Core.Bool.{true, false}
use mathlib.Core.List.{List, [], ◌∷◌}
use Prim.Native.Nat.{ℕ}
use lib.Dec.{leb}
use lib.ListN.{length}
use Rattle.octets.specs.Parts.{over}
use Rattle.octets.proofs.Tests.{clash}
use Rattle.clock.specs.declared.state.Clock.{Clock}
use Rattle.clock.specs.declared.state.Report.{Report}
use Rattle.update.specs.Fault.{faulted_of, ending_of, fault_of}
use Rattle.rows.specs.Reply.{done_b, answered}
use Rattle.rows.specs.Rows.{first_failed, idle_b, table_rows}
use Rattle.theorems_paper.specs.Reader.{output, response, access, reporting}
use Rattle.theorems_paper.proofs.ShutLaws.{differ, done_is}
use Rattle.theorems_paper.specs.Wrong.{EndsReport, faulting_by, keeps_running, ends_silent, FaultsShutOut}
use Rattle.std.proofs.Common.{None, Some}

module _ (c : Clock) (t o : List ℕ) where
  parts : faulting_by faulted_of ending_of c t o ≡ fault_of c t o
  unfolding faulting_by fault_of
  parts = refl

  answers : done_b (fault_of c t o).reply.answer ≡ done_b (first_failed (table_rows c t (leb 20 (length o))))
  unfolding fault_of
  answers = done_is (first_failed (table_rows c t (leb 20 (length o)))) _ c _ _ t o

  idle : done_b (fault_of c t o).reply.answer ≡ true → (fault_of c t o).reply.clock.running ≡ None
  unfolding fault_of answered faulted_of
  idle h = rw (sym answers ∙ h)

  says : (r : Report) → done_b (fault_of c t o).reply.answer ≡ true → c.running ≡ Some r
      → response (fault_of c t o) ≡ 0x06 ∷ 0x00 ∷ r.opcode ∷ 0x08 ∷ []
  unfolding fault_of answered ending_of over
  says r h e = rw (sym answers ∙ h, e)

right : EndsReport fault_of
right = record { answers = answers; idle = idle; says = says }

runs_on : EndsReport keeps_running → ⊥
unfolding access reporting faulting_by faulted_of
runs_on a = clash false (ap idle_b (a.idle reporting.clock reporting.table output refl)) refl

ends_silent_lem : EndsReport ends_silent → ⊥
unfolding access reporting faulting_by faulted_of
ends_silent_lem a = differ 0 (a.says reporting.clock reporting.table output _ refl refl) refl

pub faults_shut_out : FaultsShutOut
faults_shut_out = record { right = right; parts = parts; runs_on = runs_on; ends_silent_lem = ends_silent_lem }
