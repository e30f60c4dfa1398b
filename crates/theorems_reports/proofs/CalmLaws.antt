-- Quiet calls end no report; calm calls are quiet, and askings are calm.
-- Assumes nothing.
use mathlib.Core.Path.{◌≡◌, refl, ◌∙◌, ap}
use mathlib.Core.Bool.{Bool, true, not}
use mathlib.Core.List.{List, [], ◌∷◌}
use Prim.Native.Nat.{ℕ}
use Rattle.octets.specs.Choice.{either}
use Rattle.octets.specs.Parts.{Bytes}
use Rattle.octets.proofs.Tests.{clash, both_reads, both_yes}
use Rattle.filter.specs.declared.filter.Filter.{Filter}
use Rattle.record.specs.declared.kinds.Record.{Record}
use Rattle.table.specs.Table.{sound_b}
use Rattle.clock.specs.declared.state.Clock.{Clock}
use Rattle.rows.specs.Rows.{idle_b}
use Rattle.theorems_reports.specs.World.{World, world, Call, step_of}
use Rattle.theorems_reports.specs.Hearing.{undisturbed_b, calm_b, all_calm_b}
use Rattle.theorems_reports.specs.Reports.{askings_b}
use Rattle.theorems_reports.specs.Closing.{quiet_b, all_quiet_b}
use Rattle.theorems_reports.proofs.RunLaws.{Runs, closes, last, more}
use Rattle.theorems_reports.proofs.StepLaws.{Step, still, asked, ended, step}
use Rattle.theorems_reports.proofs.CloseLaws.{Asks, asks, askings_read}
use Rattle.clock.specs.declared.state.Report.{Report}
use Rattle.std.proofs.Common.{Option}

quiet_reads : (v : World) (a : Call) (ks : List Call) → all_quiet_b v (a ∷ ks) ≡ true → (quiet_b v a ≡ true) × (all_quiet_b (step_of v a) ks ≡ true)
unfolding all_quiet_b
quiet_reads v a ks h = both_reads (quiet_b v a) (all_quiet_b (step_of v a) ks) h

module _ (t : List ℕ) (sd : sound_b t ≡ true) (hb : Bytes t) (opcode : ℕ) (f : Filter) where
  abbrev Later : List Call → Type 0
  Later ks = (c : Clock) (k sent : ℕ) (l : List Record) → Runs t sd hb opcode f c k sent l → all_quiet_b (world c t) ks ≡ true
      → undisturbed_b (world c t) ks ≡ true

  runs_on : {d : Clock} {k sent : ℕ} {l : List Record} → Runs t sd hb opcode f d k sent l → not (idle_b d.running) ≡ true
  runs_on r = ap (λ (x : Option Report). not (idle_b x)) r.running

  quiet_step : {c : Clock} {k sent : ℕ} (ks : List Call) {l : List Record} {a : Call} → Step t sd hb opcode f c k sent l a
      → quiet_b (world c t) a ≡ true → all_quiet_b (step_of (world c t) a) ks ≡ true → Later ks → undisturbed_b (world c t) (a ∷ ks) ≡ true
  unfolding undisturbed_b
  quiet_step ks (still {d = d} e1 e2 r) h q later = rw (e1, e2) (both_yes (runs_on r) ∙ later d _ _ _ r (rw e2 at q))
  quiet_step ks (ended e i n) h q later = absurd (clash _ h n)
  quiet_step ks (asked room (closes e)) h q later = rw e
  quiet_step ks (asked room (last {d = d} unsent reads b e1 e2 r)) h q later =
      rw (e1, e2) (both_yes (runs_on r) ∙ later d _ _ _ r (rw e2 at q))
  quiet_step ks (asked room (more {d = d} unsent reads b e1 e2 r)) h q later =
      rw (e1, e2) (both_yes (runs_on r) ∙ later d _ _ _ r (rw e2 at q))

  pub quiet_undisturbed : (ks : List Call) → Later ks
  unfolding undisturbed_b
  quiet_undisturbed [] c k sent l r h = refl
  quiet_undisturbed (a ∷ ks) c k sent l r h =
      let q = quiet_reads (world c t) a ks h in
      quiet_step ks (step t sd hb opcode f r a) q.0 q.1 (quiet_undisturbed ks)

pub calm_quiet : (ks : List Call) (v : World) → all_calm_b ks ≡ true → all_quiet_b v ks ≡ true
unfolding all_calm_b all_quiet_b
calm_quiet [] v h = refl
calm_quiet (a ∷ ks) v h = let x = both_reads (calm_b a) (all_calm_b ks) h in both_yes (either_yes (calm_b a) _ x.0) ∙ calm_quiet ks (step_of v a) x.1
  where
    either_yes : (m n : Bool) → m ≡ true → either m n ≡ true
    either_yes m n e = rw e

asking_calm : {a : Call} → Asks a → calm_b a ≡ true
unfolding calm_b
asking_calm (asks room) = refl

pub askings_calm : (ks : List Call) → askings_b ks ≡ true → all_calm_b ks ≡ true
unfolding all_calm_b
askings_calm [] h = refl
askings_calm (a ∷ ks) h = both_yes (asking_calm (askings_read a ks h).0) ∙ askings_calm ks (askings_read a ks h).1
