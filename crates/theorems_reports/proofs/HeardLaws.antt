-- What is heard of a report, joined: by induction over the calls, with sender and receiver in step.
-- Assumes nothing.
use mathlib.Core.Path.{◌≡◌, refl, ◌∙◌, ap}
use mathlib.Core.Bool.{true, false, not}
use mathlib.Core.List.{List, [], ◌∷◌, map}
use Prim.Native.Nat.{ℕ, ◌-◌, ◌≤◌}
use native.Mathlib.Omega.{arith}
use borrow.Author.Tests.{leb-true}
use lib.Dec.{leb}
use lib.ListN.{length}
use Rattle.octets.specs.Choice.{both}
use Rattle.octets.specs.Parts.{Bytes}
use Rattle.octets.proofs.Tests.{clash, both_reads}
use Rattle.filter.specs.declared.filter.Filter.{Filter}
use Rattle.record_write.specs.Layout.{bytes_of}
use Rattle.record_read.specs.Reading.{read_of}
use Rattle.record.specs.declared.kinds.Record.{Record}
use Rattle.record_read.proofs.RoundTrip.{length_bytes}
use Rattle.table.specs.Table.{sound_b}
use Rattle.clock.specs.declared.state.Clock.{Clock}
use Rattle.rows.specs.Rows.{idle_b}
use Rattle.racp_access.specs.Report.{first_bytes}
use Rattle.racp_notify.specs.Notify.{room_b}
use Rattle.joining.specs.Joining.{joined, join_of, joined_in}
use Rattle.joining.specs.declared.joining.Answer.{Answer}
use Rattle.joining.specs.declared.joining.Answer.TheVariants.{Whole}
use Rattle.joining.specs.declared.joining.Joining.{Joining}
use Rattle.theorems_reports.specs.World.{World, world, Call, step_of}
use Rattle.theorems_reports.specs.Hearing.{Heard, nothing, segment, closing, heard_of, Hearing, hearing, onward, hearing_by, hearing_of, undisturbed_b}
use Rattle.theorems_reports.specs.Joined.{Got, add, join_all}
use Rattle.theorems_reports.proofs.JoinLaws.{Synced, join_last, join_more}
use Rattle.theorems_reports.proofs.RunLaws.{Runs, closes, last, more, ending}
use Rattle.theorems_reports.proofs.StepLaws.{Step, still, asked, ended, step}
use Rattle.std.proofs.Common.{Some}

pub room_reads : (p n : ℕ) → room_b p n ≡ true → 20 ≤ p
unfolding room_b
room_reads p n h = leb-true 20 p (both_reads (leb 20 p) (leb p 244) (both_reads (both (leb 20 p) (leb p 244)) (leb p n) h).0).0

-- one notification, given what the joining makes of it
joins : (j : Joining) (n : List ℕ) (ns : List (List ℕ)) (a : Answer) (i : Joining) → join_of j n ≡ joined a i
    → join_all j (n ∷ ns) ≡ add a i (join_all i ns)
unfolding join_all
joins j n ns a i e = rw e

-- one call, given what is heard of it and the world after
module _ (v w : World) (a : Call) (ks : List Call) where
  pub hears : (x : Heard) → heard_of v a ≡ x → step_of v a ≡ w → hearing_of v (a ∷ ks) ≡ onward x (hearing_of w ks)
  unfolding hearing_by
  hears x e s = rw (e, s)

  pub closing_heard : (b : List ℕ) → heard_of v a ≡ closing b → hearing_of v (a ∷ ks) ≡ hearing [] true b
  unfolding hearing_by
  closing_heard b e = rw e

  pub undisturbed_still : heard_of v a ≡ nothing → step_of v a ≡ w → undisturbed_b v (a ∷ ks) ≡ true → undisturbed_b w ks ≡ true
  unfolding undisturbed_b
  undisturbed_still e s u = (both_reads (not (idle_b w.clock.running)) (undisturbed_b w ks) (rw (e, s) at u)).1

  pub undisturbed_ended : heard_of v a ≡ nothing → idle_b (step_of v a).clock.running ≡ true → undisturbed_b v (a ∷ ks) ≡ true → ⊥
  unfolding undisturbed_b
  undisturbed_ended e i u = clash false (rw (e, i) at u) refl

  pub undisturbed_segment : (b : List ℕ) → heard_of v a ≡ segment b → step_of v a ≡ w → undisturbed_b v (a ∷ ks) ≡ true → undisturbed_b w ks ≡ true
  unfolding undisturbed_b
  undisturbed_segment b e s u = (both_reads (not (idle_b w.clock.running)) (undisturbed_b w ks) (rw (e, s) at u)).1

module _ (t : List ℕ) (sd : sound_b t ≡ true) (hb : Bytes t) (opcode : ℕ) (f : Filter) where
  -- nothing is refused, and once it is closed the records are those that were left
  pub record Holds (j : Joining) (l : List Record) (h : Hearing) : Type 0 where
    pub fine : (join_all j h.notes).fine ≡ true
    pub all : h.closed ≡ true → (join_all j h.notes).records ≡ map Some l
    pub response : h.closed ≡ true → h.response ≡ ending t sd hb opcode f

  holds_closed : (j : Joining) → Holds j [] (hearing [] true (ending t sd hb opcode f))
  unfolding join_all
  holds_closed j = record { fine = refl; all = λ c. refl; response = λ c. refl }

  -- a segment in front: the last of a record, or another
  holds_last : (j i : Joining) (n : List ℕ) (x : Record) (l : List Record) (h : Hearing)
      → join_all j (n ∷ h.notes) ≡ add Whole i (join_all i h.notes)
      → read_of (joined_in i) ≡ Some x → Holds i l h → Holds j (x ∷ l) (onward (segment n) h)
  holds_last j i n x l h e q s =
      record {
        fine = ap (λ (g : Got). g.fine) e ∙ s.fine;
        all = λ c. ap (λ (g : Got). g.records) e ∙ rw (q, s.all c) refl;
        response = s.response;
      }

  holds_more : (j i : Joining) (n : List ℕ) (l : List Record) (h : Hearing) → join_all j (n ∷ h.notes) ≡ join_all i h.notes
      → Holds i l h → Holds j l (onward (segment n) h)
  holds_more j i n l h e s =
      record {
        fine = ap (λ (g : Got). g.fine) e ∙ s.fine;
        all = λ c. ap (λ (g : Got). g.records) e ∙ s.all c;
        response = s.response;
      }

  -- what the induction gives for the calls that follow
  abbrev Later : List Call → Type 0
  Later ks = (c : Clock) (k sent : ℕ) (l : List Record) (j : Joining) → Runs t sd hb opcode f c k sent l → Synced (first_bytes l) sent k j
      → undisturbed_b (world c t) ks ≡ true → Holds j l (hearing_of (world c t) ks)

  module _ {c : Clock} {k : ℕ} {j : Joining} (ks : List Call) (later : Later ks) where
    holds_step : {a : Call} {sent : ℕ} {l : List Record} → Step t sd hb opcode f c k sent l a → Synced (first_bytes l) sent k j
        → undisturbed_b (world c t) (a ∷ ks) ≡ true → Holds j l (hearing_of (world c t) (a ∷ ks))
    unfolding first_bytes
    holds_step {a} (still {d = d} e1 e2 r) s u =
        rw (hears (world c t) (world d t) a ks nothing e1 e2)
        (later d _ _ _ _ r s (undisturbed_still (world c t) (world d t) a ks e1 e2 u))
    holds_step {a} (ended e i n) s u = absurd (undisturbed_ended (world c t) (world c t) a ks e i u)
    holds_step {a} (asked room (closes e)) s u = rw (closing_heard (world c t) (world c t) a ks _ e) (holds_closed j)
    holds_step {a} {sent} (asked {p} {o} room (last {x} {rest} {d} unsent reads h e1 e2 r)) s u =
        let b = length_bytes x in
        let y = join_last (bytes_of x) sent k (p - 1) j (omega arith) unsent (omega (arith, room_reads p (length o) room)) s h in
        let z = later d _ _ _ _ r (y.synced _) (undisturbed_segment (world c t) (world d t) a ks _ e1 e2 u) in
        rw (hears (world c t) (world d t) a ks _ e1 e2)
        (holds_last j _ _ x rest _ (joins j _ _ _ _ y.joins) (ap read_of y.whole ∙ reads) z)
    holds_step {a} {sent} (asked {p} {o} room (more {x} {rest} {d} unsent reads h e1 e2 r)) s u =
        let b = length_bytes x in
        let y = join_more (bytes_of x) sent k (p - 1) j (omega arith) unsent (omega (arith, room_reads p (length o) room)) s h in
        let z = later d _ _ _ _ r y.synced (undisturbed_segment (world c t) (world d t) a ks _ e1 e2 u) in
        rw (hears (world c t) (world d t) a ks _ e1 e2)
        (holds_more j _ _ (x ∷ rest) _ (joins j _ _ _ _ y.joins) z)

  pub holds : (ks : List Call) → Later ks
  unfolding hearing_by join_all
  holds [] c k sent l j r s u = record { fine = refl; all = λ h. absurd (clash false h refl); response = λ h. absurd (clash false h refl) }
  holds (a ∷ ks) c k sent l j r s u = holds_step ks (holds ks) (step t sd hb opcode f r a) s u
