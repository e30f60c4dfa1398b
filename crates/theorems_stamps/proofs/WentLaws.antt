-- What calls do, whatever they were: a world came from another, with records logged, while seconds ran. Such steps compose.
-- Assumes nothing.
use mathlib.Core.Path.{◌≡◌, refl, sym, ◌∙◌, ap}
use mathlib.Core.Bool.{Bool, true, false}
use mathlib.Core.List.{List, [], ◌∷◌, ◌++◌, append-nil, append_assoc}
use Prim.Native.Nat.{ℕ, ◌+◌, ◌%◌, ◌<◌}
use native.Mathlib.Omega.{arith}
use lib.ListN.{length, length-append}
use Rattle.octets.specs.Choice.{both, pick}
use Rattle.octets.specs.Parts.{Bytes}
use Rattle.octets.proofs.Tests.{clash, both_reads}
use Rattle.record.specs.Fields.{Fits}
use Rattle.record.specs.declared.kinds.Record.{Record}
use Rattle.record.specs.declared.kinds.Record.TheVariants.{TimeUpdate, TimeFault}
use Rattle.table.specs.Table.{capacity, next, held}
use Rattle.table_write.specs.Append.{append_of, newest}
use Rattle.table_write.proofs.AppendLaws.{next_appended, capacity_appended}
use Rattle.table.proofs.HeadLaws.{sound_head}
use Rattle.table_write.proofs.HistoryLaws.{newest_appended}
use Rattle.clock.specs.Answers.{number_of}
use Rattle.clock.specs.Events.{with_base, disconnected, Event}
use Rattle.clock.specs.declared.state.Clock.{Clock}
use Rattle.clock.proofs.EventLaws.{Seconds, refuses_2, refuses_7, rises, Changed, changes, seconds_is, switches_is, disconnect_is}
use Rattle.update_decide.specs.Accept.{accepted_of, update_record}
use Rattle.update_judge.specs.Proposal.{proposal_at}
use Rattle.update_decide.proofs.AcceptLaws.{record_fits}
use Rattle.update_judge.proofs.ProposalLaws.{proposal_sized}
use Rattle.update.specs.Fault.{fault_record, faulted_of, fault_of}
use Rattle.rows.specs.Reply.{done_b}
use Rattle.update_logged.specs.Theorems.{success_b}
use Rattle.update.specs.TimeUpdate.{update_of}
use Rattle.update_logged.proofs.PromiseLaws.{logged, refused_unchanged}
use Rattle.theorems_reports.proofs.GoodLaws.{fault_loggable}
use Rattle.theorems_reports.specs.World.{World, world, Call, seconds, switches, disconnect, fault, time_update, record_access, notify, world_after, step_by, step_of, run_of}
use Rattle.theorems_reports.specs.Reach.{Good}
use Rattle.carry.specs.Stamp.{no_fault_b}
use Rattle.theorems_stamps.specs.Stamps.{ran_in, ran_of, logged_in, logged_of}
use Rattle.theorems_reports.proofs.ReachLaws.{Turned, same, turns, access_turned, notify_turned, call_good}

-- the times of a Time_Update: received, and just before
abbrev pub new_of : Record → ℕ
new_of (TimeUpdate u) = u.base
new_of (TimeFault f) = 0

abbrev pub old_of : Record → ℕ
old_of (TimeUpdate u) = u.oldbase
old_of (TimeFault f) = 0

unfoldable pub news : List Record → ℕ
news [] = 0
news (r ∷ l) = new_of r + news l

unfoldable pub olds : List Record → ℕ
olds [] = 0
olds (r ∷ l) = old_of r + olds l

-- From v to w the records l were logged and n seconds ran.
pub record Went (v w : World) (l : List Record) (n : ℕ) : Type 0 where
  pub good : Good w
  -- what is held of any history, and then of it with these records
  pub kept : (past : List Record) → held v.table ≡ newest (capacity v.table) past
      → held w.table ≡ newest (capacity w.table) (past ++ l)
  pub capacity : capacity w.table ≡ capacity v.table
  pub number : next w.table ≡ (next v.table + length l) % 65536
  pub law : no_fault_b l ≡ true → w.clock.time.base + olds l ≡ v.clock.time.base + news l + n

news_append : (a b : List Record) → news (a ++ b) ≡ news a + news b
unfolding news
news_append [] b = omega arith
news_append (r ∷ a) b = omega (arith, news_append a b)

olds_append : (a b : List Record) → olds (a ++ b) ≡ olds a + olds b
unfolding olds
olds_append [] b = omega arith
olds_append (r ∷ a) b = omega (arith, olds_append a b)

no_fault_append : (a b : List Record) → no_fault_b (a ++ b) ≡ both (no_fault_b a) (no_fault_b b)
unfolding no_fault_b
no_fault_append [] b = refl
no_fault_append (TimeUpdate u ∷ a) b = no_fault_append a b
no_fault_append (TimeFault f ∷ a) b = refl

number_same : (a b : ℕ) → a ≡ b → a < 65536 → a ≡ (b + 0) % 65536
number_same a b e h = omega arith

-- nothing is logged
stay : (v w : World) (n : ℕ) → Good w → w.table ≡ v.table → w.clock.time.base ≡ v.clock.time.base + n → Went v w [] n
unfolding news olds
stay v w n g e b =
    record {
      good = g;
      kept = λ past k. rw (e, append-nil past) k;
      capacity = ap capacity e;
      number = number_same (next w.table) (next v.table) (ap next e) g.next;
      law = λ h. omega arith;
    }

-- one record is logged
log_one : (v : World) (c : Clock) (r : Record) → Good v → Good (world c (append_of v.table r)) → Fits r
    → (no_fault_b (r ∷ []) ≡ true → c.time.base + old_of r ≡ v.clock.time.base + new_of r) → Went v (world c (append_of v.table r)) (r ∷ []) 0
unfolding news olds
log_one v c r g good f moved =
    let d = sound_head v.table g.sound in
    record {
      good = good;
      kept = λ past k. newest_appended v.table r past d f k;
      capacity = capacity_appended v.table r d;
      number = next_appended v.table r d;
      law = λ h. omega (arith, moved h);
    }

number_add : (a m n : ℕ) → ((a + m) % 65536 + n) % 65536 ≡ (a + (m + n)) % 65536
number_add a m n = omega arith

law_add : (x y z o p n m r s : ℕ) → y + o ≡ x + n + r → z + p ≡ y + m + s → z + (o + p) ≡ x + (n + m) + (r + s)
law_add x y z o p n m r s h k = omega arith

-- one after the other
then : {u v w : World} {l m : List Record} {a b : ℕ} → Went u v l a → Went v w m b → Went u w (l ++ m) (a + b)
then {u} {v} {w} {l} {m} {a} {b} x y =
    record {
      good = y.good;
      kept = λ past k. rw (← append_assoc past l m) (y.kept (past ++ l) (x.kept past k));
      capacity = y.capacity ∙ x.capacity;
      number = rw (length-append l m)
          (y.number ∙ ap (λ (n : ℕ). (n + length m) % 65536) x.number ∙ number_add (next u.table) (length l) (length m));
      law = λ h.
          let q = both_reads (no_fault_b l) (no_fault_b m) (sym (no_fault_append l m) ∙ h) in
          rw (news_append, olds_append) (law_add _ _ _ _ _ _ _ _ _ (x.law q.0) (y.law q.1));
    }

-- call by call
seconds_went : (v : World) (n ran : ℕ) {e : Event} → Seconds v.clock n e → Good (world e.clock v.table)
    → (done_b e.answer ≡ true → ran ≡ n) → (done_b e.answer ≡ false → ran ≡ 0) → Went v (world e.clock v.table) [] ran
unfolding with_base done_b number_of
seconds_went v n ran (refuses_2 h) g done not = let z = not refl in stay v _ ran g refl (omega arith)
seconds_went v n ran (refuses_7 h l) g done not = let z = not refl in stay v _ ran g refl (omega arith)
seconds_went v n ran (rises h l) g done not = let z = done refl in stay v _ ran g refl (omega arith)

changed_went : (v : World) {after : Clock} {e : Event} → Changed v.clock after e → after.time.base ≡ v.clock.time.base
    → Good (world e.clock v.table) → Went v (world e.clock v.table) [] 0
changed_went v (refuses_2 h) b g = stay v _ 0 g refl (omega arith)
changed_went v (changes h) b g = stay v _ 0 g refl (omega arith)

turned_went : {v w : World} → Turned v w → Good w → Went v w [] 0
turned_went {v} same g = stay v v 0 g refl (omega arith)
turned_went {v} (turns r ok l) g = stay v _ 0 g refl (omega arith)

-- a call that takes the table, by the test that it logged r
logs_or_stays : (v w : World) (b : Bool) (r : Record) → (b ≡ true → Went v w (r ∷ []) 0) → (b ≡ false → w ≡ v) → Good w
    → Went v w (pick b (r ∷ []) []) 0
logs_or_stays v w true r h k g = h refl
logs_or_stays v w false r h k g =
    let e = k refl in stay v w 0 g (ap (λ (x : World). x.table) e) (rw e (omega arith))

fault_went : (v : World) (o : List ℕ) → Good v → Good (step_of v (fault o)) → Went v (step_of v (fault o)) (logged_in v (fault o)) 0
unfolding step_by logged_in fault_record faulted_of no_fault_b
fault_went v o g good =
    logs_or_stays v (step_of v (fault o)) (done_b (fault_of v.clock v.table o).reply.answer) (fault_record v.clock (next v.table)) did
    (λ h. ap world_after (refused_unchanged.fault v.clock v.table o h)) good
  where
    did : done_b (fault_of v.clock v.table o).reply.answer ≡ true
        → Went v (step_of v (fault o)) (fault_record v.clock (next v.table) ∷ []) 0
    did h =
        let e = logged.fault v.clock v.table o h in
        rw (e.0, e.1)
        (log_one v (faulted_of v.clock) (fault_record v.clock (next v.table)) g (rw (e.0, e.1) at good)
        (fault_loggable v.clock v.table g.clock g.faults g.next).fits (λ n. absurd (clash false n refl)))

update_went : (v : World) (w o : List ℕ) (hw : Bytes w) → Good v → Good (step_of v (time_update w o hw))
    → Went v (step_of v (time_update w o hw)) (logged_in v (time_update w o hw)) 0
unfolding step_by logged_in update_record accepted_of
update_went v w o hw g good =
    logs_or_stays v (step_of v (time_update w o hw)) (success_b (update_of v.clock v.table w o))
    (update_record v.clock (proposal_at w) (next v.table)) did
    (λ h. let e = logged.else v.clock v.table w o h in rw (e.0, e.1) refl) good
  where
    did : success_b (update_of v.clock v.table w o) ≡ true
        → Went v (step_of v (time_update w o hw)) (update_record v.clock (proposal_at w) (next v.table) ∷ []) 0
    did h =
        let e = logged.taken v.clock v.table w o hw g.faults g.next h in
        rw (e.clock, e.table)
        (log_one v (accepted_of v.clock (proposal_at w)) (update_record v.clock (proposal_at w) (next v.table)) g
        (rw (e.clock, e.table) at good)
        (record_fits v.clock (proposal_at w) (next v.table) g.clock g.faults (proposal_sized w hw) g.next) (λ n. omega arith))

pub went_step : (v : World) (k : Call) → Good v → Went v (step_of v k) (logged_in v k) (ran_in v k)
unfolding step_by logged_in ran_in disconnected
went_step v (seconds n) g =
    seconds_went v n (ran_in v (seconds n)) (seconds_is v.clock n) (call_good v (seconds n) g) (λ h. simp h) (λ h. simp h)
went_step v (switches a b d) g = changed_went v (switches_is v.clock a b d) refl (call_good v (switches a b d) g)
went_step v disconnect g = changed_went v (disconnect_is v.clock) refl (call_good v disconnect g)
went_step v (fault o) g = fault_went v o g (call_good v (fault o) g)
went_step v (time_update w o h) g = update_went v w o h g (call_good v (time_update w o h) g)
went_step v (record_access w o) g = turned_went (access_turned v w o g) (call_good v (record_access w o) g)
went_step v (notify p o) g = turned_went (notify_turned v p o g) (call_good v (notify p o) g)

pub went_run : (ks : List Call) (v : World) → Good v → Went v (run_of v ks) (logged_of v ks) (ran_of v ks)
unfolding run_of logged_of ran_of
went_run [] v g = stay v v 0 g refl (omega arith)
went_run (k ∷ ks) v g = then (went_step v k g) (went_run ks (step_of v k) (call_good v k g))
