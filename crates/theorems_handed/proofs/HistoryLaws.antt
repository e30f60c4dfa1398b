-- Every segment of a history is of a report that was accepted, before its ending: by induction over the calls, with no report running and with one.
-- Assumes nothing.
use mathlib.Core.Path.{◌≡◌, refl, sym, ◌∙◌, ap}
use mathlib.Core.Bool.{Bool, true, false}
use mathlib.Core.List.{List, [], ◌∷◌, ◌++◌}
use Prim.Native.Nat.{ℕ}
use Rattle.octets.specs.Parts.{Bytes}
use Rattle.filter.specs.declared.filter.Filter.{Filter}
use Rattle.record.specs.declared.kinds.Record.{Record}
use Rattle.table.specs.Table.{sound_b}
use Rattle.clock.specs.State.{new_reader}
use Rattle.clock.specs.declared.state.Clock.{Clock}
use Rattle.rows.specs.Rows.{idle_b}
use Rattle.update.specs.Start.{new_reader_of}
use Rattle.racp_request.specs.Request.{opcode_in}
use Rattle.theorems_reports.specs.World.{World, world, new_world, Call, record_access, notify, step_of}
use Rattle.theorems_reports.specs.Hearing.{Heard, nothing, segment, heard_by, heard_of}
use Rattle.theorems_reports.specs.Reach.{Good}
use Rattle.theorems_reports.proofs.RunLaws.{Runs, closes, last, more}
use Rattle.theorems_reports.proofs.StepLaws.{Step, still, asked, ended, step}
use Rattle.theorems_reports.proofs.BeginLaws.{accepted}
use Rattle.theorems_reports.proofs.GoodLaws.{sound_size, new_good}
use Rattle.theorems_reports.proofs.ReachLaws.{call_good}
use Rattle.theorems_handed.specs.Server.{AnyCall, start, call, right, after_of, heard_to, Accepts, begins}
use Rattle.theorems_handed.specs.Handed.{Course, course_by}
use Rattle.theorems_handed.specs.History.{segment_then, notes_by, begins_b, courses_by, notes_in}
use Rattle.theorems_handed.proofs.HandLaws.{course_of, course_goes, course_stops, course_segment, course_closes, course_starts, quiet_notify, still_quiet, is_accepted, begins_is}
use Rattle.theorems_handed.proofs.RestLaws.{rests, Beginner, starts, begins_reads, busy_begins, closing_idle}

abbrev said : World → List AnyCall → List (List ℕ)
said = notes_by right

abbrev told : World → List AnyCall → List (List ℕ)
told v ks = notes_in (courses_by right v ks)

-- one call, given what is heard of it, the world after, and whether it begins a report
module _ (v w : World) (a : Call) (ks : List AnyCall) where
  said_one : (x : Heard) → heard_of v a ≡ x → step_of v a ≡ w → said v (call a ∷ ks) ≡ segment_then x (said w ks)
  unfolding notes_by after_of heard_to
  said_one x h s = rw (h, s)

  told_none : begins_b right v (call a) ≡ false → step_of v a ≡ w → told v (call a ∷ ks) ≡ told w ks
  unfolding courses_by after_of
  told_none b s = rw (b, s)

  told_one : begins_b right v (call a) ≡ true → step_of v a ≡ w → told v (call a ∷ ks) ≡ (course_of w ks).notes ++ told w ks
  unfolding courses_by notes_in after_of
  told_one b s = rw (b, s)

module _ (v : World) (ks : List AnyCall) where
  said_start : said v (start ∷ ks) ≡ said (new_world v.table) ks
  unfolding notes_by after_of heard_to
  said_start = refl

  told_start : told v (start ∷ ks) ≡ told (new_world v.table) ks
  unfolding courses_by begins_b after_of
  told_start = refl

-- a started reader runs no report
pub new_idle : (t : List ℕ) → idle_b (new_world t).clock.running ≡ true
unfolding new_reader_of new_reader
new_idle t = refl

begun_good : (v : World) (w o : List ℕ) → Good v → Good (begins right v w o)
unfolding after_of
begun_good v w o g = call_good v (record_access w o) g

abbrev Resting : List AnyCall → Type 0
Resting ks = (v : World) → Good v → idle_b v.clock.running ≡ true → said v ks ≡ told v ks

abbrev Running : List AnyCall → Type 0
Running ks = (t : List ℕ) (sd : sound_b t ≡ true) (hb : Bytes t) (opcode : ℕ) (f : Filter) (c : Clock) (k sent : ℕ) (l : List Record)
    → Good (world c t) → Runs t sd hb opcode f c k sent l → said (world c t) ks ≡ (course_of (world c t) ks).notes ++ told (world c t) ks

module _ (ks : List AnyCall) (resting : Resting ks) (running : Running ks) where
  start_on : (v : World) → Good v → said v (start ∷ ks) ≡ told v (start ∷ ks)
  start_on v g = said_start v ks ∙ resting (new_world v.table) (new_good v.table (sound_size v.table g.sound)) (new_idle v.table) ∙ sym (told_start v ks)

  -- a report that is accepted
  begins_on : (v : World) (w o : List ℕ) (f : Filter) → Good v → Accepts right v w o f
      → said (begins right v w o) ks ≡ (course_of (begins right v w o) ks).notes ++ told (begins right v w o) ks
  begins_on v w o f g a =
      let z = accepted v w o f g.bytes (is_accepted v w o f a) in
      let h : Good (world z.clock v.table) = rw (begins_is v w o ∙ z.is) at (begun_good v w o g) in
      rw (begins_is v w o ∙ z.is) (running v.table z.sound g.bytes (opcode_in w) f z.clock _ _ _ h z.runs)

  rests_on : (v : World) (a : Call) → Good v → idle_b v.clock.running ≡ true → (b : Bool) → begins_b right v (call a) ≡ b
      → said v (call a ∷ ks) ≡ told v (call a ∷ ks)
  unfolding heard_by after_of
  rests_on v a g i false b =
      let r = rests v g i a b in
      said_one v _ a ks nothing r.silent refl ∙ resting (step_of v a) (call_good v a g) r.idle ∙ sym (told_none v _ a ks b refl)
  rests_on v a g i true b = go (begins_reads v a b) b
    where
      go : {x : Call} → Beginner v x → begins_b right v (call x) ≡ true → said v (call x ∷ ks) ≡ told v (call x ∷ ks)
      go (starts {w} {o} f y) b =
          said_one v _ (record_access w o) ks nothing refl refl
          ∙ begins_on v w o f g y
          ∙ sym (told_one v _ (record_access w o) ks b refl)

module _ (ks : List AnyCall) (resting : Resting ks) (running : Running ks)
    (t : List ℕ) (sd : sound_b t ≡ true) (hb : Bytes t) (opcode : ℕ) (f : Filter) where
  abbrev Goes : List AnyCall → Clock → Type 0
  Goes all c = said (world c t) all ≡ (course_of (world c t) all).notes ++ told (world c t) all

  module _ {c : Clock} {k sent : ℕ} {l : List Record} (g : Good (world c t)) (r : Runs t sd hb opcode f c k sent l) where
    unbegun : (a : Call) → begins_b right (world c t) (call a) ≡ false
    unbegun a = busy_begins c t a (ap idle_b r.running)

    -- the report goes on in silence, with a segment, or not at all
    goes_silent : {d : Clock} {m : ℕ} {rest : List Record} (a : Call) → heard_of (world c t) a ≡ nothing → step_of (world c t) a ≡ world d t
        → Runs t sd hb opcode f d k m rest → Goes (call a ∷ ks) c
    goes_silent {d} a e1 e2 s =
        let h : Good (world d t) = rw e2 at (call_good (world c t) a g) in
        rw (
          course_goes (world c t) (world d t) a ks e1 (still_quiet t sd hb opcode f a r e2 s) e2,
          told_none (world c t) (world d t) a ks (unbegun a) e2,
        )
        (said_one (world c t) (world d t) a ks nothing e1 e2 ∙ running t sd hb opcode f d _ _ _ h s)

    goes_segment : {d : Clock} {n m : ℕ} {rest : List Record} (p : ℕ) (o b : List ℕ) → heard_of (world c t) (notify p o) ≡ segment b
        → step_of (world c t) (notify p o) ≡ world d t → Runs t sd hb opcode f d n m rest → Goes (call (notify p o) ∷ ks) c
    goes_segment {d} p o b e1 e2 s =
        let a = notify p o in
        let h : Good (world d t) = rw e2 at (call_good (world c t) a g) in
        rw (
          course_segment (world c t) (world d t) a ks b e1 (quiet_notify (world c t) p o) e2,
          told_none (world c t) (world d t) a ks (unbegun a) e2,
        )
        (said_one (world c t) (world d t) a ks _ e1 e2 ∙ ap (◌∷◌ b) (running t sd hb opcode f d _ _ _ h s))

    goes_no_further : (a : Call) (x : Heard) → heard_of (world c t) a ≡ x → ((n : List (List ℕ)) → segment_then x n ≡ n)
        → idle_b (step_of (world c t) a).clock.running ≡ true → (course_of (world c t) (call a ∷ ks)).notes ≡ [] → Goes (call a ∷ ks) c
    goes_no_further a x e n i s =
        rw (s, told_none (world c t) _ a ks (unbegun a) refl)
        (said_one (world c t) _ a ks x e refl ∙ n _ ∙ resting (step_of (world c t) a) (call_good (world c t) a g) i)

    goes_start : Goes (start ∷ ks) c
    goes_start = rw (course_starts (world c t) ks sd) (start_on ks resting running (world c t) g)

  goes_on : {c : Clock} {k sent : ℕ} {l : List Record} {a : Call} → Good (world c t) → Runs t sd hb opcode f c k sent l
      → Step t sd hb opcode f c k sent l a → Goes (call a ∷ ks) c
  goes_on {a = a} g r (still e1 e2 s) = goes_silent g r a e1 e2 s
  goes_on {c} {a = a} g r (ended e i q) =
      goes_no_further g r a nothing e (λ n. refl) i (ap (λ (x : Course). x.notes) (course_stops (world c t) (world c t) a ks e q))
  goes_on {c} {a = a} g r (asked {p} {o} room (closes e)) =
      goes_no_further g r a _ e (λ n. refl) (closing_idle c t p o _ e)
      (ap (λ (x : Course). x.notes) (course_closes (world c t) (world c t) a ks _ e))
  goes_on g r (asked {p} {o} room (last unsent reads b e1 e2 s)) = goes_segment g r p o _ e1 e2 s
  goes_on g r (asked {p} {o} room (more unsent reads b e1 e2 s)) = goes_segment g r p o _ e1 e2 s

record Both (ks : List AnyCall) : Type 0 where
  resting : Resting ks
  running : Running ks

both_ways : (ks : List AnyCall) → Both ks
unfolding notes_by courses_by notes_in course_by
both_ways [] = record { resting = λ v g i. refl; running = λ t sd hb opcode f c k sent l g r. refl }
both_ways (start ∷ ks) =
    let z = both_ways ks in
    record {
      resting = λ v g i. start_on ks z.resting z.running v g;
      running = λ t sd hb opcode f c k sent l g r. goes_start ks z.resting z.running t sd hb opcode f g r;
    }
both_ways (call a ∷ ks) =
    let z = both_ways ks in
    record {
      resting = λ v g i. rests_on ks z.resting z.running v a g i _ refl;
      running = λ t sd hb opcode f c k sent l g r. goes_on ks z.resting z.running t sd hb opcode f g r (step t sd hb opcode f r a);
    }

pub nothing_else : (v : World) (ks : List AnyCall) → Good v → idle_b v.clock.running ≡ true → notes_by right v ks ≡ notes_in (courses_by right v ks)
nothing_else v ks g i = (both_ways ks).resting v g i

pub after_ending : (v : World) (w o : List ℕ) (f : Filter) (ks : List AnyCall) → Good v → Accepts right v w o f
    → (let u = begins right v w o in notes_by right u ks ≡ (course_by right u ks).notes ++ notes_in (courses_by right u ks))
after_ending v w o f ks g a = let z = both_ways ks in begins_on ks z.resting z.running v w o f g a
