-- What a report hands over: by induction over the calls.
-- Assumes nothing.
use mathlib.Core.Path.{◌≡◌, refl, sym, ◌∙◌, ap}
use mathlib.Core.Bool.{Bool, true, false, not}
use mathlib.Core.List.{List, [], ◌∷◌, ◌++◌, map}
use Prim.Native.Nat.{ℕ, zero, suc, ◌+◌, ◌-◌, ◌≤◌, ◌<◌}
use native.Mathlib.Omega.{arith}
use borrow.Author.Tests.{le-leb, lt-leb, eq-eqb}
use lib.Dec.{eqb}
use lib.ListN.{length, take, drop, length-take, length-drop}
use lib.Seq.{take-add, take_all, length-take-le}
use Rattle.octets.specs.Choice.{pick}
use Rattle.octets.specs.Parts.{Bytes}
use Rattle.octets.proofs.Tests.{clash, both_yes}
use Rattle.filter.specs.declared.filter.Filter.{Filter}
use Rattle.record_write.specs.Layout.{bytes_of}
use Rattle.record.specs.declared.kinds.Record.{Record}
use Rattle.table.specs.Table.{sound_b}
use Rattle.table_look.specs.Matching.{matching}
use Rattle.clock.specs.declared.state.Clock.{Clock}
use Rattle.rows.specs.Rows.{idle_b}
use Rattle.racp_request.specs.Request.{opcode_in}
use Rattle.racp_access.specs.Report.{first_bytes}
use Rattle.racp_notify.specs.Notify.{bit, counter_after, segment_of}
use Rattle.racp_notify.specs.Notify as notices
use Rattle.joining.specs.Joining.{body, filled_b}
use Rattle.theorems_reports.specs.World.{World, world, Call, notify, step_by, step_of}
use Rattle.theorems_reports.specs.Hearing.{nothing, segment, closing, heard_of, calm_b}
use Rattle.theorems_reports.specs.Closing.{answer_of, quiet_b}
use Rattle.theorems_reports.specs.Reports.{Accepted, report_begun}
use Rattle.theorems_reports.proofs.HeldLaws.{Stands, none, some}
use Rattle.theorems_reports.proofs.JoinLaws.{header_first, header_last, header_counter}
use Rattle.theorems_reports.proofs.RunLaws.{Runs, closes, last, more}
use Rattle.theorems_reports.proofs.StepLaws.{Step, still, asked, ended, step}
use Rattle.theorems_reports.proofs.HeardLaws.{room_reads}
use Rattle.theorems_reports.proofs.BeginLaws.{accepted}
use Rattle.theorems_handed.specs.Server.{AnyCall, start, call, right, after_of, answer_to, heard_to, Accepts, begins}
use Rattle.theorems_reports.specs.Endings.{Ending, ongoing, closed}
use Rattle.theorems_handed.specs.Endings.{ending_in}
use Rattle.theorems_handed.specs.Handed.{Course, course, course_by, Handed, handed, first_set_b, last_set_b, fits_b, assembled_from, assembled, Beginning, Complete, HandedFrom}
use Rattle.theorems_handed.proofs.EndLaws.{closed_b, quiet_goes, loud_cuts, loud_idle, start_restarts}
use Rattle.std.proofs.Common.{Option}

abbrev pub course_of : World → List AnyCall → Course
course_of = course_by right

-- small laws of lists
take_none : (n : ℕ) → take {A = ℕ} n [] ≡ []
take_none zero = refl
take_none (suc n) = refl

length_map : {A B : Type 0} (g : A → B) (l : List A) → length (map g l) ≡ length l
length_map g [] = refl
length_map g (x ∷ l) = ap suc (length_map g l)

take_length : (n : ℕ) (l : List ℕ) → take n l ≡ take (length (take n l)) l
take_length zero l = refl
take_length (suc n) [] = refl
take_length (suc n) (x ∷ l) = ap (◌∷◌ x) (take_length n l)

shorter : (n : ℕ) (l u : List ℕ) → u ≡ take n l → n < length l → length u < length l
shorter n l u e h = rw (ap length e ∙ length-take-le n l (omega arith)) h

drop_length : {A : Type 0} (l : List A) → drop (length l) l ≡ []
drop_length [] = refl
drop_length (x ∷ l) = drop_length l

-- the header's bits
bit_back : (b : Bool) → eqb (bit b) 1 ≡ b
bit_back true = refl
bit_back false = refl

in_place : (b : Bool) → pick b b (not b) ≡ true
in_place true = refl
in_place false = refl

-- one segment with a body of q bytes, of a record b with bytes unsent
module _ (b : List ℕ) (sent k q : ℕ) (unsent : sent < length b) (some : 1 ≤ q) where
  first_is : first_set_b (segment_of q sent k b) ≡ eqb sent 0
  unfolding segment_of
  first_is = ap (λ (n : ℕ). eqb n 1) (header_first (eqb sent 0) (notices.last_b q sent b) k) ∙ bit_back (eqb sent 0)

  last_is : last_set_b (segment_of q sent k b) ≡ notices.last_b q sent b
  unfolding segment_of
  last_is = ap (λ (n : ℕ). eqb n 1) (header_last (eqb sent 0) (notices.last_b q sent b) k) ∙ bit_back (notices.last_b q sent b)

  fits : fits_b k (take sent b) (segment_of q sent k b) ≡ true
  unfolding segment_of filled_b
  fits =
      let e : length (take q (drop sent b)) ≡ _ = length-take q (drop sent b) in
      let d = length-drop sent b in
      both_yes (le-leb 2 (length (segment_of q sent k b)) (omega arith))
      ∙ both_yes (eq-eqb _ _ (header_counter (eqb sent 0) (notices.last_b q sent b) k))
      ∙ rw (length-take-le sent b (omega arith), first_is) (in_place (eqb sent 0))

  here : take sent b ++ body (segment_of q sent k b) ≡ take (sent + q) b
  unfolding segment_of
  here = sym (take-add sent q b)

  assembled_last : (ns : List (List ℕ)) → length b ≤ sent + q
      → assembled_from k (take sent b) (segment_of q sent k b ∷ ns)
      ≡ (let x = assembled_from (counter_after k) [] ns in handed (b ∷ x.whole) x.unfinished x.fitting)
  unfolding assembled_from
  assembled_last ns h = rw (last_is, le-leb (length b) (sent + q) h, fits, here, take_all (sent + q) b h)

  assembled_more : (ns : List (List ℕ)) → sent + q < length b
      → assembled_from k (take sent b) (segment_of q sent k b ∷ ns) ≡ assembled_from (counter_after k) (take (sent + q) b) ns
  unfolding assembled_from
  assembled_more ns h = rw (last_is, lt-leb (length b) (sent + q) h, fits, here)

-- THE INVARIANT: of the records l the first `count`, and of the next one the first `sent` bytes; all, where the report is closed.
record Holds (l : List Record) (h : Handed) (e : Ending) : Type 0 where
  count : ℕ
  sent : ℕ
  held : count ≤ length l
  whole : h.whole ≡ take count (map bytes_of l)
  unfinished : h.unfinished ≡ take sent (first_bytes (drop count l))
  short : count < length l → sent < length (first_bytes (drop count l))
  fitting : h.fitting ≡ true
  full : e ≡ closed → count ≡ length l

-- up to here nothing but a part of the first
holds_part : (k : ℕ) (l : List Record) (sent : ℕ) (e : Ending) → (0 < length l → sent < length (first_bytes l)) → closed_b e ≡ false
    → Holds l (assembled_from k (take sent (first_bytes l)) []) e
unfolding assembled_from
holds_part k l sent e h n =
    record {
      count = 0;
      sent = sent;
      held = omega arith;
      whole = refl;
      unfinished = refl;
      short = h;
      fitting = refl;
      full = λ x. absurd (clash true refl (ap closed_b (sym x) ∙ n));
    }

holds_closed : (k sent : ℕ) (e : Ending) → Holds [] (assembled_from k (take sent (first_bytes [])) []) e
unfolding assembled_from
holds_closed k sent e =
    record {
      count = 0;
      sent = sent;
      held = omega arith;
      whole = refl;
      unfinished = refl;
      short = λ h. absurd (omega arith);
      fitting = refl;
      full = λ x. refl;
    }

-- a whole record in front
holds_last : (x : Record) (l : List Record) (h : Handed) (e : Ending) → Holds l h e
    → Holds (x ∷ l) (handed (bytes_of x ∷ h.whole) h.unfinished h.fitting) e
holds_last x l h e s =
    record {
      count = suc s.count;
      sent = s.sent;
      held = omega (arith, s.held);
      whole = ap (◌∷◌ (bytes_of x)) s.whole;
      unfinished = s.unfinished;
      short = λ n. s.short (omega arith);
      fitting = s.fitting;
      full = λ c. ap suc (s.full c);
    }

-- one call, given what is heard of it and the world after
module _ (v w : World) (a : Call) (ks : List AnyCall) where
  pub course_goes : heard_of v a ≡ nothing → quiet_b v a ≡ true → step_of v a ≡ w → course_of v (call a ∷ ks) ≡ course_of w ks
  unfolding course_by after_of heard_to
  course_goes h q s = rw (h, quiet_goes v a q, s)

  pub course_stops : heard_of v a ≡ nothing → quiet_b v a ≡ false → course_of v (call a ∷ ks) ≡ course [] (ending_in right v (call a))
  unfolding course_by heard_to
  course_stops h q = rw (h, (loud_cuts v a q).ended)

  pub course_segment : (b : List ℕ) → heard_of v a ≡ segment b → quiet_b v a ≡ true → step_of v a ≡ w
      → course_of v (call a ∷ ks) ≡ course (b ∷ (course_of w ks).notes) (course_of w ks).ending
  unfolding course_by after_of heard_to
  course_segment b h q s = rw (h, quiet_goes v a q, s)

  pub course_closes : (b : List ℕ) → heard_of v a ≡ closing b → course_of v (call a ∷ ks) ≡ course [] closed
  unfolding course_by heard_to
  course_closes b h = rw h

pub course_starts : (v : World) (ks : List AnyCall) → sound_b v.table ≡ true → course_of v (start ∷ ks) ≡ course [] (ending_in right v start)
unfolding course_by heard_to
course_starts v ks h = rw (start_restarts v h)

pub quiet_notify : (v : World) (p : ℕ) (o : List ℕ) → quiet_b v (notify p o) ≡ true
unfolding calm_b
quiet_notify v p o = refl

abbrev HoldsIn : List Record → ℕ → ℕ → Course → Type 0
HoldsIn l k sent c = Holds l (assembled_from k (take sent (first_bytes l)) c.notes) c.ending

module _ (t : List ℕ) (sd : sound_b t ≡ true) (hb : Bytes t) (opcode : ℕ) (f : Filter) where
  unsent_left : {rest : Option (ℕ × ℕ)} {sent : ℕ} {l : List Record} → Stands t sd f rest sent l → 0 < length l → sent < length (first_bytes l)
  unfolding first_bytes
  unsent_left none h = absurd (omega arith)
  unsent_left (some s) h = s.unsent

  -- while a report runs, a call after which it still does is quiet
  pub still_quiet : {c d : Clock} {k sent m n : ℕ} {l r : List Record} (a : Call) → Runs t sd hb opcode f c k sent l
      → step_of (world c t) a ≡ world d t → Runs t sd hb opcode f d m n r → quiet_b (world c t) a ≡ true
  still_quiet {c} {d} a r e s = go (quiet_b (world c t) a) refl
    where
      go : (b : Bool) → quiet_b (world c t) a ≡ b → quiet_b (world c t) a ≡ true
      go true q = q
      go false q =
          absurd (clash _ (loud_idle (world c t) a r.clock q) (ap (λ (v : World). idle_b v.clock.running) e ∙ ap idle_b s.running))

  -- what the induction gives for the calls that follow
  abbrev Later : List AnyCall → Type 0
  Later ks = (c : Clock) (k sent : ℕ) (l : List Record) → Runs t sd hb opcode f c k sent l → HoldsIn l k sent (course_of (world c t) ks)

  module _ {c : Clock} {k : ℕ} (ks : List AnyCall) (later : Later ks) where
    holds_step : {a : Call} {sent : ℕ} {l : List Record} → Runs t sd hb opcode f c k sent l → Step t sd hb opcode f c k sent l a
        → HoldsIn l k sent (course_of (world c t) (call a ∷ ks))
    unfolding first_bytes
    holds_step {a} r (still {d = d} e1 e2 s) =
        rw (course_goes (world c t) (world d t) a ks e1 (still_quiet a r e2 s) e2) (later d _ _ _ s)
    holds_step {a} {sent} {l} r (ended e i q) =
        rw (course_stops (world c t) (world c t) a ks e q)
        (holds_part k l sent _ (unsent_left r.stands) (loud_cuts (world c t) a q).unclosed)
    holds_step {a} {sent} r (asked room (closes e)) = rw (course_closes (world c t) (world c t) a ks _ e) (holds_closed k sent closed)
    holds_step {a} {sent} r (asked {p} {o} room (last {x} {rest} {d} unsent reads h e1 e2 s)) =
        rw (
          course_segment (world c t) (world d t) a ks _ e1 (quiet_notify (world c t) p o) e2,
          assembled_last (bytes_of x) sent k (p - 1) unsent (omega (arith, room_reads p (length o) room)) _ h,
        )
        (holds_last x rest _ _ (later d _ _ _ s))
    holds_step {a} {sent} r (asked {p} {o} room (more {x} {rest} {d} unsent reads h e1 e2 s)) =
        rw (
          course_segment (world c t) (world d t) a ks _ e1 (quiet_notify (world c t) p o) e2,
          assembled_more (bytes_of x) sent k (p - 1) unsent (omega (arith, room_reads p (length o) room)) _ h,
        )
        (later d _ _ _ s)

    holds_start : {sent : ℕ} {l : List Record} → Runs t sd hb opcode f c k sent l → HoldsIn l k sent (course_of (world c t) (start ∷ ks))
    holds_start {sent} {l} r =
        rw (course_starts (world c t) ks sd)
        (holds_part k l sent _ (unsent_left r.stands) (ap closed_b (start_restarts (world c t) sd)))

  holds : (ks : List AnyCall) → Later ks
  unfolding course_by
  holds [] c k sent l r = holds_part k l sent ongoing (unsent_left r.stands) refl
  holds (start ∷ ks) c k sent l r = holds_start ks (holds ks) r
  holds (call a ∷ ks) c k sent l r = holds_step ks (holds ks) r (step t sd hb opcode f r a)

-- as many as were handed over
whole_count : (l : List Record) (h : Handed) (e : Ending) (b : Holds l h e) → length h.whole ≡ b.count
whole_count l h e b = ap length b.whole ∙ length-take-le b.count (map bytes_of l) (rw (length_map bytes_of l) b.held)

beginning_is : (l : List Record) (h : Handed) (e : Ending) → Holds l h e → Beginning l h
beginning_is l h e b =
    let n = b.count in
    let q = whole_count l h e b in
    let part = first_bytes (drop n l) in
    record {
      held = rw q b.held;
      whole = rw q b.whole;
      unfinished = rw q (b.unfinished ∙ take_length b.sent part ∙ ap (λ (u : List ℕ). take (length u) part) (sym b.unfinished));
      short = rw q (λ x. shorter b.sent part h.unfinished b.unfinished (b.short x));
      fitting = b.fitting;
    }

-- with all of them whole, nothing is unfinished
complete_is : (l : List Record) (h : Handed) → Beginning l h → length h.whole ≡ length l → Complete l h
unfolding first_bytes
complete_is l h b e =
    record {
      whole = b.whole ∙ take_all (length h.whole) (map bytes_of l) (rw (e, length_map bytes_of l) (omega arith));
      unfinished = b.unfinished ∙ rw (e, drop_length l) (take_none (length h.unfinished));
    }

-- an accepted report, as the theorems about reports have it
pub is_accepted : (v : World) (w o : List ℕ) (f : Filter) → Accepts right v w o f → Accepted v w o f
unfolding answer_to answer_of
is_accepted v w o f a = record { asked = a.asked; done = a.done; silent = a.silent }

pub begins_is : (v : World) (w o : List ℕ) → begins right v w o ≡ report_begun v w o
unfolding after_of step_by
begins_is v w o = refl

pub hands_over : (v : World) (w o : List ℕ) (f : Filter) (ks : List AnyCall) → Bytes v.table → Accepts right v w o f
    → HandedFrom (matching f v.table) (course_of (begins right v w o) ks)
unfolding assembled_from
hands_over v w o f ks hb a =
    let l = matching f v.table in
    let b = accepted v w o f hb (is_accepted v w o f a) in
    let s = holds v.table b.sound hb (opcode_in w) f ks b.clock 0 0 l b.runs in
    let n = beginning_is l _ _ s in
    rw (begins_is v w o, b.is)
    (record {
      beginning = n;
      complete = λ c. complete_is l _ n (whole_count l _ _ s ∙ s.full c);
      before = λ e. ap assembled e;
      after = complete_is l _ n;
    })
