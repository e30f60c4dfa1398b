-- A report among other calls closes: by induction over the calls, with the bytes and the segments still to come.
-- Assumes nothing.
use mathlib.Core.Path.{◌≡◌, refl, sym, ◌∙◌, ap}
use mathlib.Core.Bool.{true, false}
use mathlib.Core.List.{List, [], ◌∷◌, ◌++◌, append_assoc}
use Prim.Native.Nat.{ℕ, suc, ◌+◌, ◌-◌, ◌<◌, ◌≤◌}
use native.Mathlib.Omega.{arith}
use borrow.Author.Tests.{eqb-true, le-leb, le-ltb}
use lib.Dec.{leb, ltb, eqb}
use lib.ListN.{length, take, drop, length-take, length-drop, take-append-drop}
use lib.Seq.{take_all, drop-drop}
use Rattle.octets.specs.Parts.{Bytes}
use Rattle.octets.proofs.Tests.{clash, both_reads, both_yes, false_by}
use Rattle.filter.specs.declared.filter.Filter.{Filter}
use Rattle.record_write.specs.Layout.{bytes_of}
use Rattle.record.specs.declared.kinds.Record.{Record}
use Rattle.table.specs.Table.{sound_b}
use Rattle.clock.specs.declared.state.Clock.{Clock}
use Rattle.racp_notify.specs.Notify.{bit, room_b, segment_of}
use Rattle.theorems_reports.specs.World.{World, world, Call, seconds, switches, disconnect, fault, time_update, record_access, notify, step_of}
use Rattle.theorems_reports.specs.Hearing.{nothing, segment, closing, heard_of, Hearing, hearing, onward, hearing_by, hearing_of, undisturbed_b}
use Rattle.theorems_reports.specs.Reports.{asking_b, Exact}
use Rattle.theorems_reports.specs.Closing.{size_in, heard_b, answered_in, asked_in, all_of_b, all_bytes, bodies, bodied_b, Begins, ClosesIn}
use Rattle.theorems_reports.proofs.RunLaws.{Runs, Told, closes, last, more, told}
use Rattle.theorems_reports.proofs.StepLaws.{Step, still, asked, ended, step}
use Rattle.theorems_reports.proofs.HeardLaws.{room_reads, hears, closing_heard, undisturbed_still, undisturbed_ended, undisturbed_segment}
use Rattle.theorems_reports.proofs.CloseLaws.{todo, todo_all, todo_last, todo_more, fewer, fewer_last, one_more}

-- one call, given what is heard of it and the world after
module _ (v w : World) (a : Call) (ks : List Call) where
  answered_still : heard_of v a ≡ nothing → step_of v a ≡ w → answered_in v (a ∷ ks) ≡ answered_in w ks
  unfolding answered_in
  answered_still e s = rw (e, s)

  answered_segment : (b : List ℕ) → heard_of v a ≡ segment b → step_of v a ≡ w → answered_in v (a ∷ ks) ≡ size_in a ∷ answered_in w ks
  unfolding answered_in
  answered_segment b e s = rw (e, s)

  answered_closing : (b : List ℕ) → heard_of v a ≡ closing b → answered_in v (a ∷ ks) ≡ size_in a ∷ []
  unfolding answered_in
  answered_closing b e = rw e

  asked_still : heard_of v a ≡ nothing → step_of v a ≡ w → asking_b a ≡ false → asked_in v (a ∷ ks) ≡ asked_in w ks
  unfolding asked_in
  asked_still e s q = rw (e, s, q)

  asked_segment : (b : List ℕ) → heard_of v a ≡ segment b → step_of v a ≡ w → asking_b a ≡ true → asked_in v (a ∷ ks) ≡ size_in a ∷ asked_in w ks
  unfolding asked_in
  asked_segment b e s q = rw (e, s, q)

  asked_closing : (b : List ℕ) → heard_of v a ≡ closing b → asking_b a ≡ true → asked_in v (a ∷ ks) ≡ size_in a ∷ []
  unfolding asked_in
  asked_closing b e q = rw (e, q)

-- bytes still to come, with `sent` of the first record's sent
unfoldable left : ℕ → List Record → List ℕ
left sent [] = []
left sent (x ∷ l) = drop sent (bytes_of x) ++ all_bytes l

left_all : (l : List Record) → left 0 l ≡ all_bytes l
unfolding left all_bytes
left_all [] = refl
left_all (x ∷ l) = refl

left_last : (q sent : ℕ) (x : Record) (l : List Record) → length (bytes_of x) ≤ sent + q → left sent (x ∷ l) ≡ take q (drop sent (bytes_of x)) ++ left 0 l
unfolding left
left_last q sent x l h =
    rw (left_all l, take_all q (drop sent (bytes_of x)) (rw length-drop (omega arith)))

left_more : (q sent : ℕ) (x : Record) (l : List Record) → left sent (x ∷ l) ≡ take q (drop sent (bytes_of x)) ++ left (sent + q) (x ∷ l)
unfolding left
left_more q sent x l =
    ap (λ (b : List ℕ). b ++ all_bytes l) (sym (take-append-drop q (drop sent (bytes_of x))))
    ∙ rw (drop-drop q sent (bytes_of x)) (append_assoc (take q (drop sent (bytes_of x))) (drop (sent + q) (bytes_of x)) (all_bytes l))

-- what is told of a report with `sent` bytes of the first of the records l sent: ps are the answered, qs the asked
record Goes (sent : ℕ) (l : List Record) (ps qs : List ℕ) (h : Hearing) : Type 0 where
  answered : ps ≡ qs
  each : length ps ≡ length h.notes + bit h.closed
  exact : (p : ℕ) → all_of_b p ps ≡ true → Exact (todo (p - 1) sent l) (length ps) h
  bodied : bodied_b h.notes ≡ true
  sends : Begins (bodies h.notes) (left sent l)
  all : h.closed ≡ true → bodies h.notes ≡ left sent l
  latest : todo 19 sent l < length ps → h.closed ≡ true
  earliest : h.closed ≡ true → length l < length ps

goes_none : (sent : ℕ) (l : List Record) → Goes sent l [] [] (hearing [] false [])
unfolding bodied_b bodies
goes_none sent l =
    record {
      answered = refl;
      each = refl;
      exact = λ p a. record { closed = sym (le-ltb (todo (p - 1) sent l) 0 (omega arith)); notes = λ n. omega arith };
      bodied = refl;
      sends = record { rest = left sent l; is = refl };
      all = λ c. absurd (clash false c refl);
      latest = λ n. absurd (omega arith);
      earliest = λ c. absurd (clash false c refl);
    }

goes_closed : (sent p : ℕ) (b : List ℕ) → Goes sent [] (p ∷ []) (p ∷ []) (hearing [] true b)
unfolding bodied_b bodies left todo
goes_closed sent p b =
    record {
      answered = refl;
      each = refl;
      exact = λ p a. record { closed = refl; notes = λ n. refl };
      bodied = refl;
      sends = record { rest = []; is = refl };
      all = λ c. refl;
      latest = λ n. refl;
      earliest = λ c. omega arith;
    }

size_reads : (p q : ℕ) (l : List ℕ) → all_of_b p (q ∷ l) ≡ true → (q ≡ p) × (all_of_b p l ≡ true)
unfolding all_of_b
size_reads p q l h = let x = both_reads (eqb q p) (all_of_b p l) h in (eqb-true q p x.0, x.1)

bodied_more : (q sent k : ℕ) (b : List ℕ) (ns : List (List ℕ)) → 0 < q → sent < length b → bodied_b ns ≡ true
    → bodied_b (segment_of q sent k b ∷ ns) ≡ true
unfolding bodied_b segment_of
bodied_more q sent k b ns a h s =
    both_yes (le-leb 2 (suc (length (take q (drop sent b)))) (rw (length-take, length-drop) (omega arith))) ∙ s

module _ (p sent k : ℕ) (x : Record) (l : List Record) (ps qs : List ℕ) (h : Hearing) (room : 20 ≤ p) (unsent : sent < length (bytes_of x)) where
  -- a segment in front: the last of a record, or another
  goes_last : length (bytes_of x) ≤ sent + (p - 1) → Goes 0 l ps qs h
      → Goes sent (x ∷ l) (p ∷ ps) (p ∷ qs) (onward (segment (segment_of (p - 1) sent k (bytes_of x))) h)
  unfolding bodies segment_of
  goes_last e g =
      record {
        answered = ap (λ (r : List ℕ). p ∷ r) g.answered;
        each = omega (arith, g.each);
        exact = λ q a. let z = size_reads q p ps a in
            rw (todo_last (q - 1) sent x l unsent (omega (arith, z.0))) (one_more _ _ _ h (g.exact q z.1));
        bodied = bodied_more (p - 1) sent k (bytes_of x) h.notes (omega arith) unsent g.bodied;
        sends = record {
          rest = g.sends.rest;
          is = rw (left_last (p - 1) sent x l e, append_assoc) (ap (λ (r : List ℕ). take (p - 1) (drop sent (bytes_of x)) ++ r) g.sends.is);
        };
        all = λ c. rw (left_last (p - 1) sent x l e, g.all c);
        latest = λ n. g.latest (omega (arith, fewer_last 19 sent x l));
        earliest = λ c. omega (arith, g.earliest c);
      }

  goes_more : sent + (p - 1) < length (bytes_of x) → Goes (sent + (p - 1)) (x ∷ l) ps qs h
      → Goes sent (x ∷ l) (p ∷ ps) (p ∷ qs) (onward (segment (segment_of (p - 1) sent k (bytes_of x))) h)
  unfolding bodies segment_of
  goes_more e g =
      record {
        answered = ap (λ (r : List ℕ). p ∷ r) g.answered;
        each = omega (arith, g.each);
        exact = λ q a. let z = size_reads q p ps a in
            rw (← z.0) (rw (todo_more (p - 1) sent x l (omega arith) e) (one_more _ _ _ h (g.exact p (rw z.0 z.1))));
        bodied = bodied_more (p - 1) sent k (bytes_of x) h.notes (omega arith) unsent g.bodied;
        sends = record {
          rest = g.sends.rest;
          is = rw (left_more (p - 1) sent x l, append_assoc) (ap (λ (r : List ℕ). take (p - 1) (drop sent (bytes_of x)) ++ r) g.sends.is);
        };
        all = λ c. rw (left_more (p - 1) sent x l, g.all c);
        latest = λ n. g.latest (omega (arith, fewer 19 sent x l p room e));
        earliest = λ c. omega (arith, g.earliest c);
      }

module _ (t : List ℕ) (sd : sound_b t ≡ true) (hb : Bytes t) (opcode : ℕ) (f : Filter) where
  abbrev Later : List Call → Type 0
  Later ks = (c : Clock) (k sent : ℕ) (l : List Record) → Runs t sd hb opcode f c k sent l → undisturbed_b (world c t) ks ≡ true
      → Goes sent l (answered_in (world c t) ks) (asked_in (world c t) ks) (hearing_of (world c t) ks)

  -- what is not heard was no asking
  heard_told : {c : Clock} {p : ℕ} {o : List ℕ} {k sent : ℕ} {l : List Record} → Told t sd hb opcode f c p o k sent l
      → heard_b (heard_of (world c t) (notify p o)) ≡ true
  heard_told (closes e) = ap heard_b e
  heard_told (last unsent reads b e1 e2 r) = ap heard_b e1
  heard_told (more unsent reads b e1 e2 r) = ap heard_b e1

  unasked : {c : Clock} {k sent : ℕ} {l : List Record} (a : Call) → Runs t sd hb opcode f c k sent l → heard_of (world c t) a ≡ nothing
      → asking_b a ≡ false
  unfolding asking_b
  unasked (seconds n) r e = refl
  unasked (switches x y z) r e = refl
  unasked disconnect r e = refl
  unasked (fault o) r e = refl
  unasked (time_update w o b) r e = refl
  unasked (record_access w o) r e = refl
  unasked {c} (notify p o) r e =
      false_by (room_b p (length o)) (λ h. clash (heard_b (heard_of (world c t) (notify p o))) (heard_told (told t sd hb opcode f p o r h)) (ap heard_b e))

  asks_room : (p : ℕ) (o : List ℕ) → room_b p (length o) ≡ true → asking_b (notify p o) ≡ true
  unfolding asking_b
  asks_room p o h = h

  module _ {c : Clock} {k : ℕ} (ks : List Call) (later : Later ks) where
    goes_step : {a : Call} {sent : ℕ} {l : List Record} → Runs t sd hb opcode f c k sent l → Step t sd hb opcode f c k sent l a
        → undisturbed_b (world c t) (a ∷ ks) ≡ true
        → Goes sent l (answered_in (world c t) (a ∷ ks)) (asked_in (world c t) (a ∷ ks)) (hearing_of (world c t) (a ∷ ks))
    goes_step {a} r0 (still {d = d} e1 e2 r) u =
        rw (
          hears (world c t) (world d t) a ks nothing e1 e2,
          answered_still (world c t) (world d t) a ks e1 e2,
          asked_still (world c t) (world d t) a ks e1 e2 (unasked a r0 e1),
        )
        (later d _ _ _ r (undisturbed_still (world c t) (world d t) a ks e1 e2 u))
    goes_step {a} r0 (ended e i n) u = absurd (undisturbed_ended (world c t) (world c t) a ks e i u)
    goes_step {a} {sent} r0 (asked {p} {o} room (closes e)) u =
        rw (
          closing_heard (world c t) (world c t) a ks _ e,
          answered_closing (world c t) (world c t) a ks _ e,
          asked_closing (world c t) (world c t) a ks _ e (asks_room p o room),
        )
        (goes_closed sent p _)
    goes_step {a} {sent} r0 (asked {p} {o} room (last {x} {rest} {d} unsent reads h e1 e2 r)) u =
        rw (
          hears (world c t) (world d t) a ks _ e1 e2,
          answered_segment (world c t) (world d t) a ks _ e1 e2,
          asked_segment (world c t) (world d t) a ks _ e1 e2 (asks_room p o room),
        )
        (goes_last p sent k x rest _ _ _ (room_reads p (length o) room) unsent h
        (later d _ _ _ r (undisturbed_segment (world c t) (world d t) a ks _ e1 e2 u)))
    goes_step {a} {sent} r0 (asked {p} {o} room (more {x} {rest} {d} unsent reads h e1 e2 r)) u =
        rw (
          hears (world c t) (world d t) a ks _ e1 e2,
          answered_segment (world c t) (world d t) a ks _ e1 e2,
          asked_segment (world c t) (world d t) a ks _ e1 e2 (asks_room p o room),
        )
        (goes_more p sent k x rest _ _ _ (room_reads p (length o) room) unsent h
        (later d _ _ _ r (undisturbed_segment (world c t) (world d t) a ks _ e1 e2 u)))

  goes : (ks : List Call) → Later ks
  unfolding hearing_by answered_in asked_in
  goes [] c k sent l r u = goes_none sent l
  goes (a ∷ ks) c k sent l r u = goes_step ks (goes ks) r (step t sd hb opcode f r a) u

  pub closes_among : (ks : List Call) (c : Clock) (l : List Record) → Runs t sd hb opcode f c 0 0 l → undisturbed_b (world c t) ks ≡ true
      → ClosesIn l (world c t) ks
  closes_among ks c l r u =
      let g = goes ks c 0 0 l r u in
      record {
        answered = g.answered;
        each = g.each;
        exact = λ p a. rw (← todo_all (p - 1) l) (g.exact p a);
        bodied = g.bodied;
        sends = record { rest = g.sends.rest; is = g.sends.is ∙ left_all l };
        all = λ c. g.all c ∙ left_all l;
        latest = λ n. g.latest (rw (todo_all 19 l) n);
        earliest = g.earliest;
      }
