-- A running report, as the list of the records it has left, and what one call makes of it.
-- Assumes nothing.
use mathlib.Core.Path.{◌≡◌, refl, sym, ◌∙◌, ap}
use mathlib.Core.Bool.{Bool, true, false}
use mathlib.Core.List.{List, [], ◌∷◌}
use Prim.Native.Nat.{ℕ, ◌+◌, ◌-◌, ◌<◌, ◌≤◌}
use native.Mathlib.Omega.{arith}
use borrow.Author.Tests.{leb-true, leb-false, lt-ltb}
use lib.Dec.{eqb}
use lib.ListN.{length, drop}
use lib.Seq.{take_at}
use Rattle.octets.specs.Choice.{pick}
use Rattle.octets.specs.Parts.{Bytes, over}
use Rattle.octets.proofs.Tests.{both_yes}
use Rattle.filter.specs.declared.filter.Filter.{Filter}
use Rattle.record_write.specs.Layout.{bytes_of}
use Rattle.record_read.specs.Reading.{read_of}
use Rattle.record.specs.declared.kinds.Record.{Record}
use Rattle.table.specs.Table.{count, held, age_of, sound_b}
use Rattle.table_look.specs.Matching.{matching}
use Rattle.clock.specs.State.{with_running}
use Rattle.clock.specs.Answers.{number_of}
use Rattle.clock.specs.Obeys.{clock_b, running_b}
use Rattle.clock.specs.declared.state.Clock.{Clock}
use Rattle.clock.proofs.RuleLaws.{clock_reads, running_reads, running_makes}
use Rattle.clock.proofs.EventLaws.{with_running_obeys}
use Rattle.rows.specs.Reply.{done_b}
use Rattle.rows.specs.Rows.{first_failed, left_b, whole_b, table_rows}
use Rattle.rows.specs.Rows as rows
use Rattle.rows.proofs.RowLaws.{left_held}
use Rattle.codes.specs.Response.{code_bytes, count_bytes}
use Rattle.codes.specs.declared.response.Code.TheVariants.{Success}
use Rattle.racp_access.specs.Report.{report, first_bytes, left_from}
use Rattle.racp_notify.specs.Notify.{room_b, notify_rows, counter_after, last_b, segment_of, left_after, closing_of, Said, said_of, Notice, unsaid, noticed, running_notice, notify_of}
use Rattle.theorems_reports.specs.World.{world, notify, step_by, step_of}
use Rattle.theorems_reports.specs.Hearing.{nothing, segment, closing, heard_in, heard_by, heard_of}
use Rattle.theorems_reports.proofs.HeldLaws.{Here, Stands, none, some, left_stands}
use Rattle.std.proofs.Common.{None, Option, Some, Err}
use Rattle.clock.specs.declared.answers.Refusal.TheVariants.{OutputShort}

-- what a notification says is what is heard
heard_noticed : (s : Said) (o : List ℕ) → heard_in (noticed s o) ≡ pick s.closes (closing s.bytes) (segment s.bytes)
unfolding heard_in noticed over done_b number_of
heard_noticed s o =
    ap (λ (b : List ℕ). pick s.closes (closing b) (segment b)) (take_at s.bytes (drop (0 + length s.bytes) o) (length s.bytes) refl)

pub heard_unsaid : (c : Clock) (o : List ℕ) → heard_in (unsaid (Err OutputShort) c o) ≡ nothing
unfolding heard_in done_b number_of
heard_unsaid c o = refl

module _ (t : List ℕ) (sd : sound_b t ≡ true) (hb : Bytes t) (opcode : ℕ) (f : Filter) where
  -- k is the report's counter; of the first of the records l that it has left, `sent` bytes are sent
  pub record Runs (c : Clock) (k sent : ℕ) (l : List Record) : Type 0 where
    pub clock : clock_b c ≡ true
    pub rest : Option (ℕ × ℕ)
    pub running : c.running ≡ Some (report opcode f k rest)
    pub stands : Stands t sd f rest sent l

  pub left_ok : {rest : Option (ℕ × ℕ)} {sent : ℕ} {l : List Record} → Stands t sd f rest sent l → left_b t f rest ≡ true
  unfolding left_b
  left_ok none = refl
  left_ok (some {number} {sent} {x} {rest} h) =
      left_held t f number sent x (drop (age_of t number + 1) (held t)) h.inside h.here
      ∙ both_yes h.matches ∙ lt-ltb sent (length (bytes_of x)) h.unsent

  -- row 2 holds
  whole : {c : Clock} {k sent : ℕ} {l : List Record} → Runs c k sent l → whole_b c t ≡ true
  unfolding whole_b rows.running_whole_b
  whole r = both_yes r.clock ∙ rw r.running (left_ok r.stands)

  -- the report goes on with other records left
  goes_on : {c : Clock} {k sent m : ℕ} {l ls : List Record} (rest : Option (ℕ × ℕ)) → Runs c k sent l → Stands t sd f rest m ls
      → Runs (with_running c (Some (report opcode f (counter_after k) rest))) (counter_after k) m ls
  goes_on {c} {k} rest r s =
      let e = running_reads _ (ap running_b (sym r.running) ∙ (clock_reads c r.clock).running) in
      record {
        clock = with_running_obeys c _ r.clock (running_makes (report opcode f (counter_after k) rest) (record {
          opcode = e.opcode;
          counter = omega arith;
        }));
        rest = rest;
        running = refl;
        stands = s;
      }

  notify_done : {c : Clock} {k sent : ℕ} {l : List Record} (p : ℕ) (o : List ℕ) (r : Runs c k sent l) → room_b p (length o) ≡ true
      → notify_of c t p o ≡ noticed (said_of c t (p - 1) (report opcode f k r.rest) r.rest) o
  unfolding notify_of notify_rows table_rows first_failed done_b number_of running_notice
  notify_done p o r room = rw (sd, whole r, room, r.running)

  pub notify_short : {c : Clock} {k sent : ℕ} {l : List Record} (p : ℕ) (o : List ℕ) (r : Runs c k sent l) → room_b p (length o) ≡ false
      → notify_of c t p o ≡ unsaid (Err OutputShort) c o
  unfolding notify_of notify_rows table_rows first_failed done_b number_of
  notify_short p o r room = rw (sd, whole r, room)

  -- what a closing response says
  unfoldable pub ending : List ℕ
  ending = pick (eqb opcode 7) (count_bytes 8 (length (matching f t))) (code_bytes 1 Success)

  -- a notification with a body of q bytes: the closing response where no record is left, else a segment of the first one
  pub data Told (c : Clock) (p : ℕ) (o : List ℕ) (k sent : ℕ) : List Record → Type 0 where
    closes : heard_of (world c t) (notify p o) ≡ closing ending → Told c p o k sent []
    last : {x : Record} {rest : List Record} {d : Clock} → sent < length (bytes_of x) → read_of (bytes_of x) ≡ Some x → length (bytes_of x) ≤ sent + (p - 1)
        → heard_of (world c t) (notify p o) ≡ segment (segment_of (p - 1) sent k (bytes_of x))
        → step_of (world c t) (notify p o) ≡ world d t → Runs d (counter_after k) 0 rest → Told c p o k sent (x ∷ rest)
    more : {x : Record} {rest : List Record} {d : Clock} → sent < length (bytes_of x) → read_of (bytes_of x) ≡ Some x → sent + (p - 1) < length (bytes_of x)
        → heard_of (world c t) (notify p o) ≡ segment (segment_of (p - 1) sent k (bytes_of x))
        → step_of (world c t) (notify p o) ≡ world d t → Runs d (counter_after k) (sent + (p - 1)) (x ∷ rest) → Told c p o k sent (x ∷ rest)

  module _ {c : Clock} {k sent : ℕ} {l : List Record} (p : ℕ) (o : List ℕ) (r : Runs c k sent l) (room : room_b p (length o) ≡ true) where
    heard_is : heard_of (world c t) (notify p o)
        ≡ (let s = said_of c t (p - 1) (report opcode f k r.rest) r.rest in pick s.closes (closing s.bytes) (segment s.bytes))
    unfolding heard_by
    heard_is = ap heard_in (notify_done p o r room) ∙ heard_noticed (said_of c t (p - 1) (report opcode f k r.rest) r.rest) o

    step_is : step_of (world c t) (notify p o) ≡ world (said_of c t (p - 1) (report opcode f k r.rest) r.rest).clock t
    unfolding step_by noticed
    step_is = ap (λ (n : Notice). world n.reply.clock t) (notify_done p o r room)

  told_closes : {c : Clock} {k sent : ℕ} {l : List Record} (p : ℕ) (o : List ℕ) (r : Runs c k sent l) → room_b p (length o) ≡ true
      → r.rest ≡ None → heard_of (world c t) (notify p o) ≡ closing ending
  unfolding said_of closing_of ending
  told_closes p o r room e = rw e at (heard_is p o r room)

  -- of the record that is next
  module _ {c : Clock} {k sent : ℕ} {l : List Record} (p : ℕ) (o : List ℕ) (r : Runs c k sent l) (room : room_b p (length o) ≡ true) (number : ℕ)
      (x : Record) (rest : List Record) (h : Here t sd f number sent x rest) (e : r.rest ≡ Some (number, sent)) where
    bytes_here : first_bytes (drop (age_of t number) (held t)) ≡ bytes_of x
    unfolding first_bytes
    bytes_here = ap first_bytes h.here

    heard_segment : heard_of (world c t) (notify p o) ≡ segment (segment_of (p - 1) sent k (bytes_of x))
    unfolding said_of
    heard_segment = rw (e, bytes_here) at (heard_is p o r room)

    step_segment : step_of (world c t) (notify p o)
        ≡ world (with_running c (Some (report opcode f (counter_after k) (left_after f t (p - 1) number sent (bytes_of x))))) t
    unfolding said_of
    step_segment = rw (e, bytes_here) at (step_is p o r room)

    told_segment : (b : Bool) → last_b (p - 1) sent (bytes_of x) ≡ b → Told c p o k sent (x ∷ rest)
    unfolding left_after
    told_segment true q =
        let s : Stands t sd f (left_from f t (age_of t number + 1)) 0 rest =
        rw h.later (left_stands t sd f hb (count t) (age_of t number + 1) (omega arith)) in
        last h.unsent h.reads (leb-true _ _ q) heard_segment (rw q at step_segment) (goes_on _ r s)
    told_segment false q =
        let u : sent + (p - 1) < length (bytes_of x) = leb-false _ _ q in
        let s : Here t sd f number (sent + (p - 1)) x rest =
        record { inside = h.inside; here = h.here; matches = h.matches; later = h.later; unsent = u; reads = h.reads } in
        more h.unsent h.reads u heard_segment (rw q at step_segment) (goes_on _ r (some s))

  pub told : {c : Clock} {k sent : ℕ} {l : List Record} (p : ℕ) (o : List ℕ) (r : Runs c k sent l) → room_b p (length o) ≡ true → Told c p o k sent l
  told {c} {k} p o r room = go r refl r.stands
    where
      go : {sent : ℕ} {l : List Record} {rest : Option (ℕ × ℕ)} (r : Runs c k sent l) → r.rest ≡ rest → Stands t sd f rest sent l → Told c p o k sent l
      go r e none = closes (told_closes p o r room e)
      go r e (some {number} {sent} {x} {rest} h) = told_segment p o r room number x rest h e _ refl
