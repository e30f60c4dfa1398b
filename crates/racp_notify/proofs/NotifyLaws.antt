-- A notification by whether a row failed and by what is left.
-- Assumes nothing.
use mathlib.Core.Path.{◌≡◌, refl, sym, ap, ◌∙◌}
use mathlib.Core.Bool.{Bool, true, false, not}
use mathlib.Core.List.{List, [], ◌∷◌}
use Prim.Native.Nat.{ℕ, ◌-◌, ◌≤◌}
use borrow.Author.Tests.{leb-true}
use lib.Dec.{leb}
use lib.ListN.{length, drop}
use Rattle.octets.specs.Choice.{both}
use Rattle.octets.specs.Parts.{over}
use Rattle.octets.proofs.Tests.{both_reads}
use Rattle.record_write.specs.Layout.{bytes_of}
use Rattle.record.specs.declared.kinds.Record.{Record}
use Rattle.table.specs.Table.{held, age_of, sound_b}
use Rattle.clock.specs.State.{with_running}
use Rattle.clock.specs.Answers.{number_of, Answer}
use Rattle.clock.specs.declared.state.Clock.{Clock}
use Rattle.clock.specs.declared.state.Report.{Report}
use Rattle.clock.specs.Obeys as rules
use Rattle.clock.proofs.RuleLaws.{clock_reads, running_reads}
use Rattle.rows.specs.Reply.{done_b}
use Rattle.rows.specs.Rows.{row, first_failed, then_of, left_b, running_whole_b, idle_b, table_rows}
use Rattle.rows.proofs.RowLaws.{err_refused, rows_append, table_refuse, TableRows, whole_reads}
use Rattle.racp_access.specs.Report.{report, first_bytes}
use Rattle.racp_notify.specs.Notify.{Notice, room_b, notify_rows, counter_after, segment_of, left_after, said_of, notified_by, notice, unsaid, noticed, running_notice, notify_of}
use Rattle.std.proofs.Common.{None, Option, Some, Result, Err, Ok}
use Rattle.clock.specs.declared.answers.Refusal.{Refusal}
use Rattle.clock.specs.declared.answers.Refusal.TheVariants.{NothingRunning}
use Rattle.racp_notify.specs.declared.notify.Notification.{Notification}

-- a segment of the next record r₀ was laid down, and the report goes on
module _ (c : Clock) (t : List ℕ) (q : ℕ) (r : Report) (n sent : ℕ) (o : List ℕ) (r₀ : Record) (l : List Record) where
  pub said_next : (clock : Clock) (counter : ℕ) (left : Option (ℕ × ℕ)) (len : ℕ) (out : List ℕ) → drop (age_of t n) (held t) ≡ r₀ ∷ l
      → clock ≡ with_running c (Some (report r.opcode r.filter counter left))
      → counter ≡ counter_after r.counter
      → left ≡ left_after r.filter t q n sent (bytes_of r₀)
      → len ≡ length (segment_of q sent r.counter (bytes_of r₀))
      → out ≡ over o 0 (segment_of q sent r.counter (bytes_of r₀))
      → notice (record { answer = Ok tt; closes = false; clock = clock; len = len }) out ≡ noticed (said_of c t q r (Some (n, sent))) o
  unfolding noticed said_of first_bytes
  said_next clock counter left len out e hc hk hl hn ho = rw (hc, hk, hl, hn, ho, e)

-- what is said, by what is left
pub said_left : (c : Clock) (t : List ℕ) (q : ℕ) (r : Report) (o : List ℕ) (l : Option (ℕ × ℕ)) (x : Notice) → r.left ≡ l → x ≡ noticed (said_of c t q r l) o
    → x ≡ noticed (said_of c t q r r.left) o
said_left c t q r o l x h e = e ∙ ap (λ (k : Option (ℕ × ℕ)). noticed (said_of c t q r k) o) (sym h)

-- the first of two answers decides where it is a refusal
then_first : (a b : Answer) → done_b a ≡ false → then_of a b ≡ a
unfolding then_of
then_first a b h = rw h

then_second : (a b : Answer) → done_b a ≡ true → then_of a b ≡ b
unfolding then_of
then_second a b h = rw h

-- row 8
row_8 : Option Report → Answer
row_8 running = first_failed (row (not (idle_b running)) (Err NothingRunning) ∷ [])

idle_8 : row_8 None ≡ Err NothingRunning
unfolding row_8 first_failed
idle_8 = refl

running_8 : (r : Report) → row_8 (Some r) ≡ Ok tt
unfolding row_8 first_failed
running_8 r = refl

not_running : done_b (Err NothingRunning) ≡ false
unfolding done_b number_of
not_running = refl

all_done : done_b (Ok tt) ≡ true
unfolding done_b number_of
all_done = refl

module _ (c : Clock) (t : List ℕ) (p : ℕ) (o : List ℕ) where
  -- rows 1, 2, 3
  abbrev pub tables : Answer
  tables = first_failed (table_rows c t (room_b p (length o)))

  door : first_failed (notify_rows c t p o) ≡ then_of tables (row_8 c.running)
  unfolding notify_rows row_8
  door = sym (rows_append (table_refuse c t (room_b p (length o))) (row (not (idle_b c.running)) (Err NothingRunning) ∷ []))

  pub notify_refused : done_b tables ≡ false → notify_of c t p o ≡ unsaid tables c o
  unfolding notify_of
  notify_refused h = rw (door ∙ then_first tables (row_8 c.running) h, h)

  -- the first three rows' refusal, handed on
  pub notify_stops : (why : Refusal) (r : Result Notification Refusal) → tables ≡ Err why → r ≡ Err why → notice (notified_by r c) o ≡ notify_of c t p o
  notify_stops why r f x = rw x (sym (notify_refused (err_refused tables why f) ∙ ap (λ (y : Answer). unsaid y c o) f))

  pub notify_idle : done_b tables ≡ true → c.running ≡ None → notify_of c t p o ≡ unsaid (Err NothingRunning) c o
  unfolding notify_of
  notify_idle d e =
      let a = door ∙ then_second tables (row_8 c.running) d ∙ ap row_8 e ∙ idle_8 in
      rw (a, not_running)

  module _ (r : Report) (e : c.running ≡ Some r) where
    both_rows : first_failed (notify_rows c t p o) ≡ then_of tables (Ok tt)
    both_rows = door ∙ ap (then_of tables) (ap row_8 e ∙ running_8 r)

    pub notify_said : done_b tables ≡ true → notify_of c t p o ≡ noticed (said_of c t (p - 1) r r.left) o
    unfolding notify_of running_notice
    notify_said h = rw (both_rows ∙ then_second tables (Ok tt) h, all_done, e)

-- what the rows say to a report that runs
pub record Ready (t : List ℕ) (p o : ℕ) (r : Report) : Type 0 where
  pub sound : sound_b t ≡ true
  pub low : 20 ≤ p
  pub high : p ≤ 244
  pub fits : p ≤ o
  pub counter : r.counter ≤ 63
  pub left : left_b t r.filter r.left ≡ true

pub ready : (c : Clock) (t : List ℕ) (p o : ℕ) (r : Report) → c.running ≡ Some r → TableRows c t (room_b p o) → Ready t p o r
unfolding room_b running_whole_b
ready c t p o r e h =
    let x = both_reads (both (leb 20 p) (leb p 244)) (leb p o) h.output in
    let y = both_reads (leb 20 p) (leb p 244) x.0 in
    let w = whole_reads c t h.clock in
    let k = running_reads r (ap rules.running_b (sym e) ∙ (clock_reads c w.0).running) in
    record {
      sound = h.sound;
      low = leb-true 20 p y.0;
      high = leb-true p 244 y.1;
      fits = leb-true p o x.1;
      counter = k.counter;
      left = ap (running_whole_b t) (sym e) ∙ w.1;
    }
