-- A notification that is done: a segment of 2 to p bytes, or the four that close the report.
-- Assumes nothing.
use mathlib.Core.Path.{◌≡◌, refl, ap, ◌∙◌}
use mathlib.Core.Bool.{Bool, true, false}
use mathlib.Core.List.{List, [], ◌∷◌}
use Prim.Native.Nat.{ℕ, ◌+◌, ◌-◌, ◌≤◌, ◌<◌}
use native.Mathlib.Omega.{arith}
use borrow.Author.Tests.{le-leb, lt-leb, ltb-true}
use lib.Dec.{leb, ltb, eqb}
use lib.IntN.{ℤ, pos}
use lib.ListN.{length, take, drop, length-take, length-drop}
use Rattle.octets.specs.Choice.{both, either, pick}
use Rattle.octets.specs.Parts.{over}
use Rattle.octets.proofs.Tests.{clash, both_reads}
use Rattle.record.specs.declared.kinds.Record.{Record}
use Rattle.record_write.specs.Layout.{bytes_of}
use Rattle.filter.specs.Filter.{matches_b}
use Rattle.table.specs.Table.{count, held, age_of}
use Rattle.table_look.specs.Matching.{matching}
use Rattle.clock.specs.declared.state.Clock.{Clock}
use Rattle.clock.specs.declared.state.Report.{Report}
use Rattle.codes.specs.Racp.{report_opcode, combined_opcode, combined_response}
use Rattle.codes.specs.Response.{code_bytes, count_bytes}
use Rattle.codes.specs.declared.response.Code.TheVariants.{Success}
use Rattle.rows.specs.Reply.{done_b, refused, answered}
use Rattle.rows.specs.Rows.{unsent_b, left_b}
use Rattle.rows.proofs.RowLaws.{table_all, err_refused}
use Rattle.racp_access.specs.Report.{first_bytes}
use Rattle.racp_notify.specs.Notify.{room_b, segment_of, closing_of, Said, said_of, Notice, noticed, notify_of}
use Rattle.racp_notify.proofs.NotifyLaws.{tables, notify_idle, notify_refused, notify_said, ready}
use Rattle.server_bytes.specs.Results.{result_of, closing_length}
use Rattle.theorems_entry.specs.Lengths.{Wrote}
use Rattle.theorems_entry.proofs.ReplyLengths.{done_length, over_wrote}
use Rattle.clock.specs.declared.answers.Refusal.TheVariants.{NothingRunning}
use Rattle.std.proofs.Common.{None, Option, Some, Err}

-- a notification: a segment of 2 to p bytes, or four that close
data Noted (p : ℕ) (s : Said) : Type 0 where
  cuts : s.closes ≡ false → 2 ≤ length s.bytes → length s.bytes ≤ p → Noted p s
  ends : s.closes ≡ true → length s.bytes ≡ 4 → Noted p s

closing_four : (t : List ℕ) (r : Report) → length (closing_of t r) ≡ 4
unfolding closing_of code_bytes count_bytes
closing_four t r = go (eqb r.opcode combined_opcode)
  where
    go : (b : Bool) → length (pick b (count_bytes combined_response (length (matching r.filter t))) (code_bytes report_opcode Success)) ≡ 4
    go true = refl
    go false = refl

unsent_first : (sent : ℕ) (l : List Record) → unsent_b sent l ≡ true → sent < length (first_bytes l)
unfolding first_bytes
unsent_first sent [] h = absurd (clash false h refl)
unsent_first sent (r ∷ l) h = ltb-true sent (length (bytes_of r)) h

said_noted : (c : Clock) (t : List ℕ) (p : ℕ) (r : Report) (l : Option (ℕ × ℕ)) → 20 ≤ p → left_b t r.filter l ≡ true → Noted p (said_of c t (p - 1) r l)
unfolding said_of segment_of left_b
said_noted c t p r None low h = ends refl (closing_four t r)
said_noted c t p r (Some (number, sent)) low h =
    let a = both_reads (ltb (age_of t number) (count t)) _ h in
    let b = both_reads (matches_b r.filter (count t) (age_of t number) number) _ a.1 in
    let k = unsent_first sent (drop (age_of t number) (held t)) b.1 in
    let bytes = first_bytes (drop (age_of t number) (held t)) in
    let x = length-take (p - 1) (drop sent bytes) in
    let y = length-drop sent bytes in
    cuts refl (omega arith) (omega arith)

record Notifies (p : ℕ) (o : List ℕ) (u : Notice) (s : Said) : Type 0 where
  len : u.reply.len ≡ length s.bytes
  closes : u.reply.closes ≡ s.closes
  output : u.output ≡ over o 0 s.bytes
  noted : Noted p s
  room : p ≤ length o
  low : 20 ≤ p
  high : p ≤ 244

module _ (c : Clock) (t : List ℕ) (p : ℕ) (o : List ℕ) where
  -- only a running report is answered
  data Answered : Type 0 where
    runs : (s : Said) → Notifies p o (notify_of c t p o) s → Answered

  stopped : done_b (tables c t p o) ≡ false → done_b (notify_of c t p o).reply.answer ≡ true → Answered
  stopped d h =
      absurd (clash (done_b (notify_of c t p o).reply.answer) h (ap (λ (x : Notice). done_b x.reply.answer) (notify_refused c t p o d) ∙ d))

  notify_answered : done_b (notify_of c t p o).reply.answer ≡ true → Answered
  unfolding noticed
  notify_answered = go c.running refl (done_b (tables c t p o)) refl
    where
      go : (r : Option Report) → c.running ≡ r → (b : Bool) → done_b (tables c t p o) ≡ b → done_b (notify_of c t p o).reply.answer ≡ true → Answered
      go None e false d h = stopped d h
      go None e true d h =
          absurd (clash (done_b (notify_of c t p o).reply.answer) h (ap (λ (x : Notice). done_b x.reply.answer) (notify_idle c t p o d e) ∙ err_refused (Err NothingRunning) NothingRunning refl))
      go (Some r) e false d h = stopped d h
      go (Some r) e true d h =
          let k = ready c t p (length o) r e (table_all c t (room_b p (length o)) d) in
          runs (said_of c t (p - 1) r r.left)
          (rw (notify_said c t p o r e d)
          (record {
            len = refl;
            closes = refl;
            output = refl;
            noted = said_noted c t p r r.left k.low k.left;
            room = k.fits;
            low = k.low;
            high = k.high;
          }))

-- the result of such a notification
counted : (p : ℕ) (s : Said) (n m : ℕ) (b : Bool) → Noted p s → b ≡ s.closes → m ≡ length s.bytes → p ≤ 244 → n ≡ closing_length b m
    → either (both (leb 2 n) (leb n p)) (eqb n 260) ≡ true
counted p s n m b (cuts e low high) h k top z =
    let x : n ≡ m = z ∙ ap (λ (y : Bool). closing_length y m) (h ∙ e) in
    rw (le-leb 2 n (omega arith), le-leb n p (omega arith)) refl
counted p s n m b (ends e size) h k top z =
    let x : n ≡ 256 + m = z ∙ ap (λ (y : Bool). closing_length y m) (h ∙ e) in
    let y : n ≡ 260 = omega arith in
    rw (lt-leb n p (omega arith), y) refl

segment_wrote : (p : ℕ) (o out : List ℕ) (s : Said) (n m : ℕ) (b : Bool) → Noted p s → b ≡ s.closes → m ≡ length s.bytes
    → out ≡ over o 0 s.bytes → p ≤ length o → p ≤ 244 → n ≡ closing_length b m → n ≤ p → Wrote o n out
segment_wrote p o out s n m b (cuts e low high) h k w room top z few =
    let x : n ≡ length s.bytes = z ∙ ap (λ (y : Bool). closing_length y m) (h ∙ e) ∙ k in
    rw (w, x) (over_wrote o s.bytes (omega arith))
segment_wrote p o out s n m b (ends e size) h k w room top z few =
    let x : n ≡ 256 + m = z ∙ ap (λ (y : Bool). closing_length y m) (h ∙ e) in absurd (omega arith)

closed_wrote : (p : ℕ) (o out : List ℕ) (s : Said) (n m : ℕ) (b : Bool) → Noted p s → b ≡ s.closes → m ≡ length s.bytes
    → out ≡ over o 0 s.bytes → p ≤ length o → 20 ≤ p → p ≤ 244 → 256 + n ≡ closing_length b m → Wrote o n out
closed_wrote p o out s n m b (cuts e low high) h k w room least top z =
    let x : 256 + n ≡ m = z ∙ ap (λ (y : Bool). closing_length y m) (h ∙ e) in absurd (omega arith)
closed_wrote p o out s n m b (ends e size) h k w room least top z =
    let y : 256 + n ≡ 256 + m = z ∙ ap (λ (y : Bool). closing_length y m) (h ∙ e) in
    let x : n ≡ length s.bytes = omega arith in
    rw (w, x) (over_wrote o s.bytes (omega arith))

module _ (c : Clock) (t : List ℕ) (p : ℕ) (o : List ℕ) where
  abbrev pub n_result : ℤ
  n_result = result_of (notify_of c t p o).reply.answer (closing_length (notify_of c t p o).reply.closes (notify_of c t p o).reply.len)

  pub notify_length : (n : ℕ) → n_result ≡ pos n → either (both (leb 2 n) (leb n p)) (eqb n 260) ≡ true
  notify_length n h = let z = done_length _ _ n h in go (notify_answered c t p o z.0) z.1
    where
      go : Answered c t p o → n ≡ closing_length (notify_of c t p o).reply.closes (notify_of c t p o).reply.len
          → either (both (leb 2 n) (leb n p)) (eqb n 260) ≡ true
      go (runs s k) z = counted p s n _ _ k.noted k.closes k.len k.high z

  pub segment_written : (n : ℕ) → n_result ≡ pos n → n ≤ p → Wrote o n (notify_of c t p o).output
  segment_written n h few = let z = done_length _ _ n h in go (notify_answered c t p o z.0) z.1
    where
      go : Answered c t p o → n ≡ closing_length (notify_of c t p o).reply.closes (notify_of c t p o).reply.len
          → Wrote o n (notify_of c t p o).output
      go (runs s k) z = segment_wrote p o _ s n _ _ k.noted k.closes k.len k.output k.room k.high z few

  pub closed_written : (n : ℕ) → n_result ≡ pos (256 + n) → Wrote o n (notify_of c t p o).output
  closed_written n h = let z = done_length _ _ (256 + n) h in go (notify_answered c t p o z.0) z.1
    where
      go : Answered c t p o → 256 + n ≡ closing_length (notify_of c t p o).reply.closes (notify_of c t p o).reply.len
          → Wrote o n (notify_of c t p o).output
      go (runs s k) z = closed_wrote p o _ s n _ _ k.noted k.closes k.len k.output k.room k.low k.high z
