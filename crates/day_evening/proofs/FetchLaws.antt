-- Notifications fit the output that is lent; fetching goes step by step.
-- Assumes nothing.
use mathlib.Core.Path.{◌≡◌, refl, ap}
use mathlib.Core.Bool.{Bool, true, false}
use mathlib.Core.List.{List, [], ◌∷◌}
use Prim.Native.Nat.{ℕ, zero, suc, ◌-◌, ◌≤◌, ◌<◌}
use native.Mathlib.Nat.{not-suc-le-zero}
use native.Mathlib.Omega.{arith}
use borrow.Author.Tests.{leb-true, eq-eqb, ne_eqb}
use lib.Dec.{leb}
use lib.ListN.{length, take, replicate, length-take}
use Rattle.octets.specs.Choice.{both, pick}
use Rattle.octets.proofs.Tests.{both_reads}
use Rattle.record.specs.Fields.{most_bytes}
use Rattle.record_read.specs.Reading.{read_of}
use Rattle.table.specs.Table.{sound_b}
use Rattle.clock.specs.declared.state.Clock.{Clock}
use Rattle.clock.specs.declared.state.Report.{Report}
use Rattle.rows.specs.Reply.{done_b}
use Rattle.rows.specs.Rows.{first_failed}
use Rattle.rows.proofs.RowLaws.{table_done}
use Rattle.table_write.specs.Start.{TableStart, table_start, start_of}
use Rattle.table_write.specs.declared.start.WrongSize.{WrongSize}
use Rattle.update.specs.Start.{new_reader_of}
use Rattle.racp_access.specs.Access.{access_of}
use Rattle.racp_notify.specs.Notify.{notice, room_b, notify_rows, segment_of, said_of, noticed, running_notice, unsaid, notify_of, said_closes, said_len, notified_by}
use Rattle.racp_notify.proofs.SegmentLaws.{closing_length_lem}
use Rattle.joining.specs.Joining.{empty_joining, join_of, joined_in}
use Rattle.joining.specs.Reading.{read_joined_of}
use Rattle.joining.proofs.ReadingLaws.{too_long}
use Rattle.joining.specs.declared.joining.Answer.TheVariants.{Whole}
use Rattle.joining.specs.declared.joining.Joining.{Joining}
use Rattle.joining.specs.declared.joining.Joined.{Joined}
use Rattle.keep.specs.Keep.{keeping, read_kept, keep_of, keeping_number}
use Rattle.racp_notify.specs.declared.notify.Notification.{Notification}
use Rattle.clock.specs.declared.answers.Refusal.{Refusal}
use Rattle.day_evening.specs.Fetch.{segment_in, no_table, unless_refused, stored_in, kept_in, fetch, asked_of, heard_of, heard_all}
use Rattle.day_play.specs.Reader.{output}
use Rattle.day_evening.specs.declared.fetch.Fetch.{Fetch}
use Rattle.keep.specs.declared.keep.KeepError.{KeepError}
use Rattle.keep.specs.declared.keep.KeepError.TheVariants.{TableNotSound}
use Rattle.record.specs.declared.kinds.Record.{Record}
use Rattle.std.proofs.Common.{Err, None, Option, Result, Some}
use Rattle.clock.specs.Answers.{Answer}

module _ (c : Clock) (t : List ℕ) (p : ℕ) (o : List ℕ) where
  said_fits : (r : Report) (l : Option (ℕ × ℕ)) → 20 ≤ p → p ≤ length o → length (said_of c t (p - 1) r l).bytes ≤ length o
  unfolding said_of segment_of
  said_fits r None low high = omega (arith, closing_length_lem t r)
  said_fits r (Some (number, sent)) low high = simp length-take (omega arith)

  fits_by : (b : Bool) (a : Answer) (r : Option Report) → (b ≡ true → room_b p (length o) ≡ true)
      → (pick b (running_notice c t p o r) (unsaid a c o)).reply.len ≤ length o
  unfolding running_notice noticed room_b
  fits_by false a r h = omega arith
  fits_by true a None h = omega arith
  fits_by true a (Some r) h =
      let x = both_reads (both (leb 20 p) (leb p 244)) (leb p (length o)) (h refl) in
      let low = leb-true 20 p (both_reads (leb 20 p) (leb p 244) x.0).0 in
      said_fits r r.left low (leb-true p (length o) x.1)

  -- row 3 leaves room for what is said
  pub notice_fits : (notify_of c t p o).reply.len ≤ length o
  unfolding notify_of notify_rows
  notice_fits =
      fits_by (done_b (first_failed (notify_rows c t p o))) (first_failed (notify_rows c t p o)) c.running
      (λ h. (table_done c t (room_b p (length o)) _ h).0.output)

module _ (copy : List ℕ) (j : Joining) where
  refused_by : (b : Bool) (x : Option Record) → x ≡ None → no_table ≡ unless_refused (pick b (read_kept copy x) (keeping (Err TableNotSound) copy))
  unfolding keeping_number
  refused_by true x f = rw f
  refused_by false x f = refl

  -- more than 45 bytes are no record, and keeping refuses
  pub stored_too_long : length j.bytes ≡ most_bytes → most_bytes < j.len → no_table ≡ stored_in copy j
  unfolding stored_in keep_of read_joined_of
  stored_too_long e h = refused_by (sound_b copy) (read_of (joined_in j)) (too_long j e h)

  module _ (k : Result (Unit {0}) KeepError) (t : List ℕ) (e : keeping k t ≡ keep_of copy (joined_in j)) where
    pub stored_not : 0 < keeping_number k → no_table ≡ stored_in copy j
    unfolding stored_in
    stored_not h = rw (← e, ne_eqb (keeping_number k) 0 (omega arith))

    pub stored_too : keeping_number k ≤ 0 → t ≡ stored_in copy j
    unfolding stored_in
    stored_too h = rw (← e, eq-eqb (keeping_number k) 0 (omega arith))

-- one notification more
pub heard_next : (k : ℕ) (t : List ℕ) (f : Fetch) → 0 < k → heard_all k t f ≡ heard_all (k - 1) t (heard_of t f)
unfolding heard_all
heard_next zero t f h = absurd (not-suc-le-zero h)
heard_next (suc k) t f h = rw (pred_suc k)
  where
    pred_suc : (n : ℕ) → suc n - 1 ≡ n
    pred_suc n = omega arith

pub heard_none : (k : ℕ) (t : List ℕ) (f : Fetch) → k ≡ 0 → heard_all k t f ≡ f
unfolding heard_all
heard_none zero t f h = refl
heard_none (suc k) t f h = absurd (omega arith)

-- the tablet's table, as the log's own start leaves it
pub started : (t b : List ℕ) (a : Result (Unit {0}) WrongSize) → table_start a b ≡ start_of t → b ≡ (new_reader_of t).table
unfolding new_reader_of
started t b a e = ap (λ (s : TableStart). s.table) e

pub asked_is : (c : Clock) (t : List ℕ) {x : Clock} {j : Joining} {b : List ℕ} → x ≡ (access_of c t (1 ∷ 1 ∷ []) output).reply.clock
    → j ≡ empty_joining → b ≡ (new_reader_of (replicate 528 0)).table → fetch x j b false ≡ asked_of c t
unfolding asked_of
asked_is c t e f g = rw (e, f, g)

pub kept_whole : (copy : List ℕ) (j : Joined) {t : List ℕ} → j.answer ≡ Whole → t ≡ stored_in copy j.joining → t ≡ kept_in copy j
unfolding kept_in
kept_whole copy j e g = rw e g

-- what was said closes the report, or is a segment
closes : (b : Bool) (n : ℕ) → segment_in b n ≡ None → b ≡ true
closes true n h = refl
closes false n h = let e : Some n ≡ None = h in cc

pub cuts : (b : Bool) (n k : ℕ) → segment_in b n ≡ Some k → (b ≡ false) × (n ≡ k)
cuts true n k h = let e : None ≡ Some k = h in cc
cuts false n k h = let e : Some n ≡ Some k = h in (refl, cc)

module _ (t : List ℕ) (f : Fetch) where
  pub stays_closed : f.closed ≡ true → f ≡ heard_of t f
  unfolding heard_of
  stays_closed h = rw h

  module _ (r : Result Notification Refusal) (c : Clock) (o : List ℕ) (running : f.closed ≡ false) (e : notice (notified_by r c) o ≡ notify_of f.clock t 20 output) where
    pub closing : segment_in (said_closes r) (said_len r) ≡ None → fetch c f.joining f.copy true ≡ heard_of t f
    unfolding heard_of
    closing h = rw (running, ← e, closes (said_closes r) (said_len r) h)

    pub segment : (k : ℕ) {x : Joined} {b : List ℕ} → segment_in (said_closes r) (said_len r) ≡ Some k → x ≡ join_of f.joining (take k o)
        → b ≡ kept_in f.copy x
        → fetch c x.joining b false ≡ heard_of t f
    unfolding heard_of
    segment k h j q = let s = cuts (said_closes r) (said_len r) k h in rw (running, ← e, s.0, s.1, ← j, q)
