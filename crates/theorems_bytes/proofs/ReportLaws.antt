-- What is heard and joined over bytes is what is heard and joined by value.
-- Assumes nothing.
use mathlib.Core.Path.{◌≡◌, refl, sym, ap, subst, ◌∙◌}
use mathlib.Core.Bool.{Bool, true, false, not}
use mathlib.Core.List.{List, [], ◌∷◌, ◌++◌, map}
use Prim.Native.Nat.{ℕ, zero, suc, ◌+◌, ◌-◌, ◌≤◌, ◌<◌}
use native.Mathlib.Omega.{arith}
use borrow.Author.Tests.{lt-ltb, le-ltb, ne_eqb, eq-eqb}
use lib.Dec.{eqb}
use lib.IntN.{pos, nat_abs, pos-ne-negsuc}
use lib.ListN.{length, take, replicate, length-drop}
use Rattle.octets.specs.Choice.{both, either, pick}
use Rattle.octets.specs.Parts.{Bytes}
use Rattle.octets.proofs.Tests.{clash, both_reads, both_yes}
use Rattle.filter.specs.declared.filter.Filter.{Filter}
use Rattle.record_read.specs.Reading as wellFormed
use Rattle.record.specs.declared.kinds.Record.{Record}
use Rattle.table_look.specs.Matching.{matching}
use Rattle.clock.specs.Answers.{number_of, Answer}
use Rattle.rows.specs.Reply.{done_b}
use Rattle.update.specs.Fault.{fault_of}
use Rattle.clock.specs.Events.{disconnect_of}
use Rattle.racp_access.specs.Access.{access_of}
use Rattle.racp_notify.specs.Notify.{room_b, Notice, notify_of}
use Rattle.record.specs.Fields.{most_bytes}
use Rattle.joining.specs.Joining.{empty_joining, len_after, join_of}
use Rattle.joining.specs.declared.joining.Joined.{Joined}
use Rattle.joining.specs.declared.joining.Joining.{Joining}
use Rattle.joining.proofs.JoiningLaws.{Joins, refuses, goes_on, ends, join_is, empty_bytes}
use Rattle.theorems_calls.proofs.JoinedLaws.{keeps_ranges}
use Rattle.state_bytes.specs.JoiningState.{joining_bytes, joining_image}
use Rattle.state_bytes.specs.Results.{refusal}
use Rattle.state_images.proofs.JoiningLaws.{joining_images}
use Rattle.server_bytes.specs.Results.{result_of, closing_length}
use Rattle.server_bytes.specs.Calls.{Called}
use Rattle.tablet_bytes.specs.Calls.{JoinedBytes, join_result, ReadNumbers, reading, numbers_after, read_at}
use Rattle.racp_notify.proofs.ReplyLaws.{notify_replies}
use Rattle.theorems_entry.proofs.PromiseLaws.{composes}
use Rattle.theorems_reports.specs.World.{World, new_world, Call, step_by, run_of}
use Rattle.theorems_reports.specs.World as calls
use Rattle.theorems_reports.specs.Hearing.{Heard, nothing, segment, closing, sent_in, heard_in, heard_by, Hearing, onward, hearing_by, hearing_of, undisturbed_b, calm_b, all_calm_b}
use Rattle.theorems_reports.specs.Joined.{Got, add, join_all}
use Rattle.theorems_reports.specs.Reports.{Accepted, report_begun, Hears, Exact, asking_b, segments}
use Rattle.theorems_reports.specs.Closing.{answer_of, all_quiet_b, heard_b, unless_closing, answered_in, asked_in}
use Rattle.theorems_reports.proofs.ReportLaws.{heard_report, quiet_calls, closing_report, finished_report}
use Rattle.theorems_bytes.specs.World.{ByteWorld, ByteCall, seconds, switches, disconnect, fault, dtcp_write, racp_write, notify, device_time, called_at, step_at, call_of, calls_of, said_of, image_in, called_of, history_of}
use Rattle.theorems_bytes.specs.Reports.{heard_from, heard_at, hearing_at, GotAt, got_at, add_at, join_all_at, shown_of, AcceptedAt, HearsAt, quiet_at, all_quiet_at, answered_at, asked_at, ReportsAt, FinishedReportAt}
use Rattle.theorems_bytes.specs.Stamps.{done_at}
use Rattle.theorems_bytes.proofs.StampLaws.{done_result}
use Rattle.theorems_bytes.proofs.ImageLaws.{one_call, Fit, call_fit, step_is, reached_fit, reached}
use Rattle.std.proofs.Common.{Option, Some, Err, Ok}
use Rattle.clock.specs.declared.answers.Refusal.TheVariants.{ClockBroken, NothingRunning, OutputShort, PastTheEnd, ReportRunning, SwitchedOff, TableNotSound, WriteLength}

-- a notification by its result
refused_heard : (a : Answer) (o : List ℕ) → done_b a ≡ false → heard_from (refusal (number_of a)) o ≡ nothing
unfolding done_b
refused_heard a o h = go (number_of a) refl
  where
    go : (n : ℕ) → number_of a ≡ n → heard_from (refusal n) o ≡ nothing
    go zero e = absurd (clash (eqb (number_of a) 0) (eq-eqb _ _ e) h)
    go (suc n) e = refl

closing_back : (n : ℕ) (o : List ℕ) → heard_from (pos (256 + n)) o ≡ closing (take n o)
closing_back n o =
    let e : 256 + n - 256 ≡ n = omega arith in
    let k : 256 ≤ 256 + n = omega arith in
    rw (le-ltb (256 + n) 256 k, e)

segment_back : (n : ℕ) (o : List ℕ) → n ≤ 255 → heard_from (pos n) o ≡ segment (take n o)
segment_back n o h = let k : n < 256 = omega arith in rw (lt-ltb n 256 k)

notice_heard : (n : Notice) → n.reply.len ≤ 255
    → heard_from (result_of n.reply.answer (closing_length n.reply.closes n.reply.len)) n.output ≡ heard_in n
unfolding heard_in result_of
notice_heard n h = go (done_b n.reply.answer) refl n.reply.closes
  where
    go : (b : Bool) → done_b n.reply.answer ≡ b → (c : Bool)
        → heard_from (pick b (pos (closing_length c n.reply.len)) (refusal (number_of n.reply.answer))) n.output
        ≡ pick b (pick c (closing (sent_in n)) (segment (sent_in n))) nothing
    go true e true = closing_back n.reply.len n.output
    go true e false = segment_back n.reply.len n.output h
    go false e c = refused_heard n.reply.answer n.output e

pub notify_heard : (v : World) (p : ℕ) (o : List ℕ) → called_at (image_in v) (notify p o) ≡ called_of v (notify p o)
    → heard_at (image_in v) (notify p o) ≡ heard_in (notify_of v.clock v.table p o)
unfolding heard_at called_of said_of
notify_heard v p o e =
    ap (λ (x : Called). heard_from x.result x.output) e
    ∙ notice_heard (notify_of v.clock v.table p o) ((notify_replies v.table p o).short v.clock)

-- all calls
abbrev Later : List ByteCall → Type 0
Later ks = (v : World) → Fit v → hearing_at (image_in v) ks ≡ hearing_of v (calls_of ks)

rest_heard : (v : World) (k : ByteCall) (ks : List ByteCall) → Fit v → Later ks
    → hearing_at (step_at (image_in v) k) ks ≡ hearing_of (run_of v (call_of k)) (calls_of ks)
rest_heard v k ks f later = ap (λ (b : ByteWorld). hearing_at b ks) (step_is v k f) ∙ later (run_of v (call_of k)) (call_fit v k f)

hearing_step : (v : World) (k : ByteCall) (ks : List ByteCall) → Fit v → Later ks
    → hearing_at (image_in v) (k ∷ ks) ≡ hearing_of v (calls_of (k ∷ ks))
unfolding hearing_at heard_at hearing_by heard_by calls_of call_of run_of
hearing_step v (seconds n) ks f later = rest_heard v (seconds n) ks f later
hearing_step v (switches x y z) ks f later = rest_heard v (switches x y z) ks f later
hearing_step v disconnect ks f later = rest_heard v disconnect ks f later
hearing_step v (fault o) ks f later = rest_heard v (fault o) ks f later
hearing_step v (dtcp_write w o h) ks f later = rest_heard v (dtcp_write w o h) ks f later
hearing_step v (racp_write w o h) ks f later = rest_heard v (racp_write w o h) ks f later
hearing_step v (notify p o) ks f later =
    ap (λ (x : Heard). onward x (hearing_at (step_at (image_in v) (notify p o)) ks))
    (notify_heard v p o (one_call v (notify p o) f.good f.fits))
    ∙ ap (onward (heard_in (notify_of v.clock v.table p o))) (rest_heard v (notify p o) ks f later)
hearing_step v (device_time o) ks f later = rest_heard v (device_time o) ks f later

hearing_is : (ks : List ByteCall) → Later ks
unfolding hearing_at hearing_by calls_of
hearing_is [] v f = refl
hearing_is (k ∷ ks) v f = hearing_step v k ks f (hearing_is ks)

-- the sizes that were answered, and asked for
answered_rest : (v : World) (k : ByteCall) (ks : List ByteCall) → Fit v → ((u : World) → Fit u → answered_at (image_in u) ks ≡ answered_in u (calls_of ks))
    → answered_at (step_at (image_in v) k) ks ≡ answered_in (run_of v (call_of k)) (calls_of ks)
answered_rest v k ks f later = ap (λ (b : ByteWorld). answered_at b ks) (step_is v k f) ∙ later (run_of v (call_of k)) (call_fit v k f)

asked_rest : (v : World) (k : ByteCall) (ks : List ByteCall) → Fit v → ((u : World) → Fit u → asked_at (image_in u) ks ≡ asked_in u (calls_of ks))
    → asked_at (step_at (image_in v) k) ks ≡ asked_in (run_of v (call_of k)) (calls_of ks)
asked_rest v k ks f later = ap (λ (b : ByteWorld). asked_at b ks) (step_is v k f) ∙ later (run_of v (call_of k)) (call_fit v k f)

answered_is : (ks : List ByteCall) (v : World) → Fit v → answered_at (image_in v) ks ≡ answered_in v (calls_of ks)
unfolding answered_at heard_at answered_in heard_by calls_of call_of run_of
answered_is [] v f = refl
answered_is (seconds n ∷ ks) v f = answered_rest v (seconds n) ks f (answered_is ks)
answered_is (switches x y z ∷ ks) v f = answered_rest v (switches x y z) ks f (answered_is ks)
answered_is (disconnect ∷ ks) v f = answered_rest v disconnect ks f (answered_is ks)
answered_is (fault o ∷ ks) v f = answered_rest v (fault o) ks f (answered_is ks)
answered_is (dtcp_write w o h ∷ ks) v f = answered_rest v (dtcp_write w o h) ks f (answered_is ks)
answered_is (racp_write w o h ∷ ks) v f = answered_rest v (racp_write w o h) ks f (answered_is ks)
answered_is (notify p o ∷ ks) v f =
    ap (λ (x : Heard). pick (heard_b x) (p ∷ unless_closing x (answered_at (step_at (image_in v) (notify p o)) ks))
    (unless_closing x (answered_at (step_at (image_in v) (notify p o)) ks)))
    (notify_heard v p o (one_call v (notify p o) f.good f.fits))
    ∙ ap (λ (l : List ℕ). let x = heard_in (notify_of v.clock v.table p o) in pick (heard_b x) (p ∷ unless_closing x l) (unless_closing x l))
    (answered_rest v (notify p o) ks f (answered_is ks))
answered_is (device_time o ∷ ks) v f = answered_rest v (device_time o) ks f (answered_is ks)

asked_is : (ks : List ByteCall) (v : World) → Fit v → asked_at (image_in v) ks ≡ asked_in v (calls_of ks)
unfolding asked_at heard_at asked_in asking_b heard_by calls_of call_of run_of
asked_is [] v f = refl
asked_is (seconds n ∷ ks) v f = asked_rest v (seconds n) ks f (asked_is ks)
asked_is (switches x y z ∷ ks) v f = asked_rest v (switches x y z) ks f (asked_is ks)
asked_is (disconnect ∷ ks) v f = asked_rest v disconnect ks f (asked_is ks)
asked_is (fault o ∷ ks) v f = asked_rest v (fault o) ks f (asked_is ks)
asked_is (dtcp_write w o h ∷ ks) v f = asked_rest v (dtcp_write w o h) ks f (asked_is ks)
asked_is (racp_write w o h ∷ ks) v f = asked_rest v (racp_write w o h) ks f (asked_is ks)
asked_is (notify p o ∷ ks) v f =
    ap (λ (x : Heard). pick (room_b p (length o)) (p ∷ unless_closing x (asked_at (step_at (image_in v) (notify p o)) ks))
    (unless_closing x (asked_at (step_at (image_in v) (notify p o)) ks)))
    (notify_heard v p o (one_call v (notify p o) f.good f.fits))
    ∙ ap (λ (l : List ℕ). let x = heard_in (notify_of v.clock v.table p o) in
    pick (room_b p (length o)) (p ∷ unless_closing x l) (unless_closing x l))
    (asked_rest v (notify p o) ks f (asked_is ks))
asked_is (device_time o ∷ ks) v f = asked_rest v (device_time o) ks f (asked_is ks)

-- a call that is refused over bytes is refused by value
quiet_one : (v : World) (k : ByteCall) (l : List Call) → Fit v → quiet_at (image_in v) k ≡ true → all_quiet_b (run_of v (call_of k)) l ≡ true
    → all_quiet_b v (call_of k ++ l) ≡ true
unfolding all_quiet_b all_calm_b call_of run_of called_of said_of answer_of calm_b
quiet_one v (seconds n) l f q r = r
quiet_one v (switches x y z) l f q r = r
quiet_one v disconnect l f q r =
    both_yes (ap not (sym (done_result (disconnect_of v.clock).answer 0))
    ∙ ap (λ (x : Called). not (done_at x.result)) (sym (one_call v disconnect f.good f.fits)) ∙ q) ∙ r
quiet_one v (fault o) l f q r =
    let u = fault_of v.clock v.table o in
    both_yes (ap not (sym (done_result u.reply.answer u.reply.len))
    ∙ ap (λ (x : Called). not (done_at x.result)) (sym (one_call v (fault o) f.good f.fits)) ∙ q) ∙ r
quiet_one v (dtcp_write w o h) l f q r = r
quiet_one v (racp_write w o h) l f q r =
    let u = access_of v.clock v.table w o in
    both_yes (access_quiet (calm_b (calls.record_access w o)) (done_b u.reply.answer) (done_at (called_at (image_in v) (racp_write w o h)).result)
    (ap (λ (x : Called). done_at x.result) (one_call v (racp_write w o h) f.good f.fits) ∙ done_result u.reply.answer u.reply.len) q) ∙ r
  where
    access_quiet : (a b c : Bool) → c ≡ b → either (both a true) (not c) ≡ true → either a (not b) ≡ true
    access_quiet true b c e k = refl
    access_quiet false b c e k = ap not (sym e) ∙ k
quiet_one v (notify p o) l f q r = r
quiet_one v (device_time o) l f q r = r

pub quiet_is : (ks : List ByteCall) (v : World) → Fit v → all_quiet_at (image_in v) ks ≡ true → all_quiet_b v (calls_of ks) ≡ true
unfolding all_quiet_at all_quiet_b calls_of
quiet_is [] v f h = refl
quiet_is (k ∷ ks) v f h =
    let x = both_reads (quiet_at (image_in v) k) (all_quiet_at (step_at (image_in v) k) ks) h in
    quiet_one v k (calls_of ks) f x.0
    (quiet_is ks (run_of v (call_of k)) (call_fit v k f) (ap (λ (b : ByteWorld). all_quiet_at b ks) (sym (step_is v k f)) ∙ x.1))

calm_first : (a b : List Call) → all_calm_b (a ++ b) ≡ true → (all_calm_b a ≡ true) × (all_calm_b b ≡ true)
unfolding all_calm_b
calm_first [] b h = (refl, h)
calm_first (k ∷ a) b h =
    let x = both_reads (calm_b k) (all_calm_b (a ++ b)) h in
    let y = calm_first a b x.1 in
    (both_yes x.0 ∙ y.0, y.1)

either_yes : (m n : Bool) → m ≡ true → either m n ≡ true
either_yes m n e = rw e

calm_is : (ks : List ByteCall) (b : ByteWorld) → all_calm_b (calls_of ks) ≡ true → all_quiet_at b ks ≡ true
unfolding all_quiet_at calls_of
calm_is [] b h = refl
calm_is (k ∷ ks) b h =
    let x = calm_first (call_of k) (calls_of ks) h in
    both_yes (either_yes (all_calm_b (call_of k)) _ x.0) ∙ calm_is ks (step_at b k) x.1

-- joining and reading
abbrev pub numbers_of : List ℕ → Option Record → ReadNumbers
numbers_of e r = reading (refusal (wellFormed.reading_number r)) (numbers_after e r)

abbrev pub got_of : List ℕ → Got → GotAt
got_of e g = got_at (map (numbers_of e) g.records) g.fine

adds : (e : List ℕ) {j : Joining} {n : List ℕ} {x : Joined} → Joins j n x → (g : Got)
    → add_at e (joining_image x.joining) (join_result x.answer x.joining.len) (got_of e g) ≡ got_of e (add x.answer x.joining g)
unfolding joining_image read_at
adds e (refuses h) g = refl
adds e (goes_on t l) g = refl
adds e {j} {n} (ends t l) g =
    let k = length-drop 1 n in
    rw (ne_eqb (len_after j n) 0 (λ z. omega (arith, t.filled)))

joins_are : (e : List ℕ) (ns : List (List ℕ)) (j : Joining) → length j.bytes ≡ most_bytes
    → join_all_at e (joining_image j) ns ≡ got_of e (join_all j ns)
unfolding join_all_at join_all
joins_are e [] j h = refl
joins_are e (n ∷ ns) j h =
    ap (λ (x : JoinedBytes). add_at e x.joining x.result (join_all_at e x.joining ns)) (composes.join j h n)
    ∙ ap (add_at e (joining_image (join_of j n).joining) (join_result (join_of j n).answer (join_of j n).joining.len))
    (joins_are e ns (join_of j n).joining (keeps_ranges.bytes j n h))
    ∙ adds e (join_is j n) (join_all (join_of j n).joining ns)

pub from_zeros : (e : List ℕ) (ns : List (List ℕ)) → join_all_at e (replicate joining_bytes 0) ns ≡ got_of e (join_all empty_joining ns)
from_zeros e ns = ap (λ (j : List ℕ). join_all_at e j ns) (sym joining_images.zeros) ∙ joins_are e ns empty_joining empty_bytes

pub read_all : (e : List ℕ) (l : List Record) → map (numbers_of e) (map Some l) ≡ map shown_of l
read_all e [] = refl
read_all e (r ∷ l) = ap (λ (x : List ReadNumbers). shown_of r ∷ x) (read_all e l)

hears_at : (e t w : List ℕ) (f : Filter) (h : Hearing) → Hears t w f h → HearsAt e t w f h
hears_at e t w f h x =
    record {
      fine = ap (λ (g : GotAt). g.fine) (from_zeros e h.notes) ∙ x.fine;
      all = λ c.
          ap (λ (g : GotAt). g.numbers) (from_zeros e h.notes)
          ∙ ap (λ (g : Got). map (numbers_of e) g.records) (x.finished c).joined
          ∙ read_all e (matching f t);
      closes_1 = λ c. (x.finished c).closes_1;
      closes_7 = λ c. (x.finished c).closes_7;
    }

-- a result 0
zero_reads : (a : Answer) (n : ℕ) → result_of a n ≡ pos 0 → (done_b a ≡ true) × (n ≡ 0)
unfolding result_of done_b number_of
zero_reads (Ok done) n h = (refl, ap nat_abs h)
zero_reads (Err TableNotSound) n h = absurd (pos-ne-negsuc 0 _ (sym h))
zero_reads (Err ClockBroken) n h = absurd (pos-ne-negsuc 0 _ (sym h))
zero_reads (Err OutputShort) n h = absurd (pos-ne-negsuc 0 _ (sym h))
zero_reads (Err WriteLength) n h = absurd (pos-ne-negsuc 0 _ (sym h))
zero_reads (Err SwitchedOff) n h = absurd (pos-ne-negsuc 0 _ (sym h))
zero_reads (Err ReportRunning) n h = absurd (pos-ne-negsuc 0 _ (sym h))
zero_reads (Err PastTheEnd) n h = absurd (pos-ne-negsuc 0 _ (sym h))
zero_reads (Err NothingRunning) n h = absurd (pos-ne-negsuc 0 _ (sym h))

pub accepted_is : (v : World) (w o : List ℕ) (hw : Bytes w) (f : Filter) → Fit v → AcceptedAt (image_in v) w o hw f → Accepted v w o f
unfolding called_of said_of
accepted_is v w o hw f x a =
    let u = access_of v.clock v.table w o in
    let e = ap (λ (y : Called). y.result) (one_call v (racp_write w o hw) x.good x.fits) in
    let z = zero_reads u.reply.answer u.reply.len (sym e ∙ a.zero) in
    record { asked = a.asked; done = z.0; silent = ap (λ (n : ℕ). take n u.output) z.1 }

pub begun_fit : (v : World) (w o : List ℕ) (hw : Bytes w) → Fit v → Fit (report_begun v w o)
unfolding call_of run_of step_by
begun_fit v w o hw x = call_fit v (racp_write w o hw) x

pub begun_is : (v : World) (w o : List ℕ) (hw : Bytes w) → Fit v → step_at (image_in v) (racp_write w o hw) ≡ image_in (report_begun v w o)
unfolding call_of run_of step_by
begun_is v w o hw x = step_is v (racp_write w o hw) x

pub heard_is : (v : World) (w o : List ℕ) (hw : Bytes w) (ks : List ByteCall) → Fit v
    → hearing_at (step_at (image_in v) (racp_write w o hw)) ks ≡ hearing_of (report_begun v w o) (calls_of ks)
heard_is v w o hw ks x = ap (λ (b : ByteWorld). hearing_at b ks) (begun_is v w o hw x) ∙ hearing_is ks (report_begun v w o) (begun_fit v w o hw x)

answered_begun : (v : World) (w o : List ℕ) (hw : Bytes w) (ks : List ByteCall) → Fit v
    → answered_at (step_at (image_in v) (racp_write w o hw)) ks ≡ answered_in (report_begun v w o) (calls_of ks)
answered_begun v w o hw ks x =
    ap (λ (b : ByteWorld). answered_at b ks) (begun_is v w o hw x) ∙ answered_is ks (report_begun v w o) (begun_fit v w o hw x)

pub asked_begun : (v : World) (w o : List ℕ) (hw : Bytes w) (ks : List ByteCall) → Fit v
    → asked_at (step_at (image_in v) (racp_write w o hw)) ks ≡ asked_in (report_begun v w o) (calls_of ks)
asked_begun v w o hw ks x =
    ap (λ (b : ByteWorld). asked_at b ks) (begun_is v w o hw x) ∙ asked_is ks (report_begun v w o) (begun_fit v w o hw x)

-- quiet calls end no report
pub undisturbed : (v : World) (w o : List ℕ) (hw : Bytes w) (f : Filter) (ks : List ByteCall) → Fit v → Accepted v w o f
    → all_quiet_at (step_at (image_in v) (racp_write w o hw)) ks ≡ true → undisturbed_b (report_begun v w o) (calls_of ks) ≡ true
undisturbed v w o hw f ks x c h =
    quiet_calls v w o f (calls_of ks) x.good.bytes c
    (quiet_is ks (report_begun v w o) (begun_fit v w o hw x) (ap (λ (b : ByteWorld). all_quiet_at b ks) (sym (begun_is v w o hw x)) ∙ h))

asks_are : (p : ℕ) (os : List (List ℕ)) → calls_of (map (notify p) os) ≡ map (calls.notify p) os
unfolding calls_of call_of
asks_are p [] = refl
asks_are p (o ∷ os) = ap (λ (l : List Call). calls.notify p o ∷ l) (asks_are p os)

pub reports : (v : World) (w o : List ℕ) (hw : Bytes w) (f : Filter) → Fit v → AcceptedAt (image_in v) w o hw f → ReportsAt (image_in v) w o hw f
reports v w o hw f x a =
    let c = accepted_is v w o hw f x a in
    let b = x.good.bytes in
    let k = finished_report v w o f b c in
    record {
      heard = λ e ks h.
          subst (HearsAt e v.table w f) (sym (heard_is v w o hw ks x))
          (hears_at e v.table w f _ (heard_report v w o f (calls_of ks) b c (undisturbed v w o hw f ks x c h)));
      closing = λ ks h.
          rw (heard_is v w o hw ks x, answered_begun v w o hw ks x, asked_begun v w o hw ks x)
          (closing_report v w o f (calls_of ks) b c (undisturbed v w o hw f ks x c h));
      calm = λ ks h. calm_is ks (step_at (image_in v) (racp_write w o hw)) h;
      closes = λ ks h n. ap (λ (y : Hearing). y.closed) (heard_is v w o hw ks x) ∙ k.closes (calls_of ks) h n;
      exact = λ p os low high long.
          subst (Exact (segments (p - 1) (matching f v.table)) (length os))
          (sym (heard_is v w o hw (map (notify p) os) x ∙ ap (hearing_of (report_begun v w o)) (asks_are p os)))
          (k.exact p os low high long);
    }

pub finished_report_at : FinishedReportAt
finished_report_at s t before w o hw f hs ht a =
    let e = reached s t hs ht before in
    subst (λ b. ReportsAt b w o hw f) (sym e)
    (reports (history_of (new_world t) before) w o hw f (reached_fit s t hs ht before) (subst (λ b. AcceptedAt b w o hw f) e a))
