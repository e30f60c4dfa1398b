-- What is joined and kept over bytes is what is joined and kept by value.
-- Assumes nothing.
use mathlib.Core.Path.{◌≡◌, refl, sym, ap, subst, ◌∙◌}
use mathlib.Core.Bool.{Bool, true}
use mathlib.Core.List.{List, [], ◌∷◌}
use Prim.Native.Nat.{ℕ, zero, suc, ◌≤◌}
use native.Mathlib.Omega.{arith}
use borrow.Author.Tests.{eq-eqb, ne_eqb}
use lib.Dec.{eqb}
use lib.IntN.{ℤ}
use lib.ListN.{length, length-drop}
use Rattle.octets.specs.Choice.{both}
use Rattle.octets.specs.Parts.{Bytes}
use Rattle.filter.specs.declared.filter.Filter.{Filter}
use Rattle.filter.specs.declared.filter.Filter.TheVariants.{All, AtLeast}
use Rattle.record.specs.Fields.{most_bytes}
use Rattle.table.specs.Table.{next, slots_in, size_b, sound_b}
use Rattle.table.proofs.HeadLaws.{size_reads}
use Rattle.table_write.specs.Start.{fresh, start_of}
use Rattle.update.specs.Start.{new_reader_of}
use Rattle.joining.specs.Joining.{empty_joining, len_after, join_of, joined_in}
use Rattle.joining.specs.declared.joining.Joined.{Joined}
use Rattle.joining.specs.declared.joining.Joining.{Joining}
use Rattle.joining.proofs.JoiningLaws.{Joins, refuses, goes_on, ends, join_is, empty_bytes}
use Rattle.keep.specs.Keep.{keep_of, keeping_number}
use Rattle.carry.specs.Stamp.{later_of, carrying_number}
use Rattle.state_bytes.specs.Results.{refusal}
use Rattle.state_bytes.specs.State.{state_bytes}
use Rattle.state_bytes.specs.JoiningState.{joining_image}
use Rattle.state_images.proofs.JoiningLaws.{joining_images}
use Rattle.server_bytes.specs.Start.{start_at}
use Rattle.tablet_bytes.specs.Calls.{JoinedBytes, join_result, keep_at, carrying, stamp_after, carry_at}
use Rattle.theorems_calls.proofs.JoinedLaws.{keeps_ranges}
use Rattle.theorems_entry.proofs.PromiseLaws.{composes}
use Rattle.theorems_reports.specs.World.{World, new_world, run_of}
use Rattle.theorems_reports.specs.Hearing.{Hearing, hearing_of, undisturbed_b}
use Rattle.theorems_reports.specs.Reports.{Accepted, report_begun}
use Rattle.theorems_bytes.specs.World.{ByteWorld, ByteCall, racp_write, step_at, run_at, history_at, started_at, calls_of, image_in, history_of}
use Rattle.theorems_bytes.specs.Reports.{hearing_at, AcceptedAt, all_quiet_at}
use Rattle.theorems_bytes.specs.Stamps.{base_read, number_read}
use Rattle.theorems_bytes.proofs.ImageLaws.{Fit, run_is, run_fit, reached, reached_fit}
use Rattle.theorems_bytes.proofs.ReportLaws.{accepted_is, heard_is, undisturbed}
use Rattle.theorems_bytes.proofs.StampLaws.{carried_stamp_at}
use Rattle.theorems_copies.specs.Copies.{Copy, copy, keep_heard, keep_all, kept_in, CopyOf, WentOn}
use Rattle.theorems_copies.specs.CopiesAt.{zero_b, keep_heard_at, keep_all_at, kept_at, copy_at, Fetched, FetchedCopyAt, FetchedOnAt, CarriedOverCopyAt, CarriedCopyAt}
use Rattle.theorems_copies.proofs.CopyLaws.{fetched_copy, fetched_on, carried_over_copy}
use Rattle.carry.specs.declared.stamp.CarryError.{CarryError}
use Rattle.std.proofs.Common.{Result}

zero_number : (n : ℕ) → zero_b (refusal n) ≡ eqb n 0
zero_number zero = refl
zero_number (suc n) = sym (ne_eqb (suc n) 0 (λ e. omega arith))

-- one answer of joining
keeps_heard : (c : Copy) {j : Joining} {n : List ℕ} {x : Joined} → Joins j n x
    → keep_heard_at c (joining_image x.joining) (join_result x.answer x.joining.len) ≡ keep_heard c x.answer x.joining
unfolding joining_image keep_at
keeps_heard c (refuses h) = refl
keeps_heard c (goes_on t l) = refl
keeps_heard c {j} {n} {x} (ends t l) =
    let k = length-drop 1 n in
    let b : List ℕ = joined_in x.joining in
    rw (ne_eqb (len_after j n) 0 (λ z. omega (arith, t.filled)))
    (ap (λ (f : Bool). copy (keep_of c.table b).table (both c.fine f)) (zero_number (keeping_number (keep_of c.table b).answer)))

keeps_all : (ns : List (List ℕ)) (c : Copy) (j : Joining) → length j.bytes ≡ most_bytes → keep_all_at c (joining_image j) ns ≡ keep_all c j ns
unfolding keep_all_at keep_all
keeps_all [] c j h = refl
keeps_all (n ∷ ns) c j h =
    ap (λ (x : JoinedBytes). keep_all_at (keep_heard_at c x.joining x.result) x.joining ns) (composes.join j h n)
    ∙ ap (λ (x : Copy). keep_all_at x (joining_image (join_of j n).joining) ns) (keeps_heard c (join_is j n))
    ∙ keeps_all ns (keep_heard c (join_of j n).answer (join_of j n).joining) (join_of j n).joining (keeps_ranges.bytes j n h)

start_table : (z u : List ℕ) → length z ≡ state_bytes → size_b (length u) ≡ true → (start_at z u).table ≡ fresh (slots_in (length u))
unfolding start_at new_reader_of start_of
start_table z u hz hu = rw (eq-eqb (length z) state_bytes hz, hu)

kept_is : (u : List ℕ) (notes : List (List ℕ)) → kept_at u notes ≡ kept_in u notes
kept_is u notes =
    ap (λ (j : List ℕ). keep_all_at (copy u true) j notes) (sym joining_images.zeros) ∙ keeps_all notes (copy u true) empty_joining empty_bytes

-- A report heard at the image of a world and kept in the table u: G, what is promised of that, holds where it does by value.
kept_heard : (v : World) (w o : List ℕ) (hw : Bytes w) (f : Filter) (ks : List ByteCall) (u : List ℕ) (G : Copy → Type 0) → Fit v
    → AcceptedAt (image_in v) w o hw f → all_quiet_at (step_at (image_in v) (racp_write w o hw)) ks ≡ true
    → (hearing_at (step_at (image_in v) (racp_write w o hw)) ks).closed ≡ true
    → (Accepted v w o f → undisturbed_b (report_begun v w o) (calls_of ks) ≡ true → (hearing_of (report_begun v w o) (calls_of ks)).closed ≡ true
    → G (kept_in u (hearing_of (report_begun v w o) (calls_of ks)).notes))
    → G (kept_at u (hearing_at (step_at (image_in v) (racp_write w o hw)) ks).notes)
kept_heard v w o hw f ks u G x a quiet closed by_value =
    let accepted = accepted_is v w o hw f x a in
    let heard = heard_is v w o hw ks x in
    subst G (ap (λ (h : Hearing). kept_in u h.notes) (sym heard) ∙ sym (kept_is u _))
    (by_value accepted (undisturbed v w o hw f ks x accepted quiet) (ap (λ (h : Hearing). h.closed) (sym heard) ∙ closed))

-- what is fetched at b
abbrev Fetches : (w o : List ℕ) → Bytes w → List ByteCall → List ℕ → List ℕ → ByteWorld → Type 0
Fetches w o hw ks z u b = Fetched w o hw ks b
    → let c = copy_at z u (hearing_at (step_at b (racp_write w o hw)) ks).notes in (c.fine ≡ true) × CopyOf (slots_in (length u)) b.table c.table

at_image : (v : World) (w o : List ℕ) (hw : Bytes w) (ks : List ByteCall) (z u : List ℕ) → Fit v → length z ≡ state_bytes → size_b (length u) ≡ true
    → Fetches w o hw ks z u (image_in v)
at_image v w o hw ks z u x hz hu f =
    let n = size_reads (length u) hu in
    let notes : List (List ℕ) = (hearing_at (step_at (image_in v) (racp_write w o hw)) ks).notes in
    let G : Copy → Type 0 = λ k. (k.fine ≡ true) × CopyOf (slots_in (length u)) v.table k.table in
    subst (λ (t : List ℕ). G (kept_at t notes)) (sym (start_table z u hz hu))
    (kept_heard v w o hw All ks (fresh (slots_in (length u))) G x f.accepted f.quiet f.closed
    (fetched_copy v w o (calls_of ks) (slots_in (length u)) x.good.bytes n.some n.few))

pub fetched_copy_at : FetchedCopyAt
fetched_copy_at s t before w o hw ks z u hs ht hz hu =
    subst (Fetches w o hw ks z u) (sym (reached s t hs ht before))
    (at_image (history_of (new_world t) before) w o hw ks z u (reached_fit s t hs ht before) hz hu)

-- what is new at b, kept in the copy u
abbrev GoesOn : (w o : List ℕ) → Bytes w → List ByteCall → List ℕ → ByteWorld → Type 0
GoesOn w o hw ks u b = AcceptedAt b w o hw (AtLeast (next u)) → all_quiet_at (step_at b (racp_write w o hw)) ks ≡ true
    → (hearing_at (step_at b (racp_write w o hw)) ks).closed ≡ true
    → let c = kept_at u (hearing_at (step_at b (racp_write w o hw)) ks).notes in (c.fine ≡ true) × WentOn b.table u c.table

on_image : (v : World) (w o : List ℕ) (hw : Bytes w) (ks : List ByteCall) (u : List ℕ) → Fit v → Bytes u → sound_b u ≡ true → GoesOn w o hw ks u (image_in v)
on_image v w o hw ks u x hu su a quiet closed =
    kept_heard v w o hw (AtLeast (next u)) ks u (λ k. (k.fine ≡ true) × WentOn v.table u k.table) x a quiet closed
    (fetched_on v w o (calls_of ks) u x.good.bytes hu su)

pub fetched_on_at : FetchedOnAt
fetched_on_at s t before w o hw ks u hs ht hu su =
    subst (GoesOn w o hw ks u) (sym (reached s t hs ht before))
    (on_image (history_of (new_world t) before) w o hw ks u (reached_fit s t hs ht before) hu su)

pub carried_over_copy_at : CarriedOverCopyAt
unfolding carry_at
carried_over_copy_at n t u sd k stamp q y h =
    ap (λ (c : Result ℤ CarryError). carrying (refusal (carrying_number c)) (stamp_after y c)) (carried_over_copy n t u sd k stamp q h)

-- the calls after the stamp, at the image of a world
module _ (v : World) (x : Fit v) (after : List ByteCall) (w o : List ℕ) (hw : Bytes w) (ks : List ByteCall) (z u : List ℕ) (hz : length z ≡ state_bytes)
    (hu : size_b (length u) ≡ true) where
  went : run_at (image_in v) after ≡ image_in (run_of v (calls_of after))
  went = run_is after v x

  sound_after : sound_b (run_at (image_in v) after).table ≡ true
  sound_after = ap (λ (b : ByteWorld). sound_b b.table) went ∙ (run_fit after v x).good.sound

  fetches_after : Fetches w o hw ks z u (run_at (image_in v) after)
  fetches_after = subst (Fetches w o hw ks z u) (sym went) (at_image (run_of v (calls_of after)) w o hw ks z u (run_fit after v x) hz hu)

  carries_after : (stamp q : ℕ) (y : ℤ) → Fetched w o hw ks (run_at (image_in v) after) → later_of (next (run_at (image_in v) after).table) q ≤ slots_in (length u)
      → carry_at stamp q (copy_at z u (hearing_at (step_at (run_at (image_in v) after) (racp_write w o hw)) ks).notes).table y
      ≡ carry_at stamp q (run_at (image_in v) after).table y
  carries_after stamp q y f h = carried_over_copy_at (slots_in (length u)) _ _ sound_after (fetches_after f).1 stamp q y h

abbrev CarriesCopy : List ByteCall → (w o : List ℕ) → Bytes w → List ByteCall → List ℕ → List ℕ → ByteWorld → Type 0
CarriesCopy after w o hw ks z u b = (stamp q : ℕ) (y : ℤ) → Fetched w o hw ks (run_at b after) → later_of (next (run_at b after).table) q ≤ slots_in (length u)
    → carry_at stamp q (copy_at z u (hearing_at (step_at (run_at b after) (racp_write w o hw)) ks).notes).table y ≡ carry_at stamp q (run_at b after).table y

pub carried_copy_at : CarriedCopyAt
carried_copy_at s t before after w x hw ks z u o p y hs ht hz hu ro rp few f h =
    let b = history_at (started_at s t) before in (
      subst (CarriesCopy after w x hw ks z u) (sym (reached s t hs ht before))
          (carries_after (history_of (new_world t) before) (reached_fit s t hs ht before) after w x hw ks z u hz hu)
          (base_read b o) (number_read b o) y f h,
      carried_stamp_at s t before after o p y hs ht ro rp few,
    )
