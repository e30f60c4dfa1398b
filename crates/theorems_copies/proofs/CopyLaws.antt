-- The theorems about copies: what joining gives of a finished report is the row of held records, and keeping that row copies the table.
-- Assumes nothing.
use mathlib.Core.Path.{◌≡◌, refl, sym, ap, ◌∙◌, subst}
use mathlib.Core.Bool.{Bool, true, false}
use mathlib.Core.List.{List, [], ◌∷◌, ◌++◌, map}
use Prim.Native.Nat.{ℕ, zero, suc, ◌+◌, ◌-◌, ◌%◌, ◌≤◌, ◌<◌}
use native.Mathlib.Omega.{arith}
use borrow.Author.Tests.{eq-eqb, eqb-true}
use lib.Dec.{eqb}
use lib.ListN.{length, drop, length-append, length-drop}
use lib.Seq.{drop-nil}
use Rattle.octets.specs.Choice.{either}
use Rattle.octets.specs.Parts.{Bytes}
use Rattle.octets.proofs.NumberLaws.{le16_small}
use Rattle.octets.proofs.Tests.{clash}
use Rattle.filter.specs.Filter.{matches_b}
use Rattle.filter.specs.declared.filter.Filter.{Filter}
use Rattle.filter.specs.declared.filter.Filter.TheVariants.{All, AtLeast}
use Rattle.record.specs.declared.kinds.Record.{Record}
use Rattle.record_read.specs.Reading.{read_of}
use Rattle.table.specs.Table.{capacity, count, oldest, next, held, first, age_of, sound_b, row_b, ring, record_in, slots, next_slot}
use Rattle.table.specs.Rules.{Head}
use Rattle.table.proofs.HeadLaws.{sound_head, sound_reads}
use Rattle.table.proofs.SlotLaws.{first_small}
use Rattle.table_write.specs.Start.{fresh}
use Rattle.table_write.specs.Append.{newest}
use Rattle.table_write.proofs.HistoryLaws.{length_held}
use Rattle.table_write.proofs.SoundLaws.{length_ring}
use Rattle.table_history.proofs.StartLaws.{starts}
use Rattle.table_look.specs.Matching.{matching_from, matching}
use Rattle.table_look.proofs.LookLaws.{drop_map}
use Rattle.table_look.proofs.NumberLaws.{by_number}
use Rattle.joining.specs.Joining.{empty_joining, join_of, joined_in}
use Rattle.joining.specs.declared.joining.Answer.{Answer}
use Rattle.joining.specs.declared.joining.Answer.TheVariants.{More, Whole, Refused}
use Rattle.joining.specs.declared.joining.Joining.{Joining}
use Rattle.carry.proofs.NewestLaws.{carry_newest}
use Rattle.theorems_reports.specs.World.{World, Call}
use Rattle.theorems_reports.specs.Reports.{Accepted, report_begun}
use Rattle.theorems_reports.specs.Hearing.{hearing_of, undisturbed_b}
use Rattle.theorems_reports.specs.Joined.{Got, add, join_all}
use Rattle.theorems_reports.proofs.AccessLaws.{rows_passed, answered_passed}
use Rattle.theorems_reports.proofs.BeginLaws.{accepted_some}
use Rattle.theorems_reports.proofs.HeldLaws.{bytes_slot}
use Rattle.theorems_reports.proofs.ReportLaws.{heard_report}
use Rattle.theorems_bytes.proofs.NumberLaws.{least_held}
use Rattle.theorems_copies.specs.Copies.{Copy, copy, after_keeping, keep_heard, keep_all, kept_in, copy_of, CopyOf, FetchedCopy, WentOn, FetchedOn, CarriedOverCopy}
use Rattle.theorems_copies.proofs.KeepLaws.{Holds, EachBytes, none, more, keep_read, keep_readings, by_reading, ready_for, bytes_later, row_later, keeps_row}
use Rattle.std.proofs.Common.{Some}

-- what is kept is what joining reads
abbrev KeptRead : List (List ℕ) → Type 0
KeptRead ns = (c : Copy) (j : Joining) → (join_all j ns).fine ≡ true → keep_all c j ns ≡ keep_readings c (join_all j ns).records

one_read : (ns : List (List ℕ)) → KeptRead ns → (c : Copy) (a : Answer) (k : Joining) → (add a k (join_all k ns)).fine ≡ true
    → keep_all (keep_heard c a k) k ns ≡ keep_readings c (add a k (join_all k ns)).records
unfolding keep_readings
one_read ns rest c More k e = rest c k e
one_read ns rest c Whole k e =
    ap (λ (x : Copy). keep_all x k ns) (ap (after_keeping c.fine) (by_reading c.table (joined_in k)))
    ∙ rest (after_keeping c.fine (keep_read c.table (read_of (joined_in k)))) k e
one_read ns rest c Refused k e = absurd (clash false e refl)

kept_read : (ns : List (List ℕ)) → KeptRead ns
unfolding keep_all keep_readings join_all
kept_read [] c j h = refl
kept_read (n ∷ ns) c j h = one_read ns (kept_read ns) c (join_of j n).answer (join_of j n).joining h

-- all held records match All
all_match : (h k : ℕ) (l : List Record) → matching_from All h k l ≡ l
unfolding matching_from matches_b
all_match h k [] = refl
all_match h k (r ∷ l) = ap (λ (m : List Record). r ∷ m) (all_match h (k + 1) l)

-- the held slots are bytes
each_bytes : (n : ℕ) (t : List ℕ) (o : ℕ) → Bytes t → EachBytes (slots n t o)
unfolding slots
each_bytes zero t o h = none
each_bytes (suc n) t o h = more (bytes_slot t o h) (each_bytes n t (next_slot (length t) o) h)

pub carried_over_copy : CarriedOverCopy
carried_over_copy n t u sd k stamp q h = carry_newest stamp q n t u sd k.sound k.held k.next h

-- a new table is ready for any number
new_copy : (n s : ℕ) → 1 ≤ n → n ≤ 1023 → Holds n (fresh n) [] s
new_copy n s h1 h2 =
    let b = starts n h1 h2 in
    let none : count (fresh n) ≡ 0 = sym (length_held (fresh n)) ∙ ap length b.held in
    record {
      sound = b.sound;
      bytes = b.bytes;
      capacity = b.capacity;
      held = b.held ∙ sym (drop-nil (0 - n));
      ready = ap (λ (x : Bool). either x (eqb s (next (fresh n)))) (eq-eqb (count (fresh n)) 0 none);
    }

-- the end of a row of held records: the table's next number, and the copy is ready for it
next_is : (t : List ℕ) → Bytes t → Head t → (first t + count t) % 65536 ≡ next t
next_is t hb d = omega (arith, le16_small t 8 hb, d.fits, d.few)

next_ready : (n : ℕ) (u : List ℕ) (l : List Record) (s : ℕ) → 1 ≤ n → 0 < length l → Holds n u l s → next u ≡ s
next_ready n u l s h some k = sym (go (eqb (count u) 0) refl k.ready)
  where
    size : count u ≡ length l - (length l - n)
    size = sym (length_held u) ∙ ap length k.held ∙ length-drop (length l - n) l

    go : (b : Bool) → eqb (count u) 0 ≡ b → either b (eqb s (next u)) ≡ true → s ≡ next u
    go true e r = let z = eqb-true (count u) 0 e in absurd (omega (arith, size))
    go false e r = eqb-true s (next u) r

-- a report is accepted of a sound table only
accepted_sound : (v : World) (w o : List ℕ) (f : Filter) → Accepted v w o f → sound_b v.table ≡ true
accepted_sound v w o f a = (rows_passed v.clock v.table w o (answered_passed v.clock v.table w o a.done)).0.sound

-- a list that is not empty
filled : (l : List Record) → (l ≡ [] → ⊥) → 0 < length l
filled [] some = absurd (some refl)
filled (r ∷ l) some = omega arith

pub fetched_copy : FetchedCopy
unfolding held ring matching
fetched_copy v w o ks n hb h1 h2 a calm closed =
    let t = v.table in
    let notes = (hearing_of (report_begun v w o) ks).notes in
    let heard = heard_report v w o All ks hb a calm in
    let joined = (heard.finished closed).joined in
    let readings : (join_all empty_joining notes).records ≡ map Some (held t) =
    ap (λ (g : Got). g.records) joined ∙ ap (map Some) (all_match (count t) 0 (held t)) in
    let sd = accepted_sound v w o All a in
    let row = sound_reads t sd in
    let begin : Holds n (fresh n) [] (first t) = new_copy n (first t) h1 h2 in
    let d = keeps_row n (ring t) (first t) row.row (first_small t) (each_bytes (count t) t (oldest t) hb) (fresh n) [] begin in
    let c : copy_of n notes ≡ keep_readings (copy (fresh n) true) (map Some (held t)) =
    kept_read notes (copy (fresh n) true) empty_joining heard.fine ∙ ap (keep_readings (copy (fresh n) true)) readings in
    let number : (first t + length (ring t)) % 65536 ≡ next t =
    ap (λ (k : ℕ). (first t + k) % 65536) (length_ring t) ∙ next_is t hb (sound_head t sd) in
    subst (λ (x : Copy). (x.fine ≡ true) × CopyOf n t x.table) (sym c)
    (d.fine, copied (subst (Holds n _ (held t)) number d.holds))
  where
    some : 0 < length (held v.table)
    some = filled (held v.table) (λ e. accepted_some v w o All hb a (all_match (count v.table) 0 (held v.table) ∙ e))

    copied : {u : List ℕ} → Holds n u (held v.table) (next v.table) → CopyOf n v.table u
    copied k = record { sound = k.sound; held = k.held; next = next_ready n _ _ _ h1 some k; bytes = k.bytes }

-- a copy that is there is ready for its next number
old_copy : (u : List ℕ) → Bytes u → sound_b u ≡ true → Holds (capacity u) u (held u) (next u)
old_copy u hb sd =
    let d = sound_head u sd in
    let none : length (held u) - capacity u ≡ 0 = omega (arith, length_held u) in
    record {
      sound = sd;
      bytes = hb;
      capacity = refl;
      held = sym (ap (λ (k : ℕ). drop k (held u)) none);
      ready = ready_for (eqb (count u) 0) (next u) (next u) refl;
    }

-- a copy u, whose next number and all newer were asked for, by a filter that takes just these
module _ (v : World) (w o u : List ℕ) (f : Filter) (hb : Bytes v.table) (hu : Bytes u) (su : sound_b u ≡ true) (a : Accepted v w o f)
    (inside : age_of v.table (next u) < count v.table) (newer : matching f v.table ≡ drop (age_of v.table (next u)) (held v.table)) where
  abbrev t : List ℕ
  t = v.table

  sound : sound_b t ≡ true
  sound = accepted_sound v w o f a

  -- the held slots from that number on, in a row to before the table's next number
  abbrev new : List (List ℕ)
  new = drop (age_of t (next u)) (ring t)

  new_row : row_b new (next u) ≡ true
  new_row =
      let e : (first t + age_of t (next u)) % 65536 ≡ next u = back (first t) (next u) (first_small t) (le16_small u 8 hu) in
      ap (row_b new) (sym e) ∙ row_later (age_of t (next u)) (ring t) (first t) (first_small t) (sound_reads t sound).row
    where
      back : (f q : ℕ) → f < 65536 → q < 65536 → (f + (q + 65536 - f) % 65536) % 65536 ≡ q
      back f q l h = omega arith

  new_held : map record_in new ≡ drop (age_of t (next u)) (held t)
  unfolding held
  new_held = sym (drop_map record_in (age_of t (next u)) (ring t))

  new_bytes : EachBytes new
  unfolding ring
  new_bytes = bytes_later (age_of t (next u)) (ring t) (each_bytes (count t) t (oldest t) hb)

  new_next : (next u + length new) % 65536 ≡ next t
  new_next =
      ap (λ (k : ℕ). (next u + k) % 65536) (length-drop (age_of t (next u)) (ring t) ∙ ap (λ (k : ℕ). k - age_of t (next u)) (length_ring t))
      ∙ ahead (first t) (next u) (count t) (first_small t) inside
      ∙ next_is t hb (sound_head t sound)
    where
      ahead : (f q c : ℕ) → f < 65536 → (q + 65536 - f) % 65536 < c → (q + (c - (q + 65536 - f) % 65536)) % 65536 ≡ (f + c) % 65536
      ahead f q c l h = omega arith

  some : 0 < length (held u ++ map record_in new)
  some =
      let n = length-append (held u) (map record_in new) in
      let m = ap length new_held in
      omega (arith, length-drop (age_of t (next u)) (held t), length_held t, inside)

  went : {x : List ℕ} → Holds (capacity u) x (held u ++ map record_in new) ((next u + length new) % 65536) → WentOn t u x
  went k =
      record {
        sound = k.sound;
        held = k.held ∙ ap (λ (l : List Record). newest (capacity u) (held u ++ l)) new_held;
        next = next_ready (capacity u) _ _ _ (sound_head u su).some some k ∙ new_next;
        bytes = k.bytes;
      }

  pub goes_on : (ks : List Call) → undisturbed_b (report_begun v w o) ks ≡ true → (hearing_of (report_begun v w o) ks).closed ≡ true
      → let c = kept_in u (hearing_of (report_begun v w o) ks).notes in (c.fine ≡ true) × WentOn t u c.table
  goes_on ks calm closed =
      let notes = (hearing_of (report_begun v w o) ks).notes in
      let heard = heard_report v w o f ks hb a calm in
      let readings : (join_all empty_joining notes).records ≡ map Some (map record_in new) =
      ap (λ (g : Got). g.records) (heard.finished closed).joined ∙ ap (map Some) (newer ∙ sym new_held) in
      let c : kept_in u notes ≡ keep_readings (copy u true) (map Some (map record_in new)) =
      kept_read notes (copy u true) empty_joining heard.fine ∙ ap (keep_readings (copy u true)) readings in
      let d = keeps_row (capacity u) new (next u) new_row (le16_small u 8 hu) new_bytes u (held u) (old_copy u hu su) in
      subst (λ (x : Copy). (x.fine ≡ true) × WentOn t u x.table) (sym c) (d.fine, went d.holds)

pub fetched_on : FetchedOn
fetched_on v w o ks u hb hu su a calm closed =
    let sd = accepted_sound v w o (AtLeast (next u)) a in
    let inside = least_held v w o hb sd (next u) a in
    goes_on v w o u (AtLeast (next u)) hb hu su a inside (by_number.at_least v.table (next u) sd inside) ks calm closed
