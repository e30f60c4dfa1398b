-- Joining is assembling: a segment that fits is of the sender's form, so a joining state in step takes it.
-- Assumes nothing.
use mathlib.Core.Path.{◌≡◌, refl, sym, ◌∙◌, ap}
use mathlib.Core.Bool.{Bool, true, false, not}
use mathlib.Core.List.{List, [], ◌∷◌, ◌++◌, map, append-nil, append_assoc}
use Prim.Native.Nat.{ℕ, ◌+◌, ◌/◌, ◌%◌, ◌≤◌, ◌<◌}
use native.Mathlib.Omega.{arith}
use borrow.Author.Tests.{le-leb, lt-leb, eqb-true, eqb-false, leb-true, not-true}
use lib.Dec.{leb, eqb}
use lib.ListN.{length, take, drop, length-append}
use lib.Seq.{drop-cons, take-append_seam, drop-append_seam, take-append-le}
use Rattle.octets.specs.Choice.{both, pick}
use Rattle.octets.specs.Numbers.{at}
use Rattle.octets.proofs.Tests.{both_reads}
use Rattle.record_read.specs.Reading.{read_of}
use Rattle.racp_notify.specs.Notify.{header_of, segment_of, counter_after}
use Rattle.joining.specs.Joining as joining
use Rattle.joining.specs.Joining.{empty_joining, counter_in, body, filled_b, join_of, joined_in}
use Rattle.joining.specs.declared.joining.Answer.TheVariants as answers
use Rattle.joining.specs.declared.joining.Answer.TheVariants.{Whole}
use Rattle.joining.specs.declared.joining.Joining.{Joining}
use Rattle.theorems_reports.specs.Joined.{got, join_all}
use Rattle.theorems_reports.proofs.JoinLaws.{Synced, synced_empty, join_last, join_more}
use Rattle.theorems_handed.specs.Handed.{Handed, handed, first_set_b, last_set_b, fits_b, assembled_from}
use Rattle.theorems_handed.specs.Joined.{Short, JoiningAssembles}
use Rattle.record.specs.declared.kinds.Record.{Record}
use Rattle.std.proofs.Common.{Option}

-- what is asked of segments: they fit together, and no record is longer than 45 bytes
record Fine (h : Handed) : Type 0 where
  fitting : h.fitting ≡ true
  short : Short h.whole
  few : length h.unfinished < 45

-- A segment that fits: its counter is k, and its first bit is set exactly where nothing came of the record under way.
record Fits (k : ℕ) (part n : List ℕ) : Type 0 where
  filled : 2 ≤ length n
  counter : counter_in n ≡ k
  first : first_set_b n ≡ eqb (length part) 0

first_reads : (b x : Bool) → pick b x (not x) ≡ true → x ≡ b
first_reads true x h = h
first_reads false x h = not-true x h

fits_reads : (k : ℕ) (part n : List ℕ) → fits_b k part n ≡ true → Fits k part n
unfolding filled_b
fits_reads k part n h =
    let x = both_reads (filled_b n) _ h in
    let y = both_reads (eqb (counter_in n) k) _ x.1 in
    record { filled = leb-true 2 (length n) x.0; counter = eqb-true (counter_in n) k y.0; first = first_reads (eqb (length part) 0) (first_set_b n) y.1 }

-- a header byte is made of what is read in it
header_is : (f l : Bool) (h k : ℕ) → eqb (h % 2) 1 ≡ f → eqb (h / 2 % 2) 1 ≡ l → h / 4 ≡ k → h ≡ header_of f l k
unfolding header_of
header_is true true h k x y z = let p = eqb-true (h % 2) 1 x in let q = eqb-true (h / 2 % 2) 1 y in omega arith
header_is true false h k x y z = let p = eqb-true (h % 2) 1 x in let q = eqb-false (h / 2 % 2) 1 y in omega arith
header_is false true h k x y z = let p = eqb-false (h % 2) 1 x in let q = eqb-true (h / 2 % 2) 1 y in omega arith
header_is false false h k x y z = let p = eqb-false (h % 2) 1 x in let q = eqb-false (h / 2 % 2) 1 y in omega arith

-- ONE SEGMENT that fits is of the sender's form: the next q bytes of a record that goes on with `tail`.
module _ (k : ℕ) (part n : List ℕ) (f : Fits k part n) where
  abbrev q : ℕ
  q = length (body n)

  abbrev with_tail : List ℕ → List ℕ
  with_tail tail = part ++ (body n ++ tail)

  some : 1 ≤ q
  some = let x = ap (λ (l : List ℕ). length l) (drop-cons n 0 0 (omega (arith, f.filled))) in omega (arith, f.filled)

  sizes : (tail : List ℕ) → length (with_tail tail) ≡ length part + q + length tail
  sizes tail = omega (arith, length-append part (body n ++ tail), length-append (body n) tail)

  next_bytes_lem : (tail : List ℕ) → take q (drop (length part) (with_tail tail)) ≡ body n
  next_bytes_lem tail = ap (take q) (drop-append_seam part (body n ++ tail)) ∙ take-append_seam (body n) tail

  segment_is : (tail : List ℕ) (l : Bool) → last_set_b n ≡ l → leb (length (with_tail tail)) (length part + q) ≡ l
      → n ≡ segment_of q (length part) k (with_tail tail)
  unfolding segment_of
  segment_is tail l e m =
      rw (next_bytes_lem tail, m)
      (drop-cons n 0 0 (omega (arith, f.filled)) ∙ ap (λ (h : ℕ). h ∷ body n) (header_is _ _ (at n 0) k f.first e f.counter))

  segment_last : last_set_b n ≡ true → n ≡ segment_of q (length part) k (part ++ body n)
  segment_last e =
      segment_is [] true e (le-leb (length (with_tail [])) (length part + q) (omega (arith, sizes [])))
      ∙ ap (λ (b : List ℕ). segment_of q (length part) k (part ++ b)) (append-nil (body n))

  -- not the last one: whatever byte comes after it
  segment_more : last_set_b n ≡ false → n ≡ segment_of q (length part) k (with_tail (0 ∷ []))
  segment_more e =
      let tail : List ℕ = 0 ∷ [] in
      segment_is tail false e (lt-leb (length (with_tail tail)) (length part + q) (omega (arith, sizes tail)))

-- what the tablet makes of a segment, and then of the rest
module _ (j i : Joining) (n : List ℕ) (ns : List (List ℕ)) where
  joins_whole : (b : List ℕ) (l : List (Option Record)) → join_of j n ≡ joining.joined Whole i → joined_in i ≡ b → join_all i ns ≡ got l true
      → join_all j (n ∷ ns) ≡ got (read_of b ∷ l) true
  unfolding join_all
  joins_whole b l e w r = rw (e, r, w)

  joins_on : join_of j n ≡ joining.joined answers.More i → join_all j (n ∷ ns) ≡ join_all i ns
  unfolding join_all
  joins_on e = rw e

-- what assembling makes of a last segment and of any other, and what is then asked of the segment and of the rest
module _ (k : ℕ) (part n : List ℕ) (ns : List (List ℕ)) where
  abbrev last : Handed
  last = assembled_from (counter_after k) [] ns

  abbrev more : Handed
  more = assembled_from (counter_after k) (part ++ body n) ns

  assembled_last : last_set_b n ≡ true
      → assembled_from k part (n ∷ ns) ≡ handed ((part ++ body n) ∷ last.whole) last.unfinished (both (fits_b k part n) last.fitting)
  unfolding assembled_from
  assembled_last e = rw e

  assembled_more : last_set_b n ≡ false
      → assembled_from k part (n ∷ ns) ≡ handed more.whole more.unfinished (both (fits_b k part n) more.fitting)
  unfolding assembled_from
  assembled_more e = rw e

  record Last : Type 0 where
    fits : Fits k part n
    here : length (part ++ body n) ≤ 45
    rest : Fine last

  fine_last : last_set_b n ≡ true → Fine (assembled_from k part (n ∷ ns)) → Last
  fine_last e h =
      let f = rw (assembled_last e) at h in
      let x = both_reads (fits_b k part n) last.fitting f.fitting in
      record {
        fits = fits_reads k part n x.0;
        here = f.short.0;
        rest = record { fitting = x.1; short = f.short.1; few = f.few };
      }

  record More : Type 0 where
    fits : Fits k part n
    rest : Fine more

  fine_more : last_set_b n ≡ false → Fine (assembled_from k part (n ∷ ns)) → More
  fine_more e h =
      let f = rw (assembled_more e) at h in
      let x = both_reads (fits_b k part n) more.fitting f.fitting in
      record { fits = fits_reads k part n x.0; rest = record { fitting = x.1; short = f.short; few = f.few } }

-- What came of the record under way is a beginning of the next whole record or of the unfinished one, and not all of it.
under_way : (ns : List (List ℕ)) (k : ℕ) (part : List ℕ) → Fine (assembled_from k part ns) → length part < 45
unfolding assembled_from
under_way [] k part h = h.few
under_way (n ∷ ns) k part h = go (under_way ns (counter_after k) (part ++ body n)) (last_set_b n) refl
  where
    go : (Fine (assembled_from (counter_after k) (part ++ body n) ns) → length (part ++ body n) < 45) → (l : Bool) → last_set_b n ≡ l → length part < 45
    go later true e =
        let x = fine_last k part n ns e h in
        let y = some k part n x.fits in
        omega (arith, x.here, length-append part (body n))
    go later false e =
        let x = fine_more k part n ns e h in
        let y = later x.rest in
        omega (arith, length-append part (body n))

-- the state is in step with any record that begins with the same bytes
synced_with : {a b : List ℕ} {sent k : ℕ} {j : Joining} → take sent a ≡ take sent b → Synced a sent k j → Synced b sent k j
synced_with e s =
    record {
      inside = s.inside;
      stands = s.stands;
      bytes = s.bytes ∙ e;
      long = s.long;
      follows = s.follows;
      ranges = s.ranges;
    }

-- THE INDUCTION: what came of the record under way stands in the joining state.
abbrev Joins : List (List ℕ) → Type 0
Joins ns = (k : ℕ) (part : List ℕ) (j : Joining) → Synced part (length part) k j → Fine (assembled_from k part ns)
    → join_all j ns ≡ got (map read_of (assembled_from k part ns).whole) true

module _ (k : ℕ) (part n : List ℕ) (ns : List (List ℕ)) (later : Joins ns) (j : Joining) (s : Synced part (length part) k j) where
  begins_with : (b : List ℕ) → Synced (part ++ b) (length part) k j
  begins_with b = synced_with (sym (take-append-le (length part) part b (omega arith))) s

  joins_last : last_set_b n ≡ true → Last k part n ns → join_all j (n ∷ ns) ≡ got (map read_of ((part ++ body n) ∷ (last k part n ns).whole)) true
  joins_last e x =
      let f = x.fits in
      let c = some k part n f in
      let m = length-append part (body n) in
      let z = join_last (part ++ body n) (length part) k (length (body n)) j x.here (omega arith) c (begins_with (body n)) (omega arith) in
      joins_whole j _ n ns (part ++ body n) _ (ap (join_of j) (segment_last k part n f e) ∙ z.joins) z.whole
      (later (counter_after k) [] _ (z.synced []) x.rest)

  joins_more : last_set_b n ≡ false → More k part n ns → join_all j (n ∷ ns) ≡ got (map read_of (more k part n ns).whole) true
  joins_more e x =
      let f = x.fits in
      let here = part ++ body n in
      let c = some k part n f in
      let u = under_way ns (counter_after k) here x.rest in
      let a = length-append part (body n) in
      let tail : List ℕ = 0 ∷ [] in
      let b = part ++ (body n ++ tail) in
      let m = sizes k part n f tail in
      let sent = length part + length (body n) in
      let z = join_more b (length part) k (length (body n)) j (omega arith) (omega arith) c (begins_with (body n ++ tail)) (omega arith) in
      let front : take sent b ≡ take sent here =
      ap (take sent) (sym (append_assoc part (body n) tail)) ∙ take-append-le sent here tail (omega arith) in
      joins_on j _ n ns (ap (join_of j) (segment_more k part n f e) ∙ z.joins)
      ∙ later (counter_after k) here _ (rw a (synced_with front z.synced)) x.rest

joins_all : (ns : List (List ℕ)) → Joins ns
unfolding join_all assembled_from
joins_all [] k part j s h = refl
joins_all (n ∷ ns) k part j s h = go (joins_all ns) (last_set_b n) refl
  where
    go : Joins ns → (l : Bool) → last_set_b n ≡ l → join_all j (n ∷ ns) ≡ got (map read_of (assembled_from k part (n ∷ ns)).whole) true
    go later true e = rw (assembled_last k part n ns e) (joins_last k part n ns later j s e (fine_last k part n ns e h))
    go later false e = rw (assembled_more k part n ns e) (joins_more k part n ns later j s e (fine_more k part n ns e h))

pub joining_assembles : JoiningAssembles
joining_assembles ns f s u = joins_all ns 0 [] empty_joining (synced_empty [] 0) (record { fitting = f; short = s; few = u })
