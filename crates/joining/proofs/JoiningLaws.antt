-- Joining, from its tests to the facts of `Ranges` and `Takes` and back; what one notification does to the state and to the record in it.
-- Assumes nothing.
use mathlib.Core.Path.{◌≡◌, refl, sym, ap, ◌∙◌}
use mathlib.Core.Bool.{Bool, true, false}
use mathlib.Core.List.{List, [], ◌++◌}
use Prim.Native.Nat.{ℕ, ◌+◌, ◌-◌, ◌%◌, ◌≤◌, ◌<◌}
use borrow.Author.Tests.{leb-true, leb-false, le-leb, lt-leb, eqb-true, eqb-false, eq-eqb, ne_eqb}
use native.Mathlib.Omega.{arith}
use lib.Dec.{leb, eqb}
use lib.ListN.{length, take, drop, length-drop}
use lib.Seq.{take_all}
use Rattle.octets.specs.Choice.{both, either, pick}
use Rattle.octets.specs.Parts.{over}
use Rattle.octets.proofs.PartLaws.{length_over, take_over}
use Rattle.octets.proofs.Tests.{false_by, both_reads, both_no, both_not}
use Rattle.record.specs.Fields.{most_bytes}
use Rattle.joining.specs.Joining.{empty, whole, inside, joining, blank, empty_joining, ranges_b, inside_b, first_bit, last_bit, counter_in, body, filled_b, placed_b, follows_b, standing, len_after, takes_b, laid_under, joined, taken_of, join_of, joined_in, Ranges, Takes}
use Rattle.joining.specs.declared.joining.Answer.TheVariants.{More, Whole, Refused}
use Rattle.joining.specs.declared.joining.Joining.{Joining}
use Rattle.joining.specs.declared.joining.Joined.{Joined}

pub ranges_reads : (j : Joining) → ranges_b j ≡ true → Ranges j
unfolding ranges_b
ranges_reads j h =
    let x = both_reads (both (leb j.phase inside) (leb j.counter 63)) _ h in
    let y = both_reads (leb j.phase inside) (leb j.counter 63) x.0 in
    let z = both_reads (leb j.len most_bytes) _ x.1 in
    record {
      phase = leb-true _ _ y.0;
      counter = leb-true _ _ y.1;
      len = leb-true _ _ z.0;
      fresh = λ e.
          let w = both_reads (eqb j.counter 0) (eqb j.len 0) (rw (eq-eqb j.phase empty e) at z.1) in
          (eqb-true _ _ w.0, eqb-true _ _ w.1);
      begun = λ ne. leb-true 1 j.len (rw (ne_eqb j.phase empty ne) at z.1);
    }

pub ranges_makes : (j : Joining) → Ranges j → ranges_b j ≡ true
unfolding ranges_b
ranges_makes j r =
    simp (le-leb _ _ r.phase, le-leb _ _ r.counter, le-leb _ _ r.len) (go (eqb j.phase empty) refl)
  where
    go : (b : Bool) → eqb j.phase empty ≡ b → pick b (both (eqb j.counter 0) (eqb j.len 0)) (leb 1 j.len) ≡ true
    go true e = let f = r.fresh (eqb-true _ _ e) in simp (eq-eqb _ _ f.0, eq-eqb _ _ f.1)
    go false e = le-leb _ _ (r.begun (eqb-false _ _ e))

module _ (j : Joining) (n : List ℕ) where
  pub takes_reads : takes_b j n ≡ true → Takes j n
  unfolding takes_b filled_b placed_b follows_b
  takes_reads h =
      let x = both_reads (leb 2 (length n)) _ h in
      let y = both_reads (ranges_b j) _ x.1 in
      let z = both_reads (pick (inside_b j) (eqb (first_bit n) 0) (eqb (first_bit n) 1)) _ y.1 in
      let w = both_reads (either (eqb j.phase empty) (eqb (counter_in n) j.counter)) (leb (len_after j n) most_bytes) z.1 in
      record {
        filled = leb-true _ _ x.0;
        ranges = ranges_reads j y.0;
        later = λ e. eqb-true (first_bit n) 0 (rw (eq-eqb j.phase inside e) at z.0);
        first = λ ne. eqb-true (first_bit n) 1 (rw (ne_eqb j.phase inside ne) at z.0);
        follows = λ ne. eqb-true (counter_in n) j.counter (rw (ne_eqb j.phase empty ne) at w.0);
        room = leb-true _ _ w.1;
      }

  pub takes_makes : Takes j n → takes_b j n ≡ true
  unfolding takes_b filled_b placed_b follows_b
  takes_makes t =
      simp (
        le-leb _ _ t.filled,
        ranges_makes j t.ranges,
        placed (eqb j.phase inside) refl,
        followed (eqb j.phase empty) refl,
        le-leb _ _ t.room,
      )
    where
      placed : (b : Bool) → eqb j.phase inside ≡ b → pick b (eqb (first_bit n) 0) (eqb (first_bit n) 1) ≡ true
      placed true e = eq-eqb _ _ (t.later (eqb-true _ _ e))
      placed false e = eq-eqb _ _ (t.first (eqb-false _ _ e))

      followed : (b : Bool) → eqb j.phase empty ≡ b → either b (eqb (counter_in n) j.counter) ≡ true
      followed true e = refl
      followed false e = eq-eqb _ _ (t.follows (eqb-false _ _ e))

-- the order in which the code tests
pub takes_short : (j : Joining) (n : List ℕ) → length n < 2 → takes_b j n ≡ false
takes_short j n h = false_by _ (λ e. let t = takes_reads j n e in omega arith)

module _ (j : Joining) (n : List ℕ) where
  pub takes_out_of_range : ranges_b j ≡ false → takes_b j n ≡ false
  unfolding takes_b
  takes_out_of_range h = both_not (filled_b n) (both_no (ranges_b j) _ h)

  pub takes_misplaced : placed_b j n ≡ false → takes_b j n ≡ false
  unfolding takes_b
  takes_misplaced h = both_not (filled_b n) (both_not (ranges_b j) (both_no (placed_b j n) _ h))

  pub takes_not_following : follows_b j n ≡ false → takes_b j n ≡ false
  unfolding takes_b
  takes_not_following h = both_not (filled_b n) (both_not (ranges_b j) (both_not (placed_b j n) (both_no (follows_b j n) _ h)))

  pub takes_room : 2 ≤ length n → ranges_b j ≡ true → placed_b j n ≡ true → follows_b j n ≡ true → takes_b j n ≡ leb (len_after j n) most_bytes
  unfolding takes_b filled_b
  takes_room h r p f = rw (le-leb 2 (length n) h, r, p, f)

pub standing_small : (j : Joining) → Ranges j → standing j ≤ most_bytes
unfolding standing
standing_small j r = go (inside_b j)
  where
    go : (b : Bool) → pick b j.len 0 ≤ most_bytes
    go true = r.len
    go false = omega arith

pub room_left : (s : ℕ) (n : List ℕ) → s ≤ most_bytes → leb (length n - 1) (most_bytes - s) ≡ leb (s + length (body n)) most_bytes
room_left s n h = rw (length-drop 1 n) (go (leb (length n - 1) (most_bytes - s)) refl)
  where
    m : ℕ
    m = length n - 1

    go : (b : Bool) → leb m (most_bytes - s) ≡ b → leb m (most_bytes - s) ≡ leb (s + m) most_bytes
    go true e = e ∙ sym (le-leb (s + m) most_bytes (omega (arith, leb-true m (most_bytes - s) e)))
    go false e = e ∙ sym (lt-leb (s + m) most_bytes (omega (arith, leb-false m (most_bytes - s) e)))

-- the body as the code lends it
pub body_lent : (n : List ℕ) → take (length n - 1) (drop 1 n) ≡ body n
body_lent n = take_all (length n - 1) (drop 1 n) (rw length-drop (omega arith))

-- the state after a restart
pub empty_ranges : ranges_b empty_joining ≡ true
unfolding ranges_b empty_joining
empty_ranges = refl

pub empty_bytes : length empty_joining.bytes ≡ most_bytes
unfolding empty_joining
empty_bytes = refl

-- the state after a notification that is taken
abbrev pub after : ℕ → Joining → List ℕ → Joining
after phase j n = joining phase ((counter_in n + 1) % 64) (len_after j n) (over (laid_under j) (standing j) (body n))

-- the same from what the code has, field by field
module _ (j : Joining) (n : List ℕ) {counter len : ℕ} {bytes : List ℕ} (c : counter ≡ (counter_in n + 1) % 64) (l : len ≡ len_after j n)
    (b : bytes ≡ over (laid_under j) (standing j) (body n)) where
  pub taken_whole : last_bit n ≡ 1 → joined Whole (joining whole counter len bytes) ≡ taken_of j n
  unfolding taken_of
  taken_whole e = rw (c, l, b, eq-eqb (last_bit n) 1 e)

  pub taken_more : (last_bit n ≡ 1 → ⊥) → joined More (joining inside counter len bytes) ≡ taken_of j n
  unfolding taken_of
  taken_more ne = rw (c, l, b, ne_eqb (last_bit n) 1 ne)

-- one step: refused, or taken with the last bit or without
module _ (j : Joining) (n : List ℕ) where
  pub join_refused : takes_b j n ≡ false → join_of j n ≡ joined Refused empty_joining
  unfolding join_of
  join_refused h = rw h

  pub join_taken : takes_b j n ≡ true → join_of j n ≡ taken_of j n
  unfolding join_of
  join_taken h = rw h

  pub join_whole : takes_b j n ≡ true → last_bit n ≡ 1 → join_of j n ≡ joined Whole (after whole j n)
  join_whole h e = join_taken h ∙ sym (taken_whole j n refl refl refl e)

  pub join_more : takes_b j n ≡ true → last_bit n ≡ 0 → join_of j n ≡ joined More (after inside j n)
  join_more h e = join_taken h ∙ sym (taken_more j n refl refl refl (λ k. omega arith))

-- the three answers of joining
pub data Joins (j : Joining) (n : List ℕ) : Joined → Type 0 where
  refuses : takes_b j n ≡ false → Joins j n (joined Refused empty_joining)
  goes_on : Takes j n → last_bit n ≡ 0 → Joins j n (joined More (after inside j n))
  ends : Takes j n → last_bit n ≡ 1 → Joins j n (joined Whole (after whole j n))

pub join_is : (j : Joining) (n : List ℕ) → Joins j n (join_of j n)
join_is j n = go (takes_b j n) (eqb (last_bit n) 1) refl refl
  where
    go : (ok ended : Bool) → takes_b j n ≡ ok → eqb (last_bit n) 1 ≡ ended → Joins j n (join_of j n)
    go false ended h e = rw (join_refused j n h) (refuses h)
    go true true h e = let l = eqb-true (last_bit n) 1 e in rw (join_whole j n h l) (ends (takes_reads j n h) l)
    go true false h e =
        let l : last_bit n ≡ 0 = omega (arith, eqb-false (last_bit n) 1 e) in
        rw (join_more j n h l) (goes_on (takes_reads j n h) l)

-- what stands there before: the bytes so far inside a record, none at its start
standing_part : (j : Joining) → take (standing j) (laid_under j) ≡ pick (inside_b j) (joined_in j) []
unfolding standing laid_under
standing_part j = go (inside_b j)
  where
    go : (b : Bool) → take (pick b j.len 0) (pick b j.bytes blank) ≡ pick b (joined_in j) []
    go true = refl
    go false = refl

length_laid_under : (j : Joining) → length j.bytes ≡ most_bytes → length (laid_under j) ≡ most_bytes
unfolding laid_under
length_laid_under j e = go (inside_b j)
  where
    go : (b : Bool) → length (pick b j.bytes blank) ≡ most_bytes
    go true = e
    go false = refl

module _ (phase : ℕ) (j : Joining) (n : List ℕ) (t : Takes j n) where
  -- "The record builds up in that state."
  pub record_after : length j.bytes ≡ most_bytes → joined_in (after phase j n) ≡ pick (inside_b j) (joined_in j) [] ++ body n
  record_after e =
      take_over (laid_under j) (standing j) (body n) (omega (arith, length_laid_under j e))
      ∙ ap (λ (l : List ℕ). l ++ body n) (standing_part j)

  pub bytes_after : length j.bytes ≡ most_bytes → length (after phase j n).bytes ≡ most_bytes
  bytes_after e = length_over (laid_under j) (standing j) (body n) (omega (arith, length_laid_under j e)) ∙ length_laid_under j e

  pub ranges_after : phase ≤ inside → (phase ≡ empty → ⊥) → Ranges (after phase j n)
  ranges_after p ne =
      record {
        phase = p;
        counter = omega arith;
        len = t.room;
        fresh = λ e. absurd (ne e);
        begun = λ _. rw (length-drop 1 n) (omega arith);
      }
