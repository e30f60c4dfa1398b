-- The search through the words: one word at a time, round the map.
-- Assumes nothing.
use mathlib.Core.Path.{◌≡◌, refl, sym, ap, ap₂, ◌∙◌}
use mathlib.Core.Bool.{Bool, true, false}
use Rattle.std.proofs.Common.{Some, None}
use mathlib.Core.List.{List, [], ◌∷◌, ◌++◌}
use Prim.Native.Nat.{ℕ, ◌+◌, ◌*◌, ◌-◌, ◌/◌, ◌%◌, ◌^◌, ◌≤◌, ◌<◌, min}
use native.Mathlib.Nat.{zero-add, div-one}
use native.Mathlib.Omega.{arith}
use borrow.Author.Tests.{eq-eqb, ne_eqb, eqb-true, eqb-false, leb-true, leb-false}
use lib.Dec.{eqb, leb}
use lib.ListN.{length, drop}
use lib.Seq.{drop-length}
use Rattle.octets.specs.Choice.{pick}
use Rattle.octets.specs.Numbers.{at}
use Rattle.octets.proofs.Tests.{clash}
use Rattle.fetch_word.specs.Bits.{bit_b, row}
use Rattle.fetch_word.specs.Run.{run, look_at, look_all, unseen, received_first, missing_first}
use Rattle.fetch_word.specs.declared.run.Run.{Run}
use Rattle.fetch_word.proofs.BitLaws.{shifted_bit, row_alike, row_append, row_length}
use Rattle.fetch_word.proofs.RunLaws.{look_append, look_ended, look_before, look_begins, received_most}
use Rattle.fetch_told.specs.Told.{span}
use Rattle.fetch_map.specs.Map.{received_b}
use Rattle.fetch_propose.specs.Propose.{number_at, numbers_from, run_after, run_among}
use Rattle.fetch_propose.specs.Search.{Within, left_of, searched_from, WentRound}

-- ---- numbers in a row

none_left : (m : List ℕ) (p : ℕ) → numbers_from m p 0 ≡ []
unfolding numbers_from row
none_left m p = refl

-- the first n of them stand in one word
in_one_word : (m : List ℕ) (p n : ℕ) → p < 65536 → p % 64 + n ≤ 64
    → row (λ i. received_b m (number_at p i)) n ≡ row (bit_b (at m (p / 64) / 2 ^ (p % 64))) n
unfolding received_b
in_one_word m p n hp hn = row_alike _ _ n (λ i h.
    let e : (p + i) % 65536 ≡ p + i = omega arith in
    let w : (p + i) / 64 ≡ p / 64 = omega arith in
    let b : (p + i) % 64 ≡ p % 64 + i = omega arith in
    ap (λ (s : ℕ). bit_b (at m (s / 64)) (s % 64)) e
    ∙ ap₂ (λ (q r : ℕ). bit_b (at m q) r) w b
    ∙ sym (shifted_bit (p % 64) (at m (p / 64)) i))

step_on : (p n i : ℕ) → (p + (n + i)) % 65536 ≡ ((p + n) % 65536 + i) % 65536
step_on p n i = omega arith

numbers_split : (m : List ℕ) (p n k : ℕ) → p < 65536 → p % 64 + n ≤ 64
    → numbers_from m p (n + k) ≡ row (bit_b (at m (p / 64) / 2 ^ (p % 64))) n ++ numbers_from m ((p + n) % 65536) k
unfolding numbers_from
numbers_split m p n k hp hn =
    row_append (λ i. received_b m (number_at p i)) n k
    ∙ ap₂ (λ (a b : List Bool). a ++ b) (in_one_word m p n hp hn)
    (row_alike (λ i. received_b m (number_at p (n + i))) (λ i. received_b m (number_at ((p + n) % 65536) i)) k (λ i h. ap (received_b m) (step_on p n i)))

-- ---- how far a search comes

-- one number: no further than it; and as far, where it is still going on
one_most : (g r : ℕ) (o b : Bool) → let u = look_at (run g r o) b in u.before + u.length ≤ g + r + 1
unfolding look_at
one_most g r false b = omega arith
one_most g r true false = omega arith
one_most g r true true = go (eqb r 0)
  where
    go : (t : Bool) → let u = pick t (run (g + 1) 0 true) (run g r false) in u.before + u.length ≤ g + r + 1
    go true = omega arith
    go false = omega arith

one_far : (g r : ℕ) (o b : Bool) → let u = look_at (run g r o) b in u.ongoing ≡ true → u.before + u.length ≡ g + r + 1
unfolding look_at
one_far g r false b e = absurd (clash false e refl)
one_far g r true false e = omega arith
one_far g r true true e = go (eqb r 0) refl e
  where
    go : (t : Bool) → eqb r 0 ≡ t → let u = pick t (run (g + 1) 0 true) (run g r false) in u.ongoing ≡ true → u.before + u.length ≡ g + r + 1
    go true p e = omega (arith, eqb-true r 0 p)
    go false p e = absurd (clash false e refl)

-- a search that goes on has gone on
ended : (s : Run) (l : List Bool) → s.ongoing ≡ false → look_all s l ≡ s
ended s l e =
    let is : s ≡ run s.before s.length false = ap (run s.before s.length) e in
    ap (λ (u : Run). look_all u l) is ∙ look_ended s.before s.length l ∙ sym is

still : (s : Run) (l : List Bool) → (look_all s l).ongoing ≡ true → s.ongoing ≡ true
still s l e = go s.ongoing refl
  where
    go : (t : Bool) → s.ongoing ≡ t → s.ongoing ≡ true
    go true p = p
    go false p = absurd (clash s.ongoing (ap (λ (u : Run). u.ongoing) (sym (ended s l p)) ∙ e) p)

-- all of a row
at_most : (s : Run) (l : List Bool) → (look_all s l).before + (look_all s l).length ≤ s.before + s.length + length l
unfolding look_all
at_most s [] = omega arith
at_most s (b ∷ l) = omega (arith, at_most (look_at s b) l, one_most s.before s.length s.ongoing b)

as_far : (s : Run) (l : List Bool) → (look_all s l).ongoing ≡ true → (look_all s l).before + (look_all s l).length ≡ s.before + s.length + length l
unfolding look_all
as_far s [] e = omega arith
as_far s (b ∷ l) e =
    omega (arith, as_far (look_at s b) l e, one_far s.before s.length s.ongoing b (still (look_at s b) l e))

-- ---- what is left

pub left_going : (s : Run) (size : ℕ) → s.ongoing ≡ true → left_of s size ≡ size - (s.before + s.length)
unfolding left_of
left_going s size e = ap (λ (t : Bool). pick t (size - (s.before + s.length)) 0) e

pub left_ended : (s : Run) (size : ℕ) → s.ongoing ≡ false → left_of s size ≡ 0
unfolding left_of
left_ended s size e = ap (λ (t : Bool). pick t (size - (s.before + s.length)) 0) e

pub left_within : (s : Run) (size : ℕ) → Within size s → s.before + s.length + left_of s size ≤ size
left_within s size h = go s.ongoing refl
  where
    go : (t : Bool) → s.ongoing ≡ t → s.before + s.length + left_of s size ≤ size
    go true e = omega (arith, left_going s size e)
    go false e = omega (arith, left_ended s size e)

-- where something is left, it goes on
pub left_some : (s : Run) (size : ℕ) → 0 < left_of s size → s.ongoing ≡ true
left_some s size h = go s.ongoing refl
  where
    go : (t : Bool) → s.ongoing ≡ t → s.ongoing ≡ true
    go true e = e
    go false e = absurd (omega (arith, left_ended s size e))

-- where nothing is left, the search has come to its end
pub none_searched : (m : List ℕ) (w : ℕ) (s : Run) (size : ℕ) → left_of s size ≡ 0 → searched_from m w s size ≡ s
unfolding searched_from look_all
none_searched m w s size e = ap (λ (n : ℕ). look_all s (numbers_from m (64 * w) n)) e ∙ ap (look_all s) (none_left m (64 * w))

-- no number looked at
pub look_none : (s : Run) (x n : ℕ) → n ≡ 0 → s ≡ look_all s (row (bit_b x) n)
unfolding look_all row
look_none s x n e = ap (λ (k : ℕ). look_all s (row (bit_b x) k)) (sym e)

-- ---- one word more

module _ (m : List ℕ) (size : ℕ) (s : Run) (within : Within size s) (l : List Bool) (fits : length l ≤ left_of s size) where
  pub within_on : Within size (look_all s l)
  within_on = omega (arith, at_most s l, left_within s size within)

  left_on : (look_all s l).ongoing ≡ true → left_of (look_all s l) size ≡ left_of s size - length l
  left_on e =
      omega (arith, left_going (look_all s l) size e, as_far s l e, left_going s size (still s l e))

  pub left_less : left_of (look_all s l) size ≤ left_of s size - length l
  left_less = go (look_all s l).ongoing refl
    where
      go : (t : Bool) → (look_all s l).ongoing ≡ t → left_of (look_all s l) size ≤ left_of s size - length l
      go true e = omega (arith, left_on e)
      go false e = omega (arith, left_ended (look_all s l) size e)

  -- the rest, however long it was before
  rest_alike : (p : ℕ) → look_all (look_all s l) (numbers_from m p (left_of s size - length l)) ≡ look_all (look_all s l) (numbers_from m p (left_of (look_all s l) size))
  rest_alike p = go (look_all s l).ongoing refl
    where
      go : (t : Bool) → (look_all s l).ongoing ≡ t
          → look_all (look_all s l) (numbers_from m p (left_of s size - length l)) ≡ look_all (look_all s l) (numbers_from m p (left_of (look_all s l) size))
      go true e = ap (λ (n : ℕ). look_all (look_all s l) (numbers_from m p n)) (sym (left_on e))
      go false e = ended (look_all s l) _ e ∙ sym (ended (look_all s l) _ e)

-- from the number p on, to the end of its word
module _ (m : List ℕ) (size : ℕ) (s : Run) (within : Within size s) (p : ℕ) (hp : p < 65536) where
  abbrev pub few : ℕ
  few = min (left_of s size) (64 - p % 64)

  abbrev pub looked : Run
  looked = look_all s (row (bit_b (at m (p / 64) / 2 ^ (p % 64))) few)

  row_fits : length (row (bit_b (at m (p / 64) / 2 ^ (p % 64))) few) ≤ left_of s size
  row_fits = rw (row_length (bit_b (at m (p / 64) / 2 ^ (p % 64))) few) (omega arith)

  pub looked_within : Within size looked
  looked_within = within_on m size s within (row (bit_b (at m (p / 64) / 2 ^ (p % 64))) few) row_fits

  pub looked_less : left_of looked size ≤ left_of s size - few
  looked_less =
      rw (row_length (bit_b (at m (p / 64) / 2 ^ (p % 64))) few)
      at (left_less m size s within (row (bit_b (at m (p / 64) / 2 ^ (p % 64))) few) row_fits)

  looked_on : look_all s (numbers_from m p (left_of s size)) ≡ look_all looked (numbers_from m ((p + few) % 65536) (left_of looked size))
  looked_on =
      let e : few + (left_of s size - few) ≡ left_of s size = omega arith in
      let l = row (bit_b (at m (p / 64) / 2 ^ (p % 64))) few in
      ap (λ (n : ℕ). look_all s (numbers_from m p n)) (sym e)
      ∙ ap (look_all s) (numbers_split m p few (left_of s size - few) hp (omega arith))
      ∙ look_append s l (numbers_from m ((p + few) % 65536) (left_of s size - few))
      ∙ ap (λ (n : ℕ). look_all looked (numbers_from m ((p + few) % 65536) (left_of s size - n))) (sym (row_length (bit_b (at m (p / 64) / 2 ^ (p % 64))) few))
      ∙ rest_alike m size s within l row_fits ((p + few) % 65536)

  pub word_on : look_all s (numbers_from m p (left_of s size)) ≡ searched_from m ((p / 64 + 1) % 1024) looked size
  unfolding searched_from
  word_on = looked_on ∙ go (leb (64 - p % 64) (left_of s size)) refl
    where
      go : (t : Bool) → leb (64 - p % 64) (left_of s size) ≡ t
          → look_all looked (numbers_from m ((p + few) % 65536) (left_of looked size)) ≡ searched_from m ((p / 64 + 1) % 1024) looked size
      go true e =
          let f : few ≡ 64 - p % 64 = omega (arith, leb-true (64 - p % 64) (left_of s size) e) in
          let q : (p + few) % 65536 ≡ 64 * ((p / 64 + 1) % 1024) = omega arith in
          ap (λ (k : ℕ). look_all looked (numbers_from m k (left_of looked size))) q
      go false e =
          let f : few ≡ left_of s size = omega (arith, leb-false (64 - p % 64) (left_of s size) e) in
          let z : left_of looked size ≡ 0 = omega (arith, looked_less) in
          ap (λ (n : ℕ). look_all looked (numbers_from m ((p + few) % 65536) n)) z
          ∙ ap (look_all looked) (none_left m ((p + few) % 65536) ∙ sym (none_left m (64 * ((p / 64 + 1) % 1024))))
          ∙ ap (λ (n : ℕ). look_all looked (numbers_from m (64 * ((p / 64 + 1) % 1024)) n)) (sym z)

-- a whole word, or as much of it as is left
module _ (m : List ℕ) (size : ℕ) (s : Run) (within : Within size s) (w : ℕ) (hw : w < 1024) where
  abbrev pub after_word : Run
  after_word = look_all s (row (bit_b (at m w)) (min (left_of s size) 64))

  start : 64 * w < 65536
  start = omega arith

  whole_is : looked m size s within (64 * w) start ≡ after_word
  whole_is =
      let q : 64 * w % 64 ≡ 0 = omega arith in
      let d : 64 * w / 64 ≡ w = omega arith in
      let left = left_of s size in
      ap (λ (r : ℕ). look_all s (row (bit_b (at m (64 * w / 64) / 2 ^ r)) (min left (64 - r)))) q
      ∙ ap (λ (v : ℕ). look_all s (row (bit_b (at m v / 2 ^ 0)) (min left 64))) d
      ∙ ap (λ (x : ℕ). look_all s (row (bit_b x) (min left 64))) (div-one (at m w))

  pub word_within : Within size after_word
  word_within = rw whole_is at (looked_within m size s within (64 * w) start)

  pub word_less : left_of after_word size ≤ left_of s size - 64
  word_less =
      let q : 64 * w % 64 ≡ 0 = omega arith in
      let f : few m size s within (64 * w) start ≡ min (left_of s size) 64 = ap (λ (r : ℕ). min (left_of s size) (64 - r)) q in
      let h : left_of after_word size ≤ left_of s size - min (left_of s size) 64 = rw (whole_is, f) at (looked_less m size s within (64 * w) start) in
      omega arith

  pub word_same : searched_from m w s size ≡ searched_from m ((w + 1) % 1024) after_word size
  unfolding searched_from
  word_same =
      let d : 64 * w / 64 ≡ w = omega arith in
      word_on m size s within (64 * w) start
      ∙ ap (λ (v : ℕ). searched_from m ((v + 1) % 1024) (looked m size s within (64 * w) start) size) d
      ∙ ap (λ (r : Run). searched_from m ((w + 1) % 1024) r size) whole_is

-- ---- all numbers of a range: the first word from its oldest number on, the other words, the rest of the first

module _ (m : List ℕ) (oldest size : ℕ) (ho : oldest < 65536) (some : 1 ≤ size) (most : size ≤ 65536) where
  abbrev pub begun : Run
  begun = look_all unseen (row (bit_b (at m (oldest / 64) / 2 ^ (oldest % 64))) (min size (64 - oldest % 64)))

  nothing_yet : Within size unseen
  nothing_yet = omega arith

  all_left : left_of unseen size ≡ size
  all_left = left_going unseen size refl ∙ omega arith

  begun_is : looked m size unseen nothing_yet oldest ho ≡ begun
  begun_is = ap (λ (n : ℕ). look_all unseen (row (bit_b (at m (oldest / 64) / 2 ^ (oldest % 64))) (min n (64 - oldest % 64)))) all_left

  pub begun_within : Within size begun
  begun_within = rw begun_is at (looked_within m size unseen nothing_yet oldest ho)

  pub begun_left : left_of begun size ≤ 65535
  begun_left =
      let h : left_of begun size ≤ size - min size (64 - oldest % 64) =
      rw (begun_is, all_left) at (looked_less m size unseen nothing_yet oldest ho) in
      omega arith

  pub all_looked : (r : Run) → WentRound m (oldest / 64) size begun r
      → look_all r (row (bit_b (at m (oldest / 64))) (min (left_of r size) 64)) ≡ look_all unseen (numbers_from m oldest size)
  all_looked r round =
      let w = oldest / 64 in
      let hw : w < 1024 = omega arith in
      let none : left_of (after_word m size r round.within w hw) size ≡ 0 =
      omega (arith, word_less m size r round.within w hw, round.few) in
      sym (none_searched m ((w + 1) % 1024) (after_word m size r round.within w hw) size none)
      ∙ sym (word_same m size r round.within w hw)
      ∙ round.same
      ∙ ap (λ (s : Run). searched_from m ((w + 1) % 1024) s size) (sym begun_is)
      ∙ sym (word_on m size unseen nothing_yet oldest ho)
      ∙ ap (λ (n : ℕ). look_all unseen (numbers_from m oldest n)) all_left

-- a way round, of so many numbers as at its beginning
pub went_round : (m : List ℕ) (word size : ℕ) (start s : Run) (n : ℕ) → n ≡ size → Within n s → left_of s n ≤ 63
    → searched_from m word s n ≡ searched_from m ((word + 1) % 1024) start size → WentRound m word size start s
went_round m word size start s n e within few same = record {
  within = omega arith;
  few = rw e at few;
  same = ap (searched_from m word s) (sym e) ∙ same;
}

-- no more was seen than there is
pub through_within : (m : List ℕ) (oldest size : ℕ) → size ≤ 65536 → Within 65536 (look_all unseen (numbers_from m oldest size))
unfolding numbers_from
through_within m oldest size h =
    let l = row (λ i. received_b m (number_at oldest i)) size in
    omega (arith, at_most unseen l, row_length (λ i. received_b m (number_at oldest i)) size)

-- ---- the end of the search

pub run_nothing : (oldest before length : ℕ) → length ≡ 0 → None ≡ run_after oldest before length
unfolding run_after
run_nothing oldest before length e = rw (eq-eqb length 0 e)

pub run_missing : (oldest before length : ℕ) → (length ≡ 0 → ⊥)
    → Some (span (number_at oldest before) (number_at oldest (before + length - 1))) ≡ run_after oldest before length
unfolding run_after
run_missing oldest before length e = rw (ne_eqb length 0 e)

run_none : (oldest before : ℕ) → run_after oldest before 0 ≡ run_after oldest 0 0
unfolding run_after
run_none oldest before = refl

nothing_after : (l : List Bool) → missing_first (drop (length l) l) ≡ 0
unfolding missing_first
nothing_after l = ap missing_first (drop-length l)

pub run_is : (oldest : ℕ) (l : List Bool) → let r = look_all unseen l in run_after oldest r.before r.length ≡ run_among oldest l
unfolding run_among
run_is oldest l = go (eqb (received_first l) (length l)) refl
  where
    go : (t : Bool) → eqb (received_first l) (length l) ≡ t
        → run_after oldest (look_all unseen l).before (look_all unseen l).length ≡ run_after oldest (received_first l) (missing_first (drop (received_first l) l))
    go true e =
        let all : received_first l ≡ length l = eqb-true (received_first l) (length l) e in
        let none : missing_first (drop (received_first l) l) ≡ 0 = ap (λ (n : ℕ). missing_first (drop n l)) all ∙ nothing_after l in
        ap (λ (r : Run). run_after oldest r.before r.length) (look_before 0 l all)
        ∙ run_none oldest (0 + length l) ∙ sym (run_none oldest (received_first l))
        ∙ ap (run_after oldest (received_first l)) (sym none)
    go false e =
        let some : received_first l < length l = omega (arith, received_most l, eqb-false (received_first l) (length l) e) in
        ap (λ (r : Run). run_after oldest r.before r.length) (look_begins 0 l some)
        ∙ ap (λ (n : ℕ). run_after oldest n (missing_first (drop (received_first l) l))) (zero-add (received_first l))
