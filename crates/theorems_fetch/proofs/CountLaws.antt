-- The ones of all words are the numbers received; where none is received outside a range, those of the range.
-- Assumes nothing.
use mathlib.Core.Path.{◌≡◌, refl, sym, ap, ap₂, ◌∙◌}
use mathlib.Core.Bool.{Bool, true, false}
use mathlib.Core.List.{List, [], ◌∷◌}
use Prim.Native.Nat.{ℕ, zero, suc, ◌+◌, ◌*◌, ◌-◌, ◌/◌, ◌%◌, ◌≤◌, ◌<◌, suc-le-suc}
use native.Mathlib.Nat.{zero-add, suc-add}
use native.Mathlib.Omega.{arith}
use borrow.Author.Tests.{eqb-true, eqb-false}
use lib.Count.{ones_in}
use lib.Dec.{eqb}
use lib.ListN.{length}
use Rattle.std.proofs.lemmas.List.Sums.{sum_by-cons}
use Rattle.octets.specs.Choice.{pick}
use Rattle.octets.specs.Numbers.{at}
use Rattle.fetch_word.specs.Bits.{bit_b}
use Rattle.fetch_word.proofs.BitLaws.{zero_bit, half_bit}
use Rattle.fetch_map.specs.Map.{received_b, ones_of}
use Rattle.theorems_fetch.specs.History.{count_b}

pub count_alike : (f g : ℕ → Bool) (n : ℕ) → ((i : ℕ) → i < n → f i ≡ g i) → count_b f n ≡ count_b g n
unfolding count_b
count_alike f g zero h = refl
count_alike f g (suc n) h =
    ap₂ (λ (b : Bool) (c : ℕ). pick b 1 0 + c) (h 0 (omega arith)) (count_alike (λ i. f (suc i)) (λ i. g (suc i)) n (λ i p. h (suc i) (suc-le-suc p)))

count_append : (f : ℕ → Bool) (a b : ℕ) → count_b f (a + b) ≡ count_b f a + count_b (λ i. f (a + i)) b
unfolding count_b
count_append f zero b = rw (zero-add b) (count_alike f (λ i. f (0 + i)) b (λ i p. ap f (sym (zero-add i))) ∙ sym (zero-add (count_b (λ i. f (0 + i)) b)))
count_append f (suc a) b =
    let rest : count_b (λ i. f (suc (a + i))) b ≡ count_b (λ i. f (suc a + i)) b =
    count_alike (λ i. f (suc (a + i))) (λ i. f (suc a + i)) b (λ i p. ap f (sym (suc-add a i))) in
    rw suc-add (omega (arith, count_append (λ i. f (suc i)) a b, rest))

count_none : (f : ℕ → Bool) (n : ℕ) → ((i : ℕ) → i < n → f i ≡ false) → count_b f n ≡ 0
unfolding count_b
count_none f zero h = refl
count_none f (suc n) h = rw (h 0 (omega arith)) (zero-add (count_b (λ i. f (suc i)) n) ∙ count_none (λ i. f (suc i)) n (λ i p. h (suc i) (suc-le-suc p)))

-- ---- the ones of a word, of all words

word_ones : (n x : ℕ) → ones_in n x ≡ count_b (bit_b x) n
unfolding ones_in count_b
word_ones zero x = refl
word_ones (suc n) x =
    ap₂ (λ (a b : ℕ). a + b) (sym (ap (λ (t : Bool). pick t 1 0) (zero_bit x) ∙ go (eqb (x % 2) 1) refl))
    (word_ones n (x / 2) ∙ count_alike (bit_b (x / 2)) (λ i. bit_b x (suc i)) n (λ i p. sym (half_bit x i)))
  where
    go : (t : Bool) → eqb (x % 2) 1 ≡ t → pick t 1 0 ≡ x % 2
    go true e = sym (eqb-true (x % 2) 1 e)
    go false e = let odd = eqb-false (x % 2) 1 e in omega arith

pub map_ones : (m : List ℕ) → ones_of m ≡ count_b (received_b m) (64 * length m)
unfolding received_b count_b
map_ones [] = refl
map_ones (x ∷ m) =
    let size : 64 + 64 * length m ≡ 64 * suc (length m) = omega arith in
    sum_by-cons (ones_in 64) x m
    ∙ ap₂ (λ (a b : ℕ). a + b)
    (word_ones 64 x ∙ count_alike (bit_b x) (received_b (x ∷ m)) 64 this)
    (map_ones m ∙ count_alike (received_b m) (λ i. received_b (x ∷ m) (64 + i)) (64 * length m) (λ i p. later i))
    ∙ sym (count_append (received_b (x ∷ m)) 64 (64 * length m))
    ∙ ap (count_b (received_b (x ∷ m))) size
  where
    this : (i : ℕ) → i < 64 → bit_b x i ≡ bit_b (at (x ∷ m) (i / 64)) (i % 64)
    this i p =
        let word : i / 64 ≡ 0 = omega arith in
        let bit : i % 64 ≡ i = omega arith in
        rw (word, bit)

    later : (i : ℕ) → bit_b (at m (i / 64)) (i % 64) ≡ bit_b (at (x ∷ m) ((64 + i) / 64)) ((64 + i) % 64)
    later i =
        let word : (64 + i) / 64 ≡ suc (i / 64) = omega arith in
        let bit : (64 + i) % 64 ≡ i % 64 = omega arith in
        rw (word, bit)

-- ---- all numbers, counted from another one on

count_split : (f : ℕ → Bool) (a n : ℕ) → a ≤ n → count_b f n ≡ count_b f a + count_b (λ i. f (a + i)) (n - a)
count_split f a n h = let e : n ≡ a + (n - a) = omega arith in ap (count_b f) e ∙ count_append f a (n - a)

module _ (f : ℕ → Bool) (o : ℕ) (small : o < 65536) where
  -- the number i steps after o
  abbrev turned : ℕ → Bool
  turned i = f ((o + i) % 65536)

  count_turned : count_b f 65536 ≡ count_b turned 65536
  count_turned =
      let e : 65536 - (65536 - o) ≡ o = omega arith in
      let up : count_b (λ i. f (o + i)) (65536 - o) ≡ count_b turned (65536 - o) =
      count_alike (λ i. f (o + i)) turned (65536 - o) (λ i p. ap f (omega arith)) in
      let down : count_b f o ≡ count_b (λ i. turned (65536 - o + i)) (65536 - (65536 - o)) =
      count_alike f (λ i. turned (65536 - o + i)) o (λ i p. ap f (omega arith)) ∙ ap (count_b (λ i. turned (65536 - o + i))) (sym e) in
      omega (arith, count_split f o 65536 (omega arith), count_split turned (65536 - o) 65536 (omega arith), up, down)

  -- where nothing is so past the first n of them
  pub count_inside : (n : ℕ) → n ≤ 65536 → ((i : ℕ) → n ≤ i → i < 65536 → turned i ≡ false) → count_b f 65536 ≡ count_b turned n
  count_inside n l none =
      omega (
        arith,
        count_turned,
        count_split turned n 65536 l,
        count_none (λ i. turned (n + i)) (65536 - n) (λ i p. none (n + i) (omega arith) (omega arith)),
      )
