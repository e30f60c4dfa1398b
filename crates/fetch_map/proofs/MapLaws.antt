-- The loops over all words: each word's bits outside cleared, and the ones counted.
-- Assumes nothing.
use mathlib.Core.Path.{◌≡◌, refl, sym, ap, ap₂, ◌∙◌}
use mathlib.Core.Bool.{Bool, true, false}
use Rattle.std.proofs.Common.{Option, Ok, Err}
use Rattle.std.proofs.lemmas.List.Sums.{sum_by-le, sum_by_push}
use mathlib.Core.List.{List, [], ◌∷◌, ◌++◌, append-nil}
use Prim.Native.Nat.{ℕ, zero, suc, ◌+◌, ◌*◌, ◌/◌, ◌%◌, ◌^◌, ◌≤◌, ◌<◌}
use native.Mathlib.Nat.{le_of_suc-le-suc, not-suc-le-zero, suc-add, zero-add}
use native.Mathlib.Omega.{arith}
use borrow.Author.Tests.{eq-eqb, ne_eqb, eqb-true}
use lib.Bits.{bit_and}
use lib.Count.{ones_in}
use lib.Dec.{eqb}
use lib.ListN.{length, take, drop, set, drop_of_length-le}
use lib.Seq.{take_all, length-take-le, get_or-append-add, get_or-drop}
use Rattle.std.proofs.lemmas.List.{take_more}
use Rattle.octets.specs.Choice.{both, pick}
use Rattle.octets.specs.Numbers.{at}
use Rattle.fetch_word.specs.Bits.{bit_b, word_of, with_bit}
use Rattle.fetch_word.proofs.BitLaws.{word_of_lem, word_and}
use Rattle.fetch_told.specs.Told.{inside_b}
use Rattle.fetch_map.specs.Map.{mapping, inside_from, tell_of, taken_in, take_of, ones_of, received_of}
use Rattle.fetch_map.specs.declared.refusal.Refusal.TheVariants.{WrongWords}
use Rattle.fetch_told.specs.declared.told.Span.{Span}

-- ---- the count

pub ones_most : (x : ℕ) → ones_in 64 x ≤ 64
unfolding ones_in
ones_most x = go 64 x
  where
    go : (n y : ℕ) → ones_in n y ≤ n
    go zero y = omega arith
    go (suc n) y = omega (arith, go n (y / 2))

-- one word more
pub ones_next : (m : List ℕ) (w : ℕ) → w < length m → ones_of (take (w + 1) m) ≡ ones_of (take w m) + ones_in 64 (at m w)
ones_next m w h = ap (λ (l : List ℕ). ones_of l) (take_more m w 0 h) ∙ sum_by_push (ones_in 64) (take w m) (at m w)

-- all words together have at most so many
pub ones_all : (m : List ℕ) → ones_of m ≤ 64 * length m
ones_all m = omega (arith, sum_by-le (ones_in 64) 64 m (λ k d h. ones_most _))

-- a count is at most that of all numbers
pub count_few : (m : List ℕ) (n : ℕ) → received_of m ≡ Ok n → n ≤ 65536
unfolding received_of
count_few m n e = go (eqb (length m) 1024) refl e
  where
    go : (t : Bool) → eqb (length m) 1024 ≡ t → pick t (Ok (ones_of m)) (Err WrongWords) ≡ Ok n → n ≤ 65536
    go true p q = let k : ones_of m ≡ n = cc in omega (arith, ones_all m, eqb-true (length m) 1024 p)
    go false p q = let z : ◌≡◌ {A = ℕ} 0 1 = cc in omega arith

-- ---- telling

-- one word
pub kept_word : (told : Option Span) (x first : ℕ) → x < 2 ^ 64
    → bit_and x (word_of (λ b. inside_b told (first + b))) ≡ word_of (λ b. both (bit_b x b) (inside_b told (first + b)))
kept_word told x first h =
    ap (λ (y : ℕ). bit_and y (word_of (λ b. inside_b told (first + b)))) (sym (word_of_lem x h)) ∙ word_and (bit_b x) (λ b. inside_b told (first + b))

-- the same, counted on from 0
pub from_0 : (told : Option Span) (x first : ℕ)
    → word_of (λ b. both (bit_b x b) (inside_b told (first + b))) ≡ word_of (λ b. both (bit_b x b) (inside_b told (0 + first + b)))
from_0 told x first = ap (λ (k : ℕ). word_of (λ b. both (bit_b x b) (inside_b told (k + b)))) (sym (zero-add first))

-- the first w words done, the others as they were
pub done_one : (told : Option Span) (m : List ℕ) (w s : ℕ) (y : ℕ) → w < length m
    → y ≡ word_of (λ b. both (bit_b (at m w) b) (inside_b told (s + 64 * w + b)))
    → set (take w (inside_from told s m) ++ drop w m) w y ≡ take (w + 1) (inside_from told s m) ++ drop (w + 1) m
unfolding inside_from
done_one told [] w s y h e = absurd (not-suc-le-zero h)
done_one told (x ∷ m) zero s y h e =
    let z : s + 64 * 0 ≡ s = omega arith in
    ap (λ (v : ℕ). v ∷ m) (e ∙ ap (λ (k : ℕ). word_of (λ b. both (bit_b x b) (inside_b told (k + b)))) z)
done_one told (x ∷ m) (suc w) s y h e =
    let z : s + 64 * suc w ≡ s + 64 + 64 * w = omega arith in
    rw (suc-add w 1) (ap (λ (l : List ℕ). word_of (λ b. both (bit_b x b) (inside_b told (s + b))) ∷ l)
    (done_one told m w (s + 64) y (le_of_suc-le-suc h) (e ∙ ap (λ (k : ℕ). word_of (λ b. both (bit_b (at m w) b) (inside_b told (k + b)))) z)))

pub inside_length : (told : Option Span) (s : ℕ) (m : List ℕ) → length (inside_from told s m) ≡ length m
unfolding inside_from
inside_length told s [] = refl
inside_length told s (x ∷ m) = ap suc (inside_length told (s + 64) m)

-- word w is still as it was; after the last word all are done
pub still_there : (told : Option Span) (m : List ℕ) (w : ℕ) → w ≤ length m → at (take w (inside_from told 0 m) ++ drop w m) w ≡ at m w
still_there told m w h =
    let xs = take w (inside_from told 0 m) in
    let e : length xs ≡ w = length-take-le w (inside_from told 0 m) (rw (inside_length told 0 m) h) in
    let f : length xs + 0 ≡ w = omega arith in
    ap (at (xs ++ drop w m)) (sym f) ∙ get_or-append-add xs (drop w m) 0 0 ∙ get_or-drop w m 0 0 ∙ ap (at m) (omega arith)

pub all_done : (told : Option Span) (m : List ℕ) (w : ℕ) → w ≡ length m → take w (inside_from told 0 m) ++ drop w m ≡ inside_from told 0 m
all_done told m w e =
    let past : length m ≤ w = omega arith in
    ap₂ (λ (a b : List ℕ). a ++ b) (take_all w (inside_from told 0 m) (rw (inside_length told 0 m) (omega arith))) (drop_of_length-le m past)
    ∙ append-nil (inside_from told 0 m)

-- ---- the calls, answer by answer

module _ (m : List ℕ) (told : Option Span) (wrong : length m ≡ 1024 → ⊥) where
  pub tell_wrong : mapping (Err WrongWords) m ≡ tell_of m told
  unfolding tell_of
  tell_wrong = rw (ne_eqb (length m) 1024 wrong)

  pub take_wrong : (s : ℕ) → mapping (Err WrongWords) m ≡ take_of m told s
  unfolding take_of
  take_wrong s = rw (ne_eqb (length m) 1024 wrong)

module _ (m : List ℕ) (told : Option Span) (right : length m ≡ 1024) where
  pub tell_done : mapping (Ok tt) (inside_from told 0 m) ≡ tell_of m told
  unfolding tell_of
  tell_done = rw (eq-eqb (length m) 1024 right)

  pub take_done : (s : ℕ) → mapping (Ok tt) (taken_in m told s) ≡ take_of m told s
  unfolding take_of
  take_done s = rw (eq-eqb (length m) 1024 right)

pub received_wrong : (m : List ℕ) → (length m ≡ 1024 → ⊥) → Err WrongWords ≡ received_of m
unfolding received_of
received_wrong m wrong = rw (ne_eqb (length m) 1024 wrong)

pub received_done : (m : List ℕ) → length m ≡ 1024 → Ok (ones_of m) ≡ received_of m
unfolding received_of
received_done m right = rw (eq-eqb (length m) 1024 right)

-- a number inside is taken in, any other changes nothing
pub take_inside : (m : List ℕ) (told : Option Span) (s : ℕ) → inside_b told s ≡ true → set m (s / 64) (with_bit (at m (s / 64)) (s % 64)) ≡ taken_in m told s
unfolding taken_in
take_inside m told s e = rw e

pub take_outside : (m : List ℕ) (told : Option Span) (s : ℕ) → inside_b told s ≡ false → m ≡ taken_in m told s
unfolding taken_in
take_outside m told s e = rw e
