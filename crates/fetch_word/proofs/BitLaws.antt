-- The number that bits make: its bits are those, and it is made of its own; and, or, not, the lowest ones, a single one.
-- Assumes nothing.
use mathlib.Core.Path.{◌≡◌, refl, sym, ap, ap₂, ◌∙◌}
use mathlib.Core.Bool.{Bool, true, false, not}
use mathlib.Core.List.{List, ◌∷◌, ◌++◌}
use Prim.Native.Nat.{ℕ, zero, suc, ◌+◌, ◌*◌, ◌-◌, ◌/◌, ◌%◌, ◌^◌, ◌≤◌, ◌<◌, suc-le-suc, min, max}
use native.Mathlib.Nat.{le_of_suc-le-suc, not-suc-le-zero, pow-suc, pow-succ', div-div-eq-div-mul, div-one, one-mul, mod-eq_of_lt, zero-add, suc-add, zero-min, zero-max}
use native.Mathlib.Omega.{arith}
use borrow.Author.Tests.{lt-ltb, le-ltb}
use lib.Bits.{bit_and, bit_or, and_step, or_step, and_zero_l, or_zero_l}
use lib.Count.{ones, ones_in, ones_step}
use lib.Pow.{pow-lt, shr-shr}
use lib.Dec.{eqb, ltb, leb-suc-suc, eqb-zero-suc, eqb-suc-zero, eqb-suc-suc}
use lib.ListN.{length}
use Rattle.octets.specs.Choice.{both, either, pick}
use Rattle.fetch_word.specs.Bits.{bit_b, bits_of, word_of, with_bit, row}

-- bit i + 1 of x is bit i of its half
pub half_bit : (x i : ℕ) → bit_b x (suc i) ≡ bit_b (x / 2) i
unfolding bit_b
half_bit x i =
    ap (λ (k : ℕ). eqb (x / k % 2) 1) (pow-succ' 2 i) ∙ ap (λ (k : ℕ). eqb (k % 2) 1) (sym (div-div-eq-div-mul x 2 (2 ^ i)))

pub zero_bit : (x : ℕ) → bit_b x 0 ≡ eqb (x % 2) 1
unfolding bit_b
zero_bit x = ap (λ (k : ℕ). eqb (k % 2) 1) (div-one x)

-- a bit as a number
abbrev one : Bool → ℕ
one b = pick b 1 0

one_bit : (x : ℕ) → one (bit_b x 0) ≡ x % 2
one_bit x = ap one (zero_bit x) ∙ go (x % 2) (omega arith)
  where
    go : (r : ℕ) → r < 2 → one (eqb r 1) ≡ r
    go zero h = refl
    go (suc zero) h = refl
    go (suc (suc r)) h = absurd (not-suc-le-zero (le_of_suc-le-suc (le_of_suc-le-suc h)))

one_is : (b : Bool) → eqb (one b) 1 ≡ b
one_is true = refl
one_is false = refl

one_small : (b : Bool) → one b < 2
one_small true = omega arith
one_small false = omega arith

-- the number of bits f, halved
half_of : (f : ℕ → Bool) (n : ℕ) → bits_of f (suc n) / 2 ≡ bits_of (λ b. f (suc b)) n
unfolding bits_of
half_of f n = omega (arith, one_small (f 0))

odd_of : (f : ℕ → Bool) (n : ℕ) → bits_of f (suc n) % 2 ≡ one (f 0)
unfolding bits_of
odd_of f n = omega (arith, one_small (f 0))

pub bits_small : (f : ℕ → Bool) (n : ℕ) → bits_of f n < 2 ^ n
unfolding bits_of
bits_small f zero = omega arith
bits_small f (suc n) = rw (pow-suc 2 n) (omega (arith, one_small (f 0), bits_small (λ b. f (suc b)) n))

pub bits_alike : (f g : ℕ → Bool) (n : ℕ) → ((i : ℕ) → i < n → f i ≡ g i) → bits_of f n ≡ bits_of g n
unfolding bits_of
bits_alike f g zero h = refl
bits_alike f g (suc n) h =
    ap₂ (λ (b : Bool) (r : ℕ). one b + 2 * r) (h 0 (omega arith)) (bits_alike (λ b. f (suc b)) (λ b. g (suc b)) n (λ i p. h (suc i) (suc-le-suc p)))

-- its bits are f
pub bits_at : (f : ℕ → Bool) (n i : ℕ) → i < n → bit_b (bits_of f n) i ≡ f i
bits_at f zero i h = absurd (not-suc-le-zero h)
bits_at f (suc n) zero h = zero_bit (bits_of f (suc n)) ∙ ap (λ (r : ℕ). eqb r 1) (odd_of f n) ∙ one_is (f 0)
bits_at f (suc n) (suc i) h =
    half_bit (bits_of f (suc n)) i ∙ ap (λ (x : ℕ). bit_b x i) (half_of f n) ∙ bits_at (λ b. f (suc b)) n i (le_of_suc-le-suc h)

-- a number of n bits is made of its own
pub bits_of_lem : (n x : ℕ) → x < 2 ^ n → bits_of (bit_b x) n ≡ x
unfolding bits_of
bits_of_lem zero x h = omega arith
bits_of_lem (suc n) x h =
    let h2 : x < 2 ^ n * 2 = rw (pow-suc 2 n) at h in
    let rest : bits_of (λ b. bit_b x (suc b)) n ≡ x / 2 =
    bits_alike (λ b. bit_b x (suc b)) (bit_b (x / 2)) n (λ i p. half_bit x i) ∙ bits_of_lem n (x / 2) (omega arith) in
    omega (arith, one_bit x, rest)

-- and, or, not, bit by bit
min_one : (a b : Bool) → min (one a) (one b) ≡ one (both a b)
min_one true true = refl
min_one true false = refl
min_one false b = zero-min (one b)

max_one : (a b : Bool) → max (one a) (one b) ≡ one (either a b)
max_one true true = refl
max_one true false = refl
max_one false b = zero-max (one b)

pub bits_and : (f g : ℕ → Bool) (n : ℕ) → bit_and (bits_of f n) (bits_of g n) ≡ bits_of (λ i. both (f i) (g i)) n
unfolding bits_of
bits_and f g zero = and_zero_l 0
bits_and f g (suc n) =
    and_step (bits_of f (suc n)) (bits_of g (suc n))
    ∙ ap₂ (λ (x y : ℕ). x * 2 + y)
    (ap₂ bit_and (half_of f n) (half_of g n) ∙ bits_and (λ b. f (suc b)) (λ b. g (suc b)) n)
    (ap₂ min (odd_of f n) (odd_of g n) ∙ min_one (f 0) (g 0))
    ∙ omega arith

pub bits_or : (f g : ℕ → Bool) (n : ℕ) → bit_or (bits_of f n) (bits_of g n) ≡ bits_of (λ i. either (f i) (g i)) n
unfolding bits_of
bits_or f g zero = or_zero_l 0
bits_or f g (suc n) =
    or_step (bits_of f (suc n)) (bits_of g (suc n))
    ∙ ap₂ (λ (x y : ℕ). x * 2 + y)
    (ap₂ bit_or (half_of f n) (half_of g n) ∙ bits_or (λ b. f (suc b)) (λ b. g (suc b)) n)
    (ap₂ max (odd_of f n) (odd_of g n) ∙ max_one (f 0) (g 0))
    ∙ omega arith

one_not : (b : Bool) → one (not b) + one b ≡ 1
one_not true = refl
one_not false = refl

-- both halves of a whole word
not_add : (f : ℕ → Bool) (n : ℕ) → bits_of (λ i. not (f i)) n + bits_of f n + 1 ≡ 2 ^ n
unfolding bits_of
not_add f zero = refl
not_add f (suc n) = rw (pow-suc 2 n) (omega (arith, one_not (f 0), not_add (λ b. f (suc b)) n))

pub bits_not : (f : ℕ → Bool) (n : ℕ) → 2 ^ n - 1 - bits_of f n ≡ bits_of (λ i. not (f i)) n
bits_not f n = omega (arith, not_add f n)

-- none; the lowest k; one alone
pub bits_none : (n : ℕ) → bits_of (λ i. false) n ≡ 0
unfolding bits_of
bits_none zero = refl
bits_none (suc n) = omega (arith, bits_none n)

pub bits_below : (k n : ℕ) → k ≤ n → bits_of (λ i. ltb i k) n + 1 ≡ 2 ^ k
unfolding bits_of
bits_below zero n h =
    ap (λ (x : ℕ). x + 1) (bits_alike (λ i. ltb i 0) (λ i. false) n (λ i p. le-ltb i 0 (omega arith)) ∙ bits_none n)
bits_below (suc k) zero h = absurd (not-suc-le-zero h)
bits_below (suc k) (suc n) h =
    let rest : bits_of (λ i. ltb (suc i) (suc k)) n ≡ bits_of (λ i. ltb i k) n =
    bits_alike (λ i. ltb (suc i) (suc k)) (λ i. ltb i k) n (λ i p. leb-suc-suc (suc i) k) in
    let first : one (ltb 0 (suc k)) ≡ 1 = ap one (lt-ltb 0 (suc k) (omega arith)) in
    rw (pow-suc 2 k) (omega (arith, rest, bits_below k n (le_of_suc-le-suc h)))

pub bits_single : (k n : ℕ) → k < n → bits_of (λ i. eqb i k) n ≡ 2 ^ k
unfolding bits_of
bits_single k zero h = absurd (not-suc-le-zero h)
bits_single zero (suc n) h =
    let rest : bits_of (λ i. eqb (suc i) 0) n ≡ 0 = bits_alike (λ i. eqb (suc i) 0) (λ i. false) n (λ i p. eqb-suc-zero i) ∙ bits_none n in
    omega (arith, rest)
bits_single (suc k) (suc n) h =
    let rest : bits_of (λ i. eqb (suc i) (suc k)) n ≡ bits_of (λ i. eqb i k) n =
    bits_alike (λ i. eqb (suc i) (suc k)) (λ i. eqb i k) n (λ i p. eqb-suc-suc i k) in
    let first : one (eqb 0 (suc k)) ≡ 0 = ap one (eqb-zero-suc k) in
    rw (pow-suc 2 k) (omega (arith, rest, bits_single k n (le_of_suc-le-suc h)))

-- ---- words: numbers below 2 ^ 64

pub word_of_lem : (x : ℕ) → x < 2 ^ 64 → word_of (bit_b x) ≡ x
unfolding word_of
word_of_lem x h = bits_of_lem 64 x h

pub word_at : (f : ℕ → Bool) (i : ℕ) → i < 64 → bit_b (word_of f) i ≡ f i
unfolding word_of
word_at f i h = bits_at f 64 i h

pub word_alike : (f g : ℕ → Bool) → ((i : ℕ) → i < 64 → f i ≡ g i) → word_of f ≡ word_of g
unfolding word_of
word_alike f g h = bits_alike f g 64 h

pub word_small : (f : ℕ → Bool) → word_of f < 2 ^ 64
unfolding word_of
word_small f = bits_small f 64

-- x and y, x or y, where their bits are known
pub word_and : (f g : ℕ → Bool) → bit_and (word_of f) (word_of g) ≡ word_of (λ i. both (f i) (g i))
unfolding word_of
word_and f g = bits_and f g 64

pub word_or : (f g : ℕ → Bool) → bit_or (word_of f) (word_of g) ≡ word_of (λ i. either (f i) (g i))
unfolding word_of
word_or f g = bits_or f g 64

pub word_not : (f : ℕ → Bool) → 2 ^ 64 - 1 - word_of f ≡ word_of (λ i. not (f i))
unfolding word_of
word_not f = bits_not f 64

pub word_below : (k : ℕ) → k ≤ 64 → word_of (λ i. ltb i k) + 1 ≡ 2 ^ k
unfolding word_of
word_below k h = bits_below k 64 h

-- bit b alone, as a shift makes it
pub single_shift : (b : ℕ) → b < 64 → 1 * 2 ^ b % 2 ^ 64 ≡ 2 ^ b
single_shift b h = let p : 2 ^ b < 2 ^ 64 = pow-lt h in mod-eq_of_lt (omega arith) ∙ one-mul (2 ^ b)

-- x or 2 ^ b
pub with_bit_is : (x b : ℕ) → x < 2 ^ 64 → b < 64 → bit_or x (2 ^ b) ≡ with_bit x b
unfolding with_bit word_of
with_bit_is x b h k = ap₂ bit_or (sym (bits_of_lem 64 x h)) (sym (bits_single b 64 k)) ∙ bits_or (bit_b x) (λ i. eqb i b) 64

-- the bits of the complement
pub not_bit : (x i : ℕ) → x < 2 ^ 64 → i < 64 → bit_b (2 ^ 64 - 1 - x) i ≡ not (bit_b x i)
not_bit x i h k =
    ap (λ (y : ℕ). bit_b (2 ^ 64 - 1 - y) i) (sym (word_of_lem x h))
    ∙ ap (λ (y : ℕ). bit_b y i) (word_not (bit_b x))
    ∙ word_at (λ j. not (bit_b x j)) i k

-- bit i of x without its k lowest bits
pub shifted_bit : (k x i : ℕ) → bit_b (x / 2 ^ k) i ≡ bit_b x (k + i)
unfolding bit_b
shifted_bit k x i =
    ap (λ (y : ℕ). eqb (y % 2) 1) (shr-shr x k i)

-- ---- the count of ones

pub ones_in_lem : (n x : ℕ) → x < 2 ^ n → ones x ≡ ones_in n x
unfolding ones_in ones
ones_in_lem zero x h = let e : x ≡ 0 = omega arith in ap ones e
ones_in_lem (suc n) x h =
    let h2 : x < 2 ^ n * 2 = rw (pow-suc 2 n) at h in
    ones_step x ∙ ap (λ (r : ℕ). x % 2 + r) (ones_in_lem n (x / 2) (omega arith))

-- ---- rows of bits

pub row_alike : (f g : ℕ → Bool) (n : ℕ) → ((i : ℕ) → i < n → f i ≡ g i) → row f n ≡ row g n
unfolding row
row_alike f g zero h = refl
row_alike f g (suc n) h =
    ap₂ (λ (b : Bool) (l : List Bool). b ∷ l) (h 0 (omega arith)) (row_alike (λ b. f (suc b)) (λ b. g (suc b)) n (λ i p. h (suc i) (suc-le-suc p)))

pub row_length : (f : ℕ → Bool) (n : ℕ) → length (row f n) ≡ n
unfolding row
row_length f zero = refl
row_length f (suc n) = ap suc (row_length (λ i. f (suc i)) n)

pub row_append : (f : ℕ → Bool) (a b : ℕ) → row f (a + b) ≡ row f a ++ row (λ i. f (a + i)) b
unfolding row
row_append f zero b = rw zero-add (row_alike f (λ i. f (0 + i)) b (λ i p. ap f (sym (zero-add i))))
row_append f (suc a) b =
    rw suc-add (ap (λ (l : List Bool). f 0 ∷ l) (row_append (λ i. f (suc i)) a b
    ∙ ap (λ (l : List Bool). row (λ i. f (suc i)) a ++ l) (row_alike (λ i. f (suc (a + i))) (λ i. f (suc a + i)) b (λ i p. ap f (sym (suc-add a i))))))
