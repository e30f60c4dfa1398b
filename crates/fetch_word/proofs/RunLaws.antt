-- The search for the first run, a word at a time: it goes on where it stopped, and what it ends with are the received numbers at the beginning and the
-- missing ones after them.
-- Assumes nothing.
use mathlib.Core.Path.{◌≡◌, refl, sym, ap, ap₂, ◌∙◌}
use mathlib.Core.Bool.{Bool, true, false, not}
use mathlib.Core.List.{List, [], ◌∷◌, ◌++◌}
use Prim.Native.Nat.{ℕ, zero, suc, ◌+◌, ◌-◌, ◌/◌, ◌%◌, ◌^◌, ◌≤◌, ◌<◌, min, suc-le-suc}
use native.Mathlib.Nat.{le_of_suc-le-suc, not-suc-le-zero, zero-add}
use native.Mathlib.Numerals.{add-one}
use native.Mathlib.Omega.{arith}
use lib.Count.{count_trailing_zeros, under}
use lib.Dec.{eqb, eqb-suc-zero, eqb-zero-suc, eqb-suc-suc}
use lib.ListN.{length, drop}
use lib.Seq.{drop_at}
use Rattle.fetch_word.specs.Bits.{bit_b, row}
use Rattle.fetch_word.specs.Run.{run, received_first, missing_first, look_at, look_all}
use Rattle.fetch_word.specs.declared.run.Run.{Run}
use Rattle.fetch_word.proofs.BitLaws.{half_bit, zero_bit, not_bit, shifted_bit, row_alike, row_append, row_length}

-- ---- the words' counts

-- below the digit d, as the first of a row
under_first : (r t : ℕ) (l : List Bool) → r < 2 → t ≡ missing_first l → under r t ≡ missing_first (eqb r 1 ∷ l)
unfolding missing_first
under_first zero t l h e = ap suc e
under_first (suc zero) t l h e = refl
under_first (suc (suc r)) t l h e = absurd (not-suc-le-zero (le_of_suc-le-suc (le_of_suc-le-suc h)))

pub zeros_are : (k x : ℕ) → count_trailing_zeros k x ≡ missing_first (row (bit_b x) k)
unfolding count_trailing_zeros row missing_first
zeros_are zero x = refl
zeros_are (suc k) x =
    under_first (x % 2) (count_trailing_zeros k (x / 2)) (row (bit_b (x / 2)) k) (omega arith) (zeros_are k (x / 2))
    ∙ ap₂ (λ (b : Bool) (l : List Bool). missing_first (b ∷ l)) (sym (zero_bit x))
    (row_alike (bit_b (x / 2)) (λ i. bit_b x (suc i)) k (λ i p. sym (half_bit x i)))

-- of the other bits, missing is received
missing_not : (f : ℕ → Bool) (n : ℕ) → missing_first (row (λ i. not (f i)) n) ≡ received_first (row f n)
unfolding row missing_first received_first
missing_not f zero = refl
missing_not f (suc n) = go (f 0) (missing_not (λ i. f (suc i)) n)
  where
    go : (b : Bool) → missing_first (row (λ i. not (f (suc i))) n) ≡ received_first (row (λ i. f (suc i)) n)
        → missing_first (not b ∷ row (λ i. not (f (suc i))) n) ≡ received_first (b ∷ row (λ i. f (suc i)) n)
    go true e = ap suc e
    go false e = refl

-- the first n of k
missing_least : (f : ℕ → Bool) (n k : ℕ) → n ≤ k → min (missing_first (row f k)) n ≡ missing_first (row f n)
unfolding row missing_first
missing_least f zero k h = omega arith
missing_least f (suc n) zero h = absurd (not-suc-le-zero h)
missing_least f (suc n) (suc k) h = go (f 0) (missing_least (λ i. f (suc i)) n k (le_of_suc-le-suc h))
  where
    go : (b : Bool) → min (missing_first (row (λ i. f (suc i)) k)) n ≡ missing_first (row (λ i. f (suc i)) n)
        → min (missing_first (b ∷ row (λ i. f (suc i)) k)) (suc n) ≡ missing_first (b ∷ row (λ i. f (suc i)) n)
    go true e = omega arith
    go false e = omega arith

pub gap_is : (x n : ℕ) → n ≤ 64 → min (count_trailing_zeros 64 x) n ≡ missing_first (row (bit_b x) n)
gap_is x n h = ap (λ (t : ℕ). min t n) (zeros_are 64 x) ∙ missing_least (bit_b x) n 64 h

pub ones_are : (x n : ℕ) → x < 2 ^ 64 → n ≤ 64 → min (count_trailing_zeros 64 (2 ^ 64 - 1 - x)) n ≡ received_first (row (bit_b x) n)
ones_are x n s h =
    gap_is (2 ^ 64 - 1 - x) n h
    ∙ ap missing_first (row_alike (bit_b (2 ^ 64 - 1 - x)) (λ i. not (bit_b x i)) n (λ i p. not_bit x i s (omega arith)))
    ∙ missing_not (bit_b x) n

-- ---- how long

pub missing_most : (l : List Bool) → missing_first l ≤ length l
unfolding missing_first
missing_most [] = omega arith
missing_most (true ∷ l) = omega arith
missing_most (false ∷ l) = suc-le-suc (missing_most l)

pub received_most : (l : List Bool) → received_first l ≤ length l
unfolding received_first
received_most [] = omega arith
received_most (true ∷ l) = suc-le-suc (received_most l)
received_most (false ∷ l) = omega arith

-- ---- the search

pub look_append : (s : Run) (a b : List Bool) → look_all s (a ++ b) ≡ look_all (look_all s a) b
unfolding look_all
look_append s [] b = refl
look_append s (x ∷ a) b = look_append (look_at s x) a b

-- where it has ended, nothing more is looked at
pub look_ended : (g r : ℕ) (l : List Bool) → look_all (run g r false) l ≡ run g r false
unfolding look_all look_at
look_ended g r [] = refl
look_ended g r (b ∷ l) = look_ended g r l

-- a run that has begun
look_run : (g r : ℕ) (l : List Bool) → look_all (run g (suc r) true) l ≡ run g (suc r + missing_first l) (eqb (missing_first l) (length l))
unfolding look_all look_at missing_first
look_run g r [] = ap (λ (m : ℕ). run g m true) (omega arith)
look_run g r (true ∷ l) =
    rw (eqb-suc-zero r, eqb-zero-suc (length l)) (look_ended g (suc r) l ∙ ap (λ (m : ℕ). run g m false) (omega arith))
look_run g r (false ∷ l) =
    rw add-one (look_run g (suc r) l
    ∙ ap₂ (λ (m : ℕ) (o : Bool). run g m o) (omega arith) (sym (eqb-suc-suc (missing_first l) (length l))))

pub look_begun : (g r : ℕ) (l : List Bool) → 0 < r → look_all (run g r true) l ≡ run g (r + missing_first l) (eqb (missing_first l) (length l))
look_begun g zero l h = absurd (not-suc-le-zero h)
look_begun g (suc r) l h = look_run g r l

-- before it: all are received, or the run begins after those that are
pub look_before : (g : ℕ) (l : List Bool) → received_first l ≡ length l → look_all (run g 0 true) l ≡ run (g + length l) 0 true
unfolding look_all look_at received_first
look_before g [] e = ap (λ (n : ℕ). run n 0 true) (omega arith)
look_before g (true ∷ l) e = look_before (g + 1) l (omega arith) ∙ ap (λ (n : ℕ). run n 0 true) (omega arith)
look_before g (false ∷ l) e = absurd (omega arith)

pub look_begins : (g : ℕ) (l : List Bool) → received_first l < length l → let d = drop (received_first l) l in
    look_all (run g 0 true) l ≡ run (g + received_first l) (missing_first d) (eqb (missing_first d) (length d))
unfolding look_all look_at received_first missing_first
look_begins g [] h = absurd (not-suc-le-zero h)
look_begins g (true ∷ l) h =
    look_begins (g + 1) l (le_of_suc-le-suc h)
    ∙ ap (λ (n : ℕ). run n (missing_first (drop (received_first l) l)) (eqb (missing_first (drop (received_first l) l)) (length (drop (received_first l) l)))) (omega arith)
look_begins g (false ∷ l) h =
    let m : 1 + missing_first l ≡ suc (missing_first l) = omega arith in
    let n : g ≡ g + 0 = omega arith in
    look_run g 0 l
    ∙ ap₂ (λ (m : ℕ) (o : Bool). run g m o) m (sym (eqb-suc-suc (missing_first l) (length l)))
    ∙ ap (λ (k : ℕ). run k (suc (missing_first l)) (eqb (suc (missing_first l)) (suc (length l)))) n

-- ---- one word more, as `look` sees it: the n lowest bits of x

drop_row : (f : ℕ → Bool) (k n : ℕ) → k ≤ n → drop k (row f n) ≡ row (λ i. f (k + i)) (n - k)
drop_row f k n h =
    let e : k + (n - k) ≡ n = omega arith in
    ap (λ (m : ℕ). drop k (row f m)) (sym e)
    ∙ ap (drop k) (row_append f k (n - k))
    ∙ drop_at (row f k) (row (λ i. f (k + i)) (n - k)) k (row_length f k)

module _ (s : Run) (x n : ℕ) (going : s.ongoing ≡ true) where
  as_run : s ≡ run s.before s.length true
  as_run = ap (run s.before s.length) going

  pub look_on : 0 < s.length
      → run s.before (s.length + missing_first (row (bit_b x) n)) (eqb (missing_first (row (bit_b x) n)) n) ≡ look_all s (row (bit_b x) n)
  look_on h =
      ap (λ (k : ℕ). run s.before (s.length + missing_first (row (bit_b x) n)) (eqb (missing_first (row (bit_b x) n)) k)) (sym (row_length (bit_b x) n))
      ∙ sym (look_begun s.before s.length (row (bit_b x) n) h)
      ∙ ap (λ (r : Run). look_all r (row (bit_b x) n)) (sym as_run)

  unbegun : s.length ≡ 0 → s ≡ run s.before 0 true
  unbegun e = as_run ∙ ap (λ (r : ℕ). run s.before r true) e

  pub look_all_received : s.length ≡ 0 → received_first (row (bit_b x) n) ≡ n → run (s.before + n) 0 true ≡ look_all s (row (bit_b x) n)
  look_all_received e a =
      ap (λ (k : ℕ). run (s.before + k) 0 true) (sym (row_length (bit_b x) n))
      ∙ sym (look_before s.before (row (bit_b x) n) (a ∙ sym (row_length (bit_b x) n)))
      ∙ ap (λ (r : Run). look_all r (row (bit_b x) n)) (sym (unbegun e))

  -- k are received, then come the bits of x shifted by k
  pub look_run_begins : (k : ℕ) → s.length ≡ 0 → k ≡ received_first (row (bit_b x) n) → k < n
      → let m = missing_first (row (bit_b (x / 2 ^ k)) (n - k)) in
      run (s.before + k) (0 + m) (eqb m (n - k)) ≡ look_all s (row (bit_b x) n)
  look_run_begins k e a h =
      let l = row (bit_b x) n in
      let rest : drop (received_first l) l ≡ row (bit_b (x / 2 ^ k)) (n - k) =
      ap (λ (j : ℕ). drop j l) (sym a) ∙ drop_row (bit_b x) k n (omega arith)
      ∙ row_alike (λ i. bit_b x (k + i)) (bit_b (x / 2 ^ k)) (n - k) (λ i p. sym (shifted_bit k x i)) in
      let m = missing_first (row (bit_b (x / 2 ^ k)) (n - k)) in
      let begins = look_begins s.before l (omega (arith, row_length (bit_b x) n)) in
      ap₂ (λ (g : ℕ) (z : ℕ). run (s.before + g) z (eqb m (n - k))) a (zero-add m)
      ∙ ap (λ (j : ℕ). run (s.before + received_first l) m (eqb m j)) (sym (row_length (bit_b (x / 2 ^ k)) (n - k)))
      ∙ ap (λ (d : List Bool). run (s.before + received_first l) (missing_first d) (eqb (missing_first d) (length d))) (sym rest)
      ∙ sym begins
      ∙ ap (λ (r : Run). look_all r l) (sym (unbegun e))
