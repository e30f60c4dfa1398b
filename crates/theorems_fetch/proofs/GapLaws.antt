-- The first run of missing things in a row, by what the row says of each.
-- Assumes nothing.
use mathlib.Core.Path.{◌≡◌, refl, sym, ap, ◌∙◌}
use mathlib.Core.Bool.{Bool, true, false}
use mathlib.Core.List.{List, [], ◌∷◌}
use Prim.Native.Nat.{ℕ, zero, suc, ◌+◌, ◌-◌, ◌≤◌, ◌<◌}
use native.Mathlib.Nat.{le_of_suc-le-suc, not-suc-le-zero}
use native.Mathlib.Omega.{arith}
use lib.ListN.{length, drop, get_or, length-drop}
use lib.Seq.{get_or-drop}
use Rattle.octets.proofs.Tests.{clash}
use Rattle.fetch_word.specs.Bits.{row}
use Rattle.fetch_word.specs.Run.{received_first, missing_first}
use Rattle.fetch_word.proofs.BitLaws.{row_length}
use Rattle.fetch_word.proofs.RunLaws.{received_most, missing_most}

row_at : (g : ℕ → Bool) (n i : ℕ) → i < n → get_or (row g n) i false ≡ g i
unfolding row
row_at g zero i h = absurd (not-suc-le-zero h)
row_at g (suc n) zero h = refl
row_at g (suc n) (suc i) h = row_at (λ j. g (suc j)) n i (le_of_suc-le-suc h)

-- those at the beginning, and the one after them
first_received : (l : List Bool) (i : ℕ) → i < received_first l → get_or l i false ≡ true
unfolding received_first
first_received [] i h = absurd (not-suc-le-zero h)
first_received (true ∷ l) zero h = refl
first_received (true ∷ l) (suc i) h = first_received l i (le_of_suc-le-suc h)
first_received (false ∷ l) i h = absurd (not-suc-le-zero h)

then_missing : (l : List Bool) → received_first l < length l → get_or l (received_first l) false ≡ false
unfolding received_first
then_missing [] h = absurd (not-suc-le-zero h)
then_missing (true ∷ l) h = then_missing l (le_of_suc-le-suc h)
then_missing (false ∷ l) h = refl

first_missing : (l : List Bool) (i : ℕ) → i < missing_first l → get_or l i false ≡ false
unfolding missing_first
first_missing [] i h = absurd (not-suc-le-zero h)
first_missing (true ∷ l) i h = absurd (not-suc-le-zero h)
first_missing (false ∷ l) zero h = refl
first_missing (false ∷ l) (suc i) h = first_missing l i (le_of_suc-le-suc h)

then_received : (l : List Bool) → missing_first l < length l → get_or l (missing_first l) false ≡ true
unfolding missing_first
then_received [] h = absurd (not-suc-le-zero h)
then_received (true ∷ l) h = refl
then_received (false ∷ l) h = then_received l (le_of_suc-le-suc h)

-- of n things, `before` are so, the next `length` are not, and then comes one that is, or the end
pub record Gap (g : ℕ → Bool) (n before length : ℕ) : Type 0 where
  pub within : before + length ≤ n
  pub received : (i : ℕ) → i < before → g i ≡ true
  pub missing : (i : ℕ) → i < length → g (before + i) ≡ false
  pub ends : before + length < n → g (before + length) ≡ true
  -- no gap: all are so
  pub none : length ≡ 0 → before ≡ n

module _ (g : ℕ → Bool) (n : ℕ) where
  abbrev l : List Bool
  l = row g n

  abbrev pub before : ℕ
  before = received_first l

  abbrev pub gap : ℕ
  gap = missing_first (drop before l)

  rest : length (drop before l) ≡ n - before
  rest = length-drop before l ∙ ap (λ (k : ℕ). k - before) (row_length g n)

  before_most : before ≤ n
  before_most = omega (arith, received_most l, row_length g n)

  gap_most : gap ≤ n - before
  gap_most = omega (arith, missing_most (drop before l), rest)

  rest_at : (i : ℕ) → before + i < n → get_or (drop before l) i false ≡ g (before + i)
  rest_at i h = get_or-drop before l i false ∙ row_at g n (before + i) h

  stops : before < n → g before ≡ false
  stops h = sym (row_at g n before h) ∙ then_missing l (omega (arith, row_length g n))

  goes_on : before + gap < n → g (before + gap) ≡ true
  goes_on h = sym (rest_at gap h) ∙ then_received (drop before l) (omega (arith, rest))

  no_gap : gap ≡ 0 → before < n → ⊥
  no_gap z h = let e : before + gap ≡ before = omega arith in clash (g before) (ap g (sym e) ∙ goes_on (omega arith)) (stops h)

  pub first_gap : Gap g n before gap
  first_gap = let most = before_most in let few = gap_most in record {
    within = omega arith;
    received = λ i h. sym (row_at g n i (omega arith)) ∙ first_received l i h;
    missing = λ i h. sym (rest_at i (omega arith)) ∙ first_missing (drop before l) i h;
    ends = goes_on;
    none = λ z. let full = no_gap z in omega arith;
  }
