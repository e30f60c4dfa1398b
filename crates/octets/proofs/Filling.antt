-- The loops that fill a list from its front: after i turns the first i are stored, the rest is as it was.
-- Assumes nothing.
use mathlib.Core.Path.{◌≡◌, sym, ap, ◌∙◌}
use mathlib.Core.List.{List, ◌++◌, append-nil}
use Prim.Native.Nat.{ℕ, suc, ◌+◌, ◌≤◌, ◌<◌}
use native.Mathlib.Omega.{arith}
use native.Mathlib.Nat.{le_of_lt}
use native.Mathlib.Numerals.{add-one}
use lib.ListN.{length, take, drop, get_or, set, drop_of_length-le}
use lib.Seq.{take_all, take-suc, drop-cons, set_at, append_snoc, length-take-le}

module _ (d s : List ℕ) where
  pub fill_more : (i : ℕ) {b : List ℕ} → b ≡ take i s ++ drop i d → i < length d → i < length s
      → set b i (get_or s i 0) ≡ take (i + 1) s ++ drop (i + 1) d
  fill_more i e p q =
      rw (e, add-one, drop-cons d i 0 p)
      (set_at (take i s) (get_or d i 0) (drop (suc i) d) (get_or s i 0) i (length-take-le i s (le_of_lt q))
      ∙ sym (append_snoc (take i s) (get_or s i 0) (drop (suc i) d))
      ∙ ap (λ (r : List ℕ). r ++ drop (suc i) d) (sym (take-suc s i 0 q)))

  pub fill_end : (i : ℕ) {b : List ℕ} → b ≡ take i s ++ drop i d → length d ≡ length s → length s ≤ i → b ≡ s
  fill_end i e p q =
      let all : length d ≤ i = omega arith in
      e
      ∙ ap (λ (r : List ℕ). r ++ drop i d) (take_all i s q)
      ∙ ap (λ (r : List ℕ). s ++ r) (drop_of_length-le d all)
      ∙ append-nil s
