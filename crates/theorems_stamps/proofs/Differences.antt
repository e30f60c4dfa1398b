-- Differences of naturals as integers: how they add up, and when one is a natural.
-- Assumes nothing.
use mathlib.Core.Path.{◌≡◌, sym, ◌∙◌, ap}
use Prim.Native.Nat.{ℕ, ◌+◌}
use lib.IntN.{ℤ, pos, neg_ℤ, ◌+ℤ◌, ◌-ℤ◌, +ℤ_assoc, +ℤ_comm, neg_ℤ-+ℤ, +ℤ-neg_ℤ_cancel, -ℤ-+ℤ_cancel}

swap4 : (a b c d : ℤ) → (a +ℤ b) +ℤ (c +ℤ d) ≡ (a +ℤ c) +ℤ (b +ℤ d)
swap4 a b c d =
    +ℤ_assoc a b (c +ℤ d)
    ∙ ap (λ (x : ℤ). a +ℤ x) (sym (+ℤ_assoc b c d) ∙ ap (λ (x : ℤ). x +ℤ d) (+ℤ_comm b c) ∙ +ℤ_assoc c b d)
    ∙ sym (+ℤ_assoc a c (b +ℤ d))

pub diff_add : (a b n o : ℕ) → (pos a -ℤ pos b) +ℤ (pos n -ℤ pos o) ≡ pos (a + n) -ℤ pos (b + o)
diff_add a b n o =
    swap4 (pos a) (neg_ℤ (pos b)) (pos n) (neg_ℤ (pos o))
    ∙ ap (λ (x : ℤ). pos (a + n) +ℤ x) (sym (neg_ℤ-+ℤ (pos b) (pos o)))

-- x + b = a + r in ℕ is x - (a - b) = r in ℤ
pub diff_is : (x a b r : ℕ) → x + b ≡ a + r → pos x -ℤ (pos a -ℤ pos b) ≡ pos r
diff_is x a b r h =
    sym (+ℤ-neg_ℤ_cancel (pos x -ℤ (pos a -ℤ pos b)) (pos a -ℤ pos b))
    ∙ ap (λ (y : ℤ). y -ℤ (pos a -ℤ pos b)) (-ℤ-+ℤ_cancel (pos x) (pos a -ℤ pos b) ∙ e)
    ∙ +ℤ-neg_ℤ_cancel (pos r) (pos a -ℤ pos b)
  where
    e : pos x ≡ pos r +ℤ (pos a -ℤ pos b)
    e = sym (+ℤ-neg_ℤ_cancel (pos x) (pos b))
        ∙ ap (λ (n : ℕ). pos n -ℤ pos b) h
        ∙ ap (λ (y : ℤ). y -ℤ pos b) (+ℤ_comm (pos a) (pos r))
        ∙ +ℤ_assoc (pos r) (pos a) (neg_ℤ (pos b))
