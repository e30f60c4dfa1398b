-- What fits of a text that grows at its end, what a byte does to a line that is full and to one that has room, and texts laid over
-- bytes one after the other.
-- Assumes nothing.
use mathlib.Core.Path.{◌≡◌, refl, sym, ap, ◌∙◌}
use mathlib.Core.List.{List, [], ◌∷◌, ◌++◌, append_assoc, append-nil}
use Prim.Native.Nat.{ℕ, zero, suc, ◌+◌, ◌≤◌, ◌<◌}
use native.Mathlib.Nat.{add-zero}
use native.Mathlib.Omega.{arith}
use native.Mathlib.Numerals.{add-one}
use lib.ListN.{length, take, drop, set, length-append, length-take, take-append-drop}
use lib.Seq.{take_all, take-append-le, take-append-add, take_at, take-suc-set, length-take-le}
use Rattle.octets.specs.Parts.{over}
use Rattle.octets.proofs.PartLaws.{drop_over}
use Rattle.text.specs.Line.{text_of, fitted}
use Rattle.octets.specs.declared.bytes.Bytes.{Bytes}

pub fitted_short : (a : List ℕ) → length a ≤ 96 → fitted a ≡ a
unfolding fitted
fitted_short a h = take_all 96 a h

-- to cut a text before it grows loses nothing that would have fitted after
pub fitted_fitted : (a b : List ℕ) → fitted (fitted a ++ b) ≡ fitted (a ++ b)
unfolding fitted
fitted_fitted a b = cut 96 a
  where
    cut : (n : ℕ) (l : List ℕ) → take n (take n l ++ b) ≡ take n (l ++ b)
    cut zero l = refl
    cut (suc n) [] = refl
    cut (suc n) (x ∷ l) = ap (λ (r : List ℕ). x ∷ r) (cut n l)

-- one call after another: where the first puts p at the end of t and the second q at the end of that
pub fitted_then : (t p q : List ℕ) {x y : List ℕ} → x ≡ fitted (t ++ p) → y ≡ fitted (x ++ q) → y ≡ fitted (t ++ (p ++ q))
fitted_then t p q e f =
    f ∙ rw (e, fitted_fitted (t ++ p) q) (ap fitted (append_assoc t p q))

-- a line's bytes, of which the first `len` count
module _ (bytes : List ℕ) (len : ℕ) (size : length bytes ≡ 96) where
  pub nothing_added : take len bytes ≡ fitted (take len bytes ++ [])
  nothing_added =
      rw append-nil (sym (fitted_short (take len bytes) (simp length-take (omega arith))))

  pub byte_added : (b : ℕ) → len < 96 → take (len + 1) (set bytes len b) ≡ fitted (take len bytes ++ (b ∷ []))
  byte_added b h =
      rw (add-one, take-suc-set bytes len b (omega arith))
      (sym (fitted_short (take len bytes ++ (b ∷ [])) (simp (length-append, length-take) (omega arith))))

  pub byte_dropped : (b : ℕ) → 96 ≤ len → take len bytes ≡ fitted (take len bytes ++ (b ∷ []))
  unfolding fitted
  byte_dropped b h =
      rw (take_all len bytes (omega arith))
      (sym (take-append-le 96 bytes (b ∷ []) (omega arith) ∙ take_all 96 bytes (omega arith)))

-- as many bytes as a part has are that part
part_again : (m : ℕ) (l : List ℕ) → take (length (take m l)) l ≡ take m l
part_again zero l = refl
part_again (suc m) [] = refl
part_again (suc m) (x ∷ l) = ap (λ (r : List ℕ). x ∷ r) (part_again m l)

-- a line's text in its bytes
module _ (line : Bytes 96) (n : ℕ) (e : n ≡ length (text_of line)) where
  pub text_part : take n line.bytes ≡ text_of line
  unfolding text_of
  text_part = ap (λ (m : ℕ). take m line.bytes) e ∙ part_again line.len line.bytes

  pub text_fits : n ≤ length line.bytes
  unfolding text_of
  text_fits = rw e (simp length-take (omega arith))

pub text_short : (line : Bytes 96) → length line.bytes ≡ 96 → length (text_of line) ≤ 96
unfolding text_of
text_short line size = simp length-take (omega arith)

-- a text laid over bytes: these up to its end
pub put_on : (t x : List ℕ) (p n : ℕ) → p ≤ length t → n ≡ length x → take (p + n) (over t p x) ≡ take p t ++ x
unfolding over
put_on t x p n h e =
    let a = take p t in
    let d = drop (p + length x) t in
    ap (λ (m : ℕ). take (m + n) (a ++ (x ++ d))) (sym (length-take-le p t h))
    ∙ take-append-add a (x ++ d) n
    ∙ ap (λ (r : List ℕ). a ++ r) (take_at x d n (sym e))

-- one text laid over bytes, and then another from where it ended
pub over_then : (t x y : List ℕ) (p : ℕ) → p + length x ≤ length t → over (over t p x) (p + length x) y ≡ over t p (x ++ y)
unfolding over
over_then t x y p h =
    let o : ℕ = p + length x + length y in
    let e : o ≡ p + length (x ++ y) = rw length-append (omega arith) in
    ap (λ (l : List ℕ). l ++ (y ++ drop o (over t p x))) (put_on t x p (length x) (omega arith) refl)
    ∙ ap (λ (l : List ℕ). (take p t ++ x) ++ (y ++ l)) (drop_over t p x h o (omega arith))
    ∙ append_assoc (take p t) x (y ++ drop o t)
    ∙ ap (λ (l : List ℕ). take p t ++ l) (sym (append_assoc x y (drop o t)))
    ∙ ap (λ (m : ℕ). take p t ++ ((x ++ y) ++ drop m t)) e

pub over_nothing : (t : List ℕ) (p : ℕ) → over t p [] ≡ t
unfolding over
over_nothing t p = rw add-zero (take-append-drop p t)
