-- Laws of `over` (a part written over) and of `Bytes`.
-- Assumes nothing.
use mathlib.Core.Path.{◌≡◌, refl, sym, ap, ◌∙◌}
use mathlib.Core.List.{List, [], ◌∷◌, ◌++◌}
use Prim.Native.Nat.{ℕ, zero, suc, ◌+◌, ◌-◌, ◌<◌, ◌≤◌}
use native.Mathlib.Nat.{zero-add, suc-add, add-sub_cancel_left}
use native.Mathlib.Omega.{arith}
use lib.ListN.{length, take, drop, replicate, take-append-drop, length-append, length-take, length-drop}
use lib.Seq.{take_all, take-take, take-add, take-append_seam, take-append-add, length-take-le, take-append-le, drop-append-le, take_at, drop_at, drop-drop, drop-append-add, get_or-drop}
use Rattle.octets.specs.Numbers.{at}
use Rattle.octets.specs.Parts.{part, over, Bytes}

-- a part that lies in the first of two lists
part_front : (a y : List ℕ) (o n : ℕ) → o + n ≤ length a → part (a ++ y) o n ≡ part a o n
part_front a y o n h =
    ap (λ (l : List ℕ). take n l) (drop-append-le o a y (omega arith))
    ∙ take-append-le n (drop o a) y (rw length-drop (omega arith))

module _ (t : List ℕ) (p : ℕ) (xs : List ℕ) (h : p + length xs ≤ length t) where
  pub length_over : length (over t p xs) ≡ length t
  unfolding over
  length_over = simp (length-append, length-drop, length-take) (omega arith)

  -- what lies past it
  pub drop_over : (o : ℕ) → p + length xs ≤ o → drop o (over t p xs) ≡ drop o t
  unfolding over
  drop_over o ho =
      let k : ℕ = o - p in
      let ea : length (take p t) ≡ p = length-take-le p t (omega arith) in
      let e : o ≡ length (take p t) + k = omega arith in
      let j : ℕ = k - length xs in
      let f : k ≡ length xs + j = omega arith in
      let back : p + length xs + j ≡ o = omega arith in
      ap (λ (n : ℕ). drop n (take p t ++ (xs ++ drop (p + length xs) t))) e
      ∙ drop-append-add (take p t) (xs ++ drop (p + length xs) t) k
      ∙ ap (λ (n : ℕ). drop n (xs ++ drop (p + length xs) t)) f
      ∙ drop-append-add xs (drop (p + length xs) t) j
      ∙ drop-drop j (p + length xs) t
      ∙ ap (λ (n : ℕ). drop n t) back

  pub part_past : (o n : ℕ) → p + length xs ≤ o → part (over t p xs) o n ≡ part t o n
  part_past o n ho = ap (λ (l : List ℕ). take n l) (drop_over o ho)

  -- what lies before it
  pub part_before : (o n : ℕ) → o + n ≤ p → part (over t p xs) o n ≡ part t o n
  unfolding over
  part_before o n ho =
      let e : length (take p t) ≡ p = length-take-le p t (omega arith) in
      part_front (take p t) (xs ++ drop (p + length xs) t) o n (omega arith)
      ∙ sym (part_front (take p t) (drop p t) o n (omega arith))
      ∙ ap (λ (l : List ℕ). part l o n) (take-append-drop p t)

  -- what was put
  pub part_here : part (over t p xs) p (length xs) ≡ xs
  unfolding over
  part_here =
      ap (λ (l : List ℕ). take (length xs) l) (drop_at (take p t) (xs ++ drop (p + length xs) t) p (length-take-le p t (omega arith)))
      ∙ take_at xs (drop (p + length xs) t) (length xs) refl

-- the first bytes of a list with xs over it
pub take_over : (t : List ℕ) (p : ℕ) (xs : List ℕ) → p ≤ length t → take (p + length xs) (over t p xs) ≡ take p t ++ xs
unfolding over
take_over t p xs h =
    ap (λ (k : ℕ). take (k + length xs) (take p t ++ (xs ++ drop (p + length xs) t))) (sym (length-take-le p t h))
    ∙ take-append-add (take p t) (xs ++ drop (p + length xs) t) (length xs)
    ∙ ap (λ (l : List ℕ). take p t ++ l) (take-append_seam xs (drop (p + length xs) t))

-- the next n bytes of f over a list as long
module _ (t f : List ℕ) (same : length t ≡ length f) (p n : ℕ) (fits : p + n ≤ length f) where
  length_part : length (part f p n) ≡ n
  length_part = length-take-le n (drop p f) (rw length-drop (omega arith))

  pub length_copied : length (over t p (part f p n)) ≡ length f
  length_copied = length_over t p (part f p n) (rw length_part (omega arith)) ∙ same

  -- it begins as f does so far, and so it goes on
  pub copied_on : take p t ≡ take p f → take (p + n) (over t p (part f p n)) ≡ take (p + n) f
  copied_on so_far =
      ap (λ (k : ℕ). take (p + k) (over t p (part f p n))) (sym length_part)
      ∙ take_over t p (part f p n) (omega arith)
      ∙ ap (λ (l : List ℕ). l ++ part f p n) so_far
      ∙ sym (take-add p n f)

  -- the last n, where it begins as f does up to them or further
  pub copied_all : p + n ≡ length f → (k : ℕ) → p ≤ k → take k t ≡ take k f → over t p (part f p n) ≡ f
  copied_all e k h so_far =
      let to_last : take p t ≡ take p f = sym (take-take p k t h) ∙ ap (λ (l : List ℕ). take p l) so_far ∙ take-take p k f h in
      sym (take_all (p + n) (over t p (part f p n)) (omega (arith, length_copied)))
      ∙ copied_on to_last
      ∙ take_all (p + n) f (omega arith)

-- every byte stays a byte
pub bytes_append : (a b : List ℕ) → Bytes a → Bytes b → Bytes (a ++ b)
bytes_append a b ha hb = record { byte = go a ha.byte }
  where
    go : (l : List ℕ) → ((i : ℕ) → at l i < 256) → (i : ℕ) → at (l ++ b) i < 256
    go [] h i = hb.byte i
    go (x ∷ l) h zero = h 0
    go (x ∷ l) h (suc i) = go l (λ k. h (suc k)) i

pub bytes_take : (n : ℕ) (t : List ℕ) → Bytes t → Bytes (take n t)
bytes_take n t h = record { byte = go n t h.byte }
  where
    go : (m : ℕ) (l : List ℕ) → ((i : ℕ) → at l i < 256) → (i : ℕ) → at (take m l) i < 256
    go zero l k i = omega arith
    go (suc m) [] k i = omega arith
    go (suc m) (x ∷ l) k zero = k 0
    go (suc m) (x ∷ l) k (suc i) = go m l (λ j. k (suc j)) i

pub bytes_drop : (n : ℕ) (t : List ℕ) → Bytes t → Bytes (drop n t)
bytes_drop n t h = record { byte = λ i. rw (get_or-drop n t i 0) (h.byte (n + i)) }

pub bytes_zeros : (n : ℕ) → Bytes (replicate n 0)
bytes_zeros n = record { byte = go n }
  where
    go : (m i : ℕ) → at (replicate m 0) i < 256
    go zero i = omega arith
    go (suc m) zero = omega arith
    go (suc m) (suc i) = go m i

pub bytes_over : (t : List ℕ) (p : ℕ) (xs : List ℕ) → Bytes t → Bytes xs → Bytes (over t p xs)
unfolding over
bytes_over t p xs ht hx = bytes_append (take p t) _ (bytes_take p t ht) (bytes_append xs _ hx (bytes_drop (p + length xs) t ht))

pub drop_zeros : (n m : ℕ) → drop {A = ℕ} n (replicate (n + m) 0) ≡ replicate m 0
drop_zeros zero m = rw zero-add
drop_zeros (suc n) m = rw suc-add (drop_zeros n m)

-- a part from p on that was lent and came back as b
pub part_back : (t : List ℕ) {b : List ℕ} (xs : List ℕ) (p : ℕ) → b ≡ xs → take p t ++ (b ++ drop (p + length xs - p) (drop p t)) ≡ over t p xs
unfolding over
part_back t xs p e = rw (e, add-sub_cancel_left p (length xs), drop-drop (length xs) p t)

-- the n bytes from p on, as they are lent; such a part of t that came back as those of f
pub lent : (f : List ℕ) (p n : ℕ) → take (p + n - p) (drop p f) ≡ part f p n
lent f p n = ap (λ (k : ℕ). take k (drop p f)) (add-sub_cancel_left p n)

pub copied_back : (t f : List ℕ) {b : List ℕ} (p n : ℕ) → p + n ≤ length f → b ≡ part f p n
    → take p t ++ (b ++ drop (p + n - p) (drop p t)) ≡ over t p (part f p n)
copied_back t f {b} p n h e =
    let size : length (part f p n) ≡ n = length-take-le n (drop p f) (rw length-drop (omega arith)) in
    ap (λ (k : ℕ). take p t ++ (b ++ drop (p + k - p) (drop p t))) (sym size) ∙ part_back t (part f p n) p e
