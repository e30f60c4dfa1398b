-- Joining over its state's bytes: another length, refused, and the body laid and the three numbers set.
-- Assumes nothing.
use mathlib.Core.Path.{◌≡◌, refl, sym, ap, ◌∙◌}
use mathlib.Core.Bool.{false}
use mathlib.Core.List.{List, [], ◌∷◌, ◌++◌, append-nil}
use Prim.Native.Nat.{ℕ, ◌+◌, ◌-◌, ◌%◌, ◌≤◌}
use native.Mathlib.Omega.{arith}
use borrow.Author.Tests.{eq-eqb, ne_eqb}
use lib.IntN.{ℤ, pos}
use lib.ListN.{length, take, drop, set, replicate, length-drop, drop_of_length-le}
use lib.Seq.{take_all, drop_at, length-take-le}
use Rattle.octets.specs.Numbers.{at}
use Rattle.octets.specs.Parts.{over}
use Rattle.joining.specs.Joining.{whole, inside, joining, last_bit, counter_in, body, standing, len_after, takes_b, laid_under, taken_of, join_of, joining_number, empty_joining}
use Rattle.joining.proofs.JoiningLaws.{taken_whole, taken_more, join_refused}
use Rattle.joining.specs.declared.joining.Answer.TheVariants.{Refused}
use Rattle.joining.specs.declared.joining.Joining.{Joining}
use Rattle.state_bytes.specs.JoiningState.{joining_bytes, joining_image, joining_in}
use Rattle.state_bytes.specs.Results.{refusal}
use Rattle.tablet_bytes.specs.Calls.{JoinedBytes, joined, joined_bytes, join_at}

-- the three numbers set before the record's bytes
pub head_set : (s : List ℕ) (phase counter len : ℕ) → 3 ≤ length s → set (set (set s 0 phase) 1 counter) 2 len ≡ phase ∷ counter ∷ len ∷ drop 3 s
head_set [] phase counter len h = absurd (let k : ⊥ = omega arith in k)
head_set (a ∷ []) phase counter len h = absurd (let k : ⊥ = omega arith in k)
head_set (a ∷ b ∷ []) phase counter len h = absurd (let k : ⊥ = omega arith in k)
head_set (a ∷ b ∷ c ∷ s) phase counter len h = refl

-- the state with its record's bytes as they are lent
abbrev lent : List ℕ → Joining
lent s = joining (at s 0) (at s 1) (at s 2) (take (length s - 3) (drop 3 s))

lent_is : (s : List ℕ) → lent s ≡ joining_in s
unfolding joining_in
lent_is s = ap (joining (at s 0) (at s 1) (at s 2)) (take_all (length s - 3) (drop 3 s) (rw length-drop (omega arith)))

-- the same bytes as they come back
abbrev back : List ℕ → List ℕ → List ℕ
back s b = take 3 s ++ (b ++ drop (length s - 3) (drop 3 s))

back_is : (s b : List ℕ) → 3 ≤ length s → drop 3 (back s b) ≡ b
back_is s b h =
    drop_at (take 3 s) (b ++ drop (length s - 3) (drop 3 s)) 3 (length-take-le 3 s h)
    ∙ rw (drop_of_length-le (drop 3 s) {i = length s - 3} (rw length-drop (omega arith))) (append-nil b)

-- taken: the body laid and the three numbers set, with the last bit or without
module _ (s n : List ℕ) (size : length s ≡ joining_bytes) {counter len : ℕ} {b : List ℕ} (c : counter ≡ (counter_in n + 1) % 64)
    (l : len ≡ len_after (joining_in s) n) (e : b ≡ over (laid_under (lent s)) (standing (lent s)) (body n)) where
  laid : drop 3 (back s b) ≡ over (laid_under (joining_in s)) (standing (joining_in s)) (body n)
  laid =
      back_is s b (omega arith)
      ∙ e
      ∙ ap (λ (j : Joining). over (laid_under j) (standing j) (body n)) (lent_is s)

  pub in_whole : last_bit n ≡ 1 → {z : ℤ} {x : List ℕ} → z ≡ pos len → x ≡ whole ∷ counter ∷ len ∷ drop 3 (back s b)
      → joined z x ≡ joined_bytes (taken_of (joining_in s) n)
  unfolding joining_image
  in_whole h ez ex = rw (ez, ex) (ap joined_bytes (taken_whole (joining_in s) n c l laid h))

  pub in_more : (last_bit n ≡ 1 → ⊥) → {x : List ℕ} → x ≡ inside ∷ counter ∷ len ∷ drop 3 (back s b) → joined (pos 0) x ≡ joined_bytes (taken_of (joining_in s) n)
  unfolding joining_image
  in_more h ex = ap (joined (pos 0)) ex ∙ ap joined_bytes (taken_more (joining_in s) n c l laid h)

-- refused: zeros
pub in_refused : (s n : List ℕ) → length s ≡ joining_bytes → takes_b (joining_in s) n ≡ false → {x : List ℕ} → x ≡ replicate (length s) 0
    → joined (refusal (joining_number Refused)) x ≡ joined_bytes (join_of (joining_in s) n)
unfolding joining_image empty_joining
in_refused s n h k e = ap (joined (refusal (joining_number Refused))) (e ∙ rw h) ∙ sym (ap joined_bytes (join_refused (joining_in s) n k))

-- the call: another length, or what joining in the state leaves
module _ (j n : List ℕ) where
  pub join_short : (length j ≡ joining_bytes → ⊥) → {b : List ℕ} → b ≡ replicate (length j) 0 → joined (refusal (joining_number Refused)) b ≡ join_at j n
  unfolding join_at
  join_short h e = rw (ne_eqb (length j) joining_bytes h, e)

  pub join_here : length j ≡ joining_bytes → {u : JoinedBytes} → u ≡ joined_bytes (join_of (joining_in j) n) → u ≡ join_at j n
  unfolding join_at
  join_here h e = rw (eq-eqb (length j) joining_bytes h) e
