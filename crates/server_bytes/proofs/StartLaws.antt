-- Starting over the state's bytes: another length, and the new reader settled.
-- Assumes nothing.
use mathlib.Core.Path.{◌≡◌, ap, ◌∙◌}
use mathlib.Core.Bool.{true, false}
use mathlib.Core.List.{List}
use Prim.Native.Nat.{ℕ}
use borrow.Author.Tests.{eq-eqb, ne_eqb}
use lib.IntN.{ℤ}
use lib.ListN.{length}
use Rattle.table.specs.Table.{size_b}
use Rattle.update.specs.Start.{begun, new_reader_of}
use Rattle.state_bytes.specs.State.{state_bytes}
use Rattle.state_bytes.specs.Results.{refusal}
use Rattle.server_bytes.specs.Results.{Ran, ran, settled_of}
use Rattle.server_bytes.specs.Start.{started_bytes, short_of, begun_at, start_at}
use Rattle.clock.specs.Events.{Event}

pub short_2 : (n : ℕ) → size_b n ≡ true → short_of n ≡ refusal 2
unfolding short_of
short_2 n h = rw h

pub short_1 : (n : ℕ) → size_b n ≡ false → short_of n ≡ refusal 1
unfolding short_of
short_1 n h = rw h

module _ (s t : List ℕ) where
  pub start_short : (length s ≡ state_bytes → ⊥) → {z : ℤ} → z ≡ short_of (length t) → started_bytes z s t ≡ start_at s t
  unfolding start_at
  start_short h e = rw (ne_eqb (length s) state_bytes h, e)

  pub start_settled : length s ≡ state_bytes → {z y : ℤ} {s' t' : List ℕ} {e : Event}
      → y ≡ z
      → begun e t' ≡ new_reader_of t
      → ran z s' ≡ settled_of s e.answer e.clock 0
      → started_bytes y s' t' ≡ start_at s t
  unfolding start_at settled_of
  start_settled h {z} {y} {s'} {t'} q b w =
      rw (eq-eqb (length s) state_bytes h)
      (ap (λ (x : ℤ). started_bytes x s' t') q ∙ ap (λ (k : Ran). started_bytes k.result k.state t') w ∙ ap (begun_at s) b)
