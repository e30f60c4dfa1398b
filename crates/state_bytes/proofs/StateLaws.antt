-- The clock state's bytes: how they are laid down, and when bytes are an image.
-- Assumes nothing.
use mathlib.Core.Path.{◌≡◌, refl, sym, ap, ◌∙◌}
use mathlib.Core.Bool.{Bool, true, false}
use mathlib.Core.List.{List, [], ◌∷◌, ◌++◌}
use Prim.Native.Nat.{ℕ}
use borrow.Author.Tests.{eq-eqb, ne_eqb, eqb-true}
use lib.Dec.{eqb}
use lib.ListN.{length}
use Rattle.octets.specs.Numbers.{bytes2, bytes4}
use Rattle.octets.specs.Choice.{both}
use Rattle.octets.proofs.Tests.{both_yes, both_no, both_reads, clash}
use Rattle.rules.specs.Fields.{base_b}
use Rattle.clock.specs.Events.{with_base}
use Rattle.clock.specs.Obeys.{time_b, clock_b}
use Rattle.clock.specs.State.{new_reader}
use Rattle.clock.specs.declared.state.Clock.{Clock}
use Rattle.clock.specs.declared.state.Report.{Report}
use Rattle.octets.specs.Parts.{same_b}
use Rattle.state_bytes.specs.State.{state_bytes, switches_of, bounds, bounds_of, unsent_of, fields, fields_of, field_bytes, image_of, clock_in, image_b, no_clock, clock_of}
use Rattle.state_bytes.specs.declared.state.Bounds.{Bounds}
use Rattle.state_bytes.specs.declared.state.Fields.{Fields}
use Rattle.state_bytes.specs.declared.state.Unsent.{Unsent}
use Rattle.octets.proofs.SameLaws.{same_reads}
use Rattle.std.proofs.Common.{None, Some}

pub image_laid : (c : Clock) {f : Fields} {w : ℕ} → f ≡ fields_of c.running → w ≡ switches_of c.switches.dtcp c.switches.racp c.switches.log
    → bytes4 c.time.base
    ++ (c.time.zone ∷ c.time.dst ∷ c.time.source ∷ c.time.accuracy
    ∷ (bytes2 c.time.status
    ++ (bytes2 c.time.faults
    ++ (bytes4 c.time.aligned ++ (w ∷ (field_bytes f ++ (0 ∷ 0 ∷ 0 ∷ 0 ∷ [])))))))
    ≡ image_of c
unfolding image_of
image_laid c e d = rw (e, d)

-- the report's fields, part by part
pub fields_idle : {b : Bounds} {u : Unsent} → b ≡ bounds 0 0 0 → u ≡ unsent_of None → fields 0 b 0 u ≡ fields_of None
unfolding fields_of unsent_of
fields_idle e d = rw (e, d)

pub fields_report : (r : Report) {b : Bounds} {u : Unsent} → b ≡ bounds_of r.filter → u ≡ unsent_of r.left
    → fields r.opcode b r.counter u ≡ fields_of (Some r)
unfolding fields_of
fields_report r e d = rw (e, d)

-- not an image, and an image
pub of_none : (s : List ℕ) → image_b s ≡ false → clock_of s ≡ no_clock
unfolding clock_of
of_none s h = rw h

pub of_image : (s : List ℕ) → image_b s ≡ true → clock_of s ≡ clock_in s
unfolding clock_of
of_image s h = rw h

-- the answers of `clock_of`, with what it read and wrote on the way
module _ (s : List ℕ) where
  pub of_short : (length s ≡ state_bytes → ⊥) → clock_of s ≡ no_clock
  unfolding image_b
  of_short h = of_none s (both_no (eqb (length s) state_bytes) _ (ne_eqb (length s) state_bytes h))

  module _ {c : Clock} {image : List ℕ} {same : Bool}
      (size : length s ≡ state_bytes)
      (read : c ≡ clock_in s)
      (written : image ≡ image_of c)
      (told : same ≡ same_b s image)
    where
      same_told : image_b s ≡ same
      unfolding image_b
      same_told = both_yes (eq-eqb (length s) state_bytes size) ∙ ap (same_b s) (ap image_of (sym read) ∙ sym written) ∙ sym told

      pub of_other : same ≡ false → clock_of s ≡ no_clock
      of_other h = of_none s (same_told ∙ h)

      pub of_same : same ≡ true → clock_of s ≡ c
      of_same h = of_image s (same_told ∙ h) ∙ sym read

-- what it is to be an image
pub image_size : (s : List ℕ) → image_b s ≡ true → length s ≡ state_bytes
unfolding image_b
image_size s h = eqb-true (length s) state_bytes (both_reads (eqb (length s) state_bytes) _ h).0

pub image_back : (s : List ℕ) → image_b s ≡ true → image_of (clock_in s) ≡ s
unfolding image_b
image_back s h = sym (same_reads s (image_of (clock_in s)) (both_reads (eqb (length s) state_bytes) _ h).1)

-- the clock that stands for no image breaks a rule, so that one that obeys them was read from an image
none_broken : clock_b no_clock ≡ false
unfolding clock_b time_b no_clock with_base new_reader base_b
none_broken = refl

pub no_image_lem : (s : List ℕ) → image_b s ≡ false → clock_b (clock_of s) ≡ false
no_image_lem s h = ap clock_b (of_none s h) ∙ none_broken

pub obeys_image : (s : List ℕ) → clock_b (clock_of s) ≡ true → image_b s ≡ true
obeys_image s h = go (image_b s) refl
  where
    go : (b : Bool) → image_b s ≡ b → image_b s ≡ true
    go true e = e
    go false e = absurd (clash (clock_b (clock_of s)) h (no_image_lem s e))

pub obeys_size : (s : List ℕ) → clock_b (clock_of s) ≡ true → length s ≡ state_bytes
obeys_size s h = image_size s (obeys_image s h)
