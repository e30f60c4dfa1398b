-- A clock that obeys its rules goes into its image and comes back.
-- Assumes nothing.
use mathlib.Core.Path.{◌≡◌, refl, sym, ap, ◌∙◌}
use mathlib.Core.Bool.{Bool, true, false}
use Prim.Native.Nat.{ℕ, ◌+◌, ◌*◌, ◌/◌, ◌%◌}
use borrow.Author.Tests.{eq-eqb, ne_eqb}
use lib.Dec.{eqb}
use lib.ListN.{length}
use Rattle.octets.proofs.NumberLaws.{two, four}
use Rattle.octets.proofs.Tests.{both_yes, clash}
use Rattle.filter.specs.declared.filter.Filter.{Filter}
use Rattle.filter.specs.declared.filter.Filter.TheVariants.{All, AtMost, AtLeast, Range, First, Last}
use Rattle.clock.specs.Obeys.{opcode_b, running_b, clock_b}
use Rattle.clock.specs.declared.state.Clock.{Clock}
use Rattle.clock.proofs.RuleLaws.{clock_reads, running_reads}
use Rattle.octets.specs.Parts.{same_b}
use Rattle.state_bytes.specs.State.{state_bytes, switches_of, bounds_of, unsent_of, fields_of, field_bytes, image_of, filter_in, left_in, running_in, clock_in, image_b}
use Rattle.state_images.specs.Theorems.{FilterFits, LeftFits, RunningFits, Fits, StateImages}
use Rattle.octets.proofs.SameLaws.{same_makes}
use Rattle.state_bytes.proofs.StateLaws.{of_image, image_back, no_image_lem}
use Rattle.clock.specs.declared.state.Report.{Report}
use Rattle.std.proofs.Common.{None, Option, Some}

-- a number's two bytes joined again
abbrev joined : ℕ → ℕ
joined n = n % 256 + 256 * (n / 256 % 256)

filter_back : (f : Filter) → FilterFits f
    → filter_in (bounds_of f).operator (joined (bounds_of f).minimum) (joined (bounds_of f).maximum) ≡ f
unfolding filter_in bounds_of
filter_back All h = refl
filter_back (AtMost max) h = ap AtMost (two max h)
filter_back (AtLeast min) h = ap AtLeast (two min h)
filter_back (Range min max) h = rw (two min h.0, two max h.1)
filter_back First h = refl
filter_back Last h = refl

left_back : (l : Option (ℕ × ℕ)) → LeftFits l → left_in (unsent_of l).left (joined (unsent_of l).next) (unsent_of l).sent ≡ l
unfolding left_in unsent_of
left_back None h = refl
left_back (Some (next, sent)) h = rw (two next h)

-- an opcode that may run is not 0
opcode_runs : (o : ℕ) → opcode_b o ≡ true → eqb o 0 ≡ false
unfolding opcode_b
opcode_runs o h = ne_eqb o 0 (λ e. clash (opcode_b 0) (ap opcode_b (sym e) ∙ h) refl)

running_back : (c : Clock) → RunningFits c.running → running_b c.running ≡ true → running_in (image_of c) ≡ c.running
unfolding running_in image_of field_bytes fields_of
running_back c h ok = go c.running refl h ok
  where
    go : (r : Option Report) → c.running ≡ r → RunningFits r → running_b r ≡ true → running_in (image_of c) ≡ r
    go None e h ok = rw e
    go (Some r) e h ok =
        simp (e, opcode_runs r.opcode (running_reads r ok).opcode, filter_back r.filter h.0, left_back r.left h.1)

record Switches (a b d : Bool) (n : ℕ) : Type 0 where
  dtcp : eqb (n % 2) 1 ≡ a
  racp : eqb (n / 2 % 2) 1 ≡ b
  log : eqb (n / 4 % 2) 1 ≡ d

switches_back : (a b d : Bool) → Switches a b d (switches_of a b d)
unfolding switches_of
switches_back true true true = record { dtcp = refl; racp = refl; log = refl }
switches_back true true false = record { dtcp = refl; racp = refl; log = refl }
switches_back true false true = record { dtcp = refl; racp = refl; log = refl }
switches_back true false false = record { dtcp = refl; racp = refl; log = refl }
switches_back false true true = record { dtcp = refl; racp = refl; log = refl }
switches_back false true false = record { dtcp = refl; racp = refl; log = refl }
switches_back false false true = record { dtcp = refl; racp = refl; log = refl }
switches_back false false false = record { dtcp = refl; racp = refl; log = refl }

clock_back : (c : Clock) → Fits c → clock_b c ≡ true → clock_in (image_of c) ≡ c
unfolding clock_in image_of
clock_back c h ok =
    let w = switches_back c.switches.dtcp c.switches.racp c.switches.log in
    rw (
      four c.time.base h.base,
      two c.time.status h.status,
      two c.time.faults h.faults,
      four c.time.aligned h.aligned,
      w.dtcp,
      w.racp,
      w.log,
      running_back c h.running (clock_reads c ok).running,
    )

image_long : (c : Clock) → length (image_of c) ≡ state_bytes
unfolding image_of field_bytes
image_long c = refl

image_is : (c : Clock) → Fits c → clock_b c ≡ true → image_b (image_of c) ≡ true
unfolding image_b
image_is c h ok =
    both_yes (eq-eqb (length (image_of c)) state_bytes (image_long c))
    ∙ ap (λ (x : Clock). same_b (image_of c) (image_of x)) (clock_back c h ok)
    ∙ same_makes (image_of c)

pub state_images : StateImages
state_images =
    record {
      size = image_long;
      written_back = image_back;
      read_back = λ c h ok. of_image (image_of c) (image_is c h ok) ∙ clock_back c h ok;
      is_image = image_is;
      no_image_lem = no_image_lem;
    }
