-- What is promised of the images beyond each call's own equation.
use Rattle.std.specs.Prelude.{◌≡◌, true, false, List, ℕ, ◌<◌, length, replicate, None, Option, Some}
use Rattle.filter.specs.declared.filter.Filter.{Filter}
use Rattle.filter.specs.declared.filter.Filter.TheVariants.{All, AtMost, AtLeast, Range, First, Last}
use Rattle.clock.specs.Obeys.{clock_b}
use Rattle.clock.specs.declared.state.Clock.{Clock}
use Rattle.record.specs.Fields.{most_bytes}
use Rattle.joining.specs.Joining.{empty_joining}
use Rattle.joining.specs.declared.joining.Joining.{Joining}
use Rattle.state_bytes.specs.State.{state_bytes, image_of, clock_in, image_b, clock_of}
use Rattle.state_bytes.specs.JoiningState.{joining_bytes, joining_image, joining_in}
use Rattle.clock.specs.declared.state.Report.{Report}

-- Each field fits its width. The types in the code say so of every clock there.
abbrev pub FilterFits : Filter → Type 0
FilterFits All = Unit {0}
FilterFits (AtMost max) = max < 65536
FilterFits (AtLeast min) = min < 65536
FilterFits (Range min max) = (min < 65536) × (max < 65536)
FilterFits First = Unit {0}
FilterFits Last = Unit {0}

abbrev pub LeftFits : Option (ℕ × ℕ) → Type 0
LeftFits None = Unit {0}
LeftFits (Some (next, sent)) = next < 65536

abbrev pub RunningFits : Option Report → Type 0
RunningFits None = Unit {0}
RunningFits (Some r) = FilterFits r.filter × LeftFits r.left

pub record Fits (c : Clock) : Type 0 where
  pub base : c.time.base < 4294967296
  pub status : c.time.status < 65536
  pub faults : c.time.faults < 65536
  pub aligned : c.time.aligned < 4294967296
  pub running : RunningFits c.running

-- "One encoding per state": bytes that are an image are the image of the clock that they stand for, and of no other clock that obeys its
-- rules; a clock that does is read back from its image, which is 32 bytes. Bytes that are no image stand for a clock that breaks a rule.
pub record StateImages : Type 0 where
  pub size : (c : Clock) → length (image_of c) ≡ state_bytes
  pub written_back : (s : List ℕ) → image_b s ≡ true → image_of (clock_in s) ≡ s
  pub read_back : (c : Clock) → Fits c → clock_b c ≡ true → clock_of (image_of c) ≡ c
  pub is_image : (c : Clock) → Fits c → clock_b c ≡ true → image_b (image_of c) ≡ true
  pub no_image_lem : (s : List ℕ) → image_b s ≡ false → clock_b (clock_of s) ≡ false

-- A joining state, within its ranges or not, and its image of 48 bytes stand for each other; "all zero is the empty state".
pub record JoiningImages : Type 0 where
  pub size : (j : Joining) → length j.bytes ≡ most_bytes → length (joining_image j) ≡ joining_bytes
  pub written_back : (s : List ℕ) → length s ≡ joining_bytes → joining_image (joining_in s) ≡ s
  pub read_back : (j : Joining) → joining_in (joining_image j) ≡ j
  pub zeros : joining_image empty_joining ≡ replicate joining_bytes 0
