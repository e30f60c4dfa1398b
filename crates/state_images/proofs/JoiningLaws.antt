-- The joining state's bytes: that they come back.
-- Assumes nothing.
use mathlib.Core.Path.{◌≡◌, refl, sym, ap, ◌∙◌}
use mathlib.Core.List.{List, ◌∷◌}
use Prim.Native.Nat.{ℕ}
use native.Mathlib.Omega.{arith}
use lib.ListN.{length}
use lib.Seq.{drop-cons}
use Rattle.octets.specs.Numbers.{at}
use Rattle.joining.specs.Joining.{empty_joining}
use Rattle.state_bytes.specs.JoiningState.{joining_bytes, joining_image, joining_in}
use Rattle.state_images.specs.Theorems.{JoiningImages}

written_back : (s : List ℕ) → length s ≡ joining_bytes → joining_image (joining_in s) ≡ s
unfolding joining_image joining_in
written_back s h =
    sym (drop-cons s 0 0 (omega arith) ∙ ap (λ (l : List ℕ). at s 0 ∷ l) (drop-cons s 1 0 (omega arith) ∙ ap (λ (l : List ℕ). at s 1 ∷ l) (drop-cons s 2 0 (omega arith))))

pub joining_images : JoiningImages
unfolding joining_image joining_in empty_joining
joining_images =
    record {
      size = λ j h. omega arith;
      written_back = written_back;
      read_back = λ j. refl;
      zeros = refl;
    }
