-- How long the lines are at most.
-- Assumes nothing.
use mathlib.Core.List.{List}
use Prim.Native.Nat.{ℕ, ◌+◌, ◌≤◌}
use native.Mathlib.Omega.{arith}
use lib.ListN.{length, length-append}
use Rattle.text.proofs.DecimalLaws.{decimal_short_any}
use Rattle.season_text.specs.Lines.{updates_word, forward_word, back_word, named, first_figures, ended_line}
use Rattle.season_figures.specs.declared.figures.Figures.{Figures}

pub named_short : (word : List ℕ) (n : ℕ) → length (named word n) ≤ length word + 20
unfolding named
named_short word n = rw length-append (omega (arith, decimal_short_any n))

pub first_short : (f : Figures) → length (first_figures f) ≤ 87
unfolding first_figures
first_short f =
    simp length-append
    (omega (arith, named_short updates_word f.updates, named_short forward_word f.forward, named_short back_word f.back))

pub ended_short : (position : ℕ) → length (ended_line position) ≤ 27
unfolding ended_line named
ended_short position = simp length-append (omega (arith, decimal_short_any position))
