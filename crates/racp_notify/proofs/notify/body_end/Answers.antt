-- The nearer of the two.
use mathlib.Core.Path.{◌≡◌, refl, ◌∙◌}
use mathlib.Core.Bool.{Bool, true, false}
use Prim.Native.Nat.{ℕ, min}
use borrow.Author.Tests.{leb-true, leb-false}
use lib.Dec.{leb}
use native.Mathlib.Omega.{arith}
use Rattle.octets.specs.Choice.{pick}
use Rattle.racp_notify.proofs.notify.body_end.Goals as goal

nearer : (a b : ℕ) (t : Bool) → leb a b ≡ t → min a b ≡ pick t a b
nearer a b true e = let h = leb-true a b e in omega arith
nearer a b false e = let h = leb-false a b e in omega arith

pub returns : goal.returns
returns c = c.min.ensures ∙ nearer c.args.len c.args.reach _ refl
