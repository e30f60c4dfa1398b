-- None where none is told, else by the span.
use mathlib.Core.Path.{◌≡◌}
use mathlib.Core.Bool.{Bool, false}
use Prim.Native.Nat.{ℕ}
use Rattle.std.specs.Prelude.{Option, Some, None, MatchOption}
use Rattle.std.proofs.Common.{rules}
use Rattle.fetch_told.specs.Told.{inside_b}
use Rattle.fetch_told.specs.declared.told.Span.{Span}
use Rattle.fetch_told.proofs.told.inside.Goals as goal

by_case : (P : Span → Type 0) (told : Option Span) (s : ℕ) (b : Bool) → MatchOption told (b ≡ false) P
    → ((held : Span) → P held → b ≡ inside_b (Some held) s) → b ≡ inside_b told s
unfolding inside_b
by_case P None s b h k = h
by_case P (Some held) s b h k = k held h

pub returns : goal.returns
returns c = by_case _ c.args.told c.args.number c.is_some_and.result c.is_some_and.ensures (λ held h. search rules)
