-- No bit where none is told, else those of the span.
use mathlib.Core.Path.{◌≡◌, ◌∙◌}
use Prim.Native.Nat.{ℕ, ◌+◌, ◌*◌}
use Rattle.std.specs.Prelude.{Option, Some, None, MatchOption}
use Rattle.std.proofs.Common.{rules}
use Rattle.fetch_word.specs.Bits.{word_of}
use Rattle.fetch_told.specs.Told.{inside_b}
use Rattle.fetch_told.specs.declared.told.Span.{Span}
use Rattle.fetch_told.proofs.ToldLaws.{none_bits}
use Rattle.fetch_told.proofs.told.inside_bits.Goals as goal

by_case : (P : Span → Type 0) (told : Option Span) (w x : ℕ) → MatchOption told (x ≡ 0) P
    → ((held : Span) → P held → x ≡ word_of (λ b. inside_b (Some held) (64 * w + b))) → x ≡ word_of (λ b. inside_b told (64 * w + b))
by_case P None w x h k = h ∙ none_bits (64 * w)
by_case P (Some held) w x h k = k held h

pub returns : goal.returns
returns c = by_case _ c.args.told c.args.w c.map_or.result c.map_or.ensures (λ held h. search rules)
