-- Each word by its kind, and the last for any other.
use mathlib.Core.Path.{◌≡◌, refl, sym, ◌∙◌}
use Rattle.salvage_report.specs.Kinds.{byte_of}
use Rattle.salvage_report.specs.declared.kind.Kind.{Kind}
use Rattle.salvage_report.specs.declared.kind.Kind.TheVariants.{Slot, Slots, Held, Offset, Next, Rest}
use Rattle.salvage_text.specs.Told.{slots_word, held_word, offset_word, next_word, rest_word, field_word}
use Rattle.salvage_text.proofs.LineLaws.{one_word}
use native.Mathlib.Omega.{arith}
use Rattle.salvage_text.proofs.lines.field_word.Goals as goal

pub returns-in-Slots : goal.returns-in-Slots
unfolding field_word
returns-in-Slots c = rw c.in-Slots.is (one_word slots_word (omega arith) c.empty.ensures c.with_word.ensures)

pub returns-in-Held : goal.returns-in-Held
unfolding field_word
returns-in-Held c = rw c.in-Held.is (one_word held_word (omega arith) c.empty-in-Held.ensures c.with_word-in-Held.ensures)

pub returns-in-Offset : goal.returns-in-Offset
unfolding field_word
returns-in-Offset c = rw c.in-Offset.is (one_word offset_word (omega arith) c.empty-in-Offset.ensures c.with_word-in-Offset.ensures)

pub returns-in-Next : goal.returns-in-Next
unfolding field_word
returns-in-Next c = rw c.in-Next.is (one_word next_word (omega arith) c.empty-in-Next.ensures c.with_word-in-Next.ensures)

pub returns-in_default : goal.returns-in_default
unfolding field_word
returns-in_default c =
    one_word rest_word (omega arith) c.empty-in_default.ensures c.with_word-in_default.ensures
    ∙ sym (other c.args.kind c.in_default.not-Slots c.in_default.not-Held c.in_default.not-Offset c.in_default.not-Next)
  where
    other : (k : Kind) → (k ≡ Slots → ⊥) → (k ≡ Held → ⊥) → (k ≡ Offset → ⊥) → (k ≡ Next → ⊥) → field_word (byte_of k) ≡ rest_word
    other Slot a b d e = refl
    other Slots a b d e = absurd (a refl)
    other Held a b d e = absurd (b refl)
    other Offset a b d e = absurd (d refl)
    other Next a b d e = absurd (e refl)
    other Rest a b d e = refl
