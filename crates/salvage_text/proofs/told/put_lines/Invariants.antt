-- The lines of the entries that are left, laid over the buffer where it is filled up to, give the whole.
use mathlib.Core.Path.{◌≡◌}
use Prim.Native.Nat.{◌+◌, ◌*◌, ◌/◌, ◌≤◌}
use lib.ListN.{length}
use Rattle.std.specs.Slice.Iter.{chunks_exact_rest, chunks_exact_size}
use Rattle.text.specs.Laid.{laid}
use Rattle.salvage_text.specs.Told.{report_lines}
use Rattle.salvage_text.proofs.told.put_lines.Given as goal

abbrev pub invariant-loop-entry : goal.invariant-loop-entry
invariant-loop-entry l =
    (goal.iterator-loop-entry).can_next l.entry-iterator
    × (goal.iterator-loop-entry).is_finite l.entry-iterator
    × (chunks_exact_size l.entry-iterator ≡ 16)
    × (length l.out ≡ length l.initial.out)
    × (l.end + 53 * (length (chunks_exact_rest l.entry-iterator) / 16) ≤ length l.out)
    × (laid l.out l.end (report_lines (chunks_exact_rest l.entry-iterator)) ≡ laid l.initial.out 0 (report_lines l.report))
