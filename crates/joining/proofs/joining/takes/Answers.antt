-- `takes` is `takes_b`: each way out is one part of it.
use mathlib.Core.Path.{◌≡◌, sym, ap, ◌∙◌}
use mathlib.Core.Bool.{true}
use mathlib.Core.List.{List, []}
use Prim.Native.Nat.{ℕ, ◌+◌, ◌≤◌}
use lib.Dec.{leb}
use lib.ListN.{length}
use Rattle.record.specs.Fields.{most_bytes}
use Rattle.joining.specs.Joining.{joining, ranges_b, body}
use Rattle.joining.proofs.JoiningLaws.{ranges_reads, takes_short, takes_out_of_range, takes_misplaced, takes_not_following, takes_room, standing_small, room_left}
use native.Mathlib.Omega.{arith}
use Rattle.joining.proofs.joining.takes.Goals as goal
use Rattle.joining.proofs.joining.takes.Goals.{After-standing, Else-not-ranges_ok}

in_range : (c : Else-not-ranges_ok) (b : List ℕ)
    → let a = c.args in ranges_b (joining a.phase a.counter a.len b) ≡ true
in_range c b = sym (c.ranges_ok.ensures b) ∙ c.if-not-ranges_ok.false

small : (c : After-standing)
    → (let a = c.args in ranges_b (joining a.phase a.counter a.len []) ≡ true)
    → c.standing.result ≤ 45
small c r = rw (c.standing.ensures c.args.counter []) (standing_small _ (ranges_reads _ r))

pub returns-then-note-lt2 : goal.returns-then-note-lt2
returns-then-note-lt2 c _ = sym (takes_short _ _ c.if-note-lt2.true)

pub returns-then-not-ranges_ok : goal.returns-then-not-ranges_ok
returns-then-not-ranges_ok c b = sym (takes_out_of_range _ _ (sym (c.ranges_ok.ensures b) ∙ c.if-not-ranges_ok.true))

pub returns-then-not-placed : goal.returns-then-not-placed
returns-then-not-placed c b = sym (takes_misplaced _ _ (sym (c.placed.ensures _ _ b) ∙ c.if-not-placed.true))

pub returns-then-not-follows : goal.returns-then-not-follows
returns-then-not-follows c b = sym (takes_not_following _ _ (sym (c.follows.ensures _ b) ∙ c.if-not-follows.true))

pub overflow_sub-result-2 : goal.overflow_sub-result-2
overflow_sub-result-2 c =
    small (goal.at.overflow_sub-result-2 c).After-standing (in_range (goal.at.overflow_sub-result-2 c).Else-not-ranges_ok [])

pub returns : goal.returns
returns c b =
    let a = c.args in
    room_left _ a.note.now (small (goal.at.returns c).After-standing (in_range (goal.at.returns c).Else-not-ranges_ok []))
    ∙ ap (λ (s : ℕ). leb (s + length (body a.note.now)) most_bytes) (c.standing.ensures a.counter b)
    ∙ sym
    (takes_room _ a.note.now (omega arith)
    (in_range (goal.at.returns c).Else-not-ranges_ok b)
    (sym (c.placed.ensures _ _ b) ∙ c.if-not-placed.false)
    (sym (c.follows.ensures _ b) ∙ c.if-not-follows.false))
