-- The next record is held and has bytes unsent, by row 2; its segment, and the report after it.
use mathlib.Core.Path.{◌≡◌, refl}
use mathlib.Core.List.{◌∷◌}
use Prim.Native.Nat.{◌+◌}
use lib.ListN.{drop}
use Rattle.table.specs.Table.{held, age_of}
use Rattle.racp_access.proofs.LeftLaws.{Unsent, left_reads, unsent_of_lem}
use Rattle.racp_notify.proofs.NotifyLaws.{said_next}
use Rattle.racp_notify.proofs.notify.send.Goals as goal
use Rattle.racp_notify.proofs.notify.send.Goals.{After-record_at-next, Start}

-- what row 2 says
unsent : (s : Start) → Unsent s.args.t.now s.args.r.filter s.args.number s.args.sent
unsent s = left_reads _ _ _ _ s.requires.4

-- the record at the next record's age
next : (c : After-record_at-next)
    → let a = c.args in
    drop (age_of a.t.now a.number) (held a.t.now) ≡ c.record_at-next.result ∷ drop (age_of a.t.now a.number + 1) (held a.t.now)
next c = rw c.age_of.ensures at c.record_at-next.ensures

pub record_at-next-requires : goal.record_at-next-requires
record_at-next-requires c = (c.requires.0, rw c.age_of.ensures (unsent (goal.at.record_at-next-requires c).Start).held)

pub put_segment-len-requires : goal.put_segment-len-requires
put_segment-len-requires c = (c.requires.1, c.requires.2, c.requires.3, unsent_of_lem _ _ _ _ (next (goal.at.put_segment-len-requires c).After-record_at-next) (unsent (goal.at.put_segment-len-requires c).Start).unsent)

pub returns : goal.returns
returns c =
    said_next _ _ _ _ _ _ _ _ _ _ _ _ _ _
    (next (goal.at.returns c).After-record_at-next)
    refl
    c.counter_after.ensures
    c.left_after-left.ensures
    c.put_segment-len.ensures.0
    c.put_segment-len.ensures.1
