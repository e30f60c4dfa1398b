-- From start: every world that is reached is good, and a new reader runs no report.
-- Assumes nothing.
use mathlib.Core.List.{List, [], ◌∷◌}
use Rattle.theorems_reports.specs.World.{World, new_world}
use Rattle.theorems_reports.specs.Reach.{Good}
use Rattle.theorems_reports.proofs.GoodLaws.{sound_size, new_good}
use Rattle.theorems_reports.proofs.ReachLaws.{call_good}
use Rattle.theorems_handed.specs.Server.{AnyCall, start, call, after_of}
use Rattle.theorems_handed.specs.Started.{ran_over, EveryReachedOnce}
use Rattle.theorems_handed.proofs.HistoryLaws.{new_idle}
use Rattle.theorems_handed.proofs.OnceLaws.{every_record_once}

after_good : (v : World) (k : AnyCall) → Good v → Good (after_of v k)
unfolding after_of
after_good v start g = new_good v.table (sound_size v.table g.sound)
after_good v (call a) g = call_good v a g

ran_good : (ks : List AnyCall) (v : World) → Good v → Good (ran_over v ks)
unfolding ran_over
ran_good [] v g = g
ran_good (k ∷ ks) v g = ran_good ks (after_of v k) (after_good v k g)

pub reached_once : EveryReachedOnce
reached_once t before h =
    let v = ran_over (new_world t) before in
    let g = ran_good before (new_world t) (new_good t h) in
    record {
      handed = λ w o f ks a. every_record_once.handed v w o f ks g.bytes a;
      counted = λ w o f ks a. every_record_once.counted v w o f ks g.bytes a;
      after = λ w o f ks a. every_record_once.after v w o f ks g a;
      nothing_else = every_record_once.nothing_else (new_world t) before (new_good t h) (new_idle t);
    }
