-- `time_ok` is `time_b`: each part by its rule.
use Rattle.clock.specs.Obeys.{time_b}
use Rattle.clock.proofs.obeys.time_ok.Goals as goal

pub returns : goal.returns
unfolding time_b
returns c =
    simp (
      c.both-2.ensures,
      c.both.ensures,
      c.base_ok-2.ensures,
      c.both-kept.ensures,
      c.base_ok.ensures,
      c.both-quality.ensures,
      c.status_ok.ensures,
      c.source_ok.ensures,
      c.both-place.ensures,
      c.dst_ok.ensures,
      c.zone_ok.ensures,
    )
