-- The clock's rules, from the test to the facts of `Rules` and back; the time's and the running report's likewise.
-- Assumes nothing.
use mathlib.Core.Path.{◌≡◌, ◌∙◌}
use mathlib.Core.Bool.{true}
use borrow.Author.Tests.{leb-true, le-leb}
use Rattle.octets.specs.Choice.{both}
use Rattle.octets.proofs.Tests.{both_yes, both_reads}
use Rattle.rules.specs.Fields.{base_b, zone_b, dst_b, source_b, status_b}
use Rattle.rules.proofs.RangeLaws.{base_reads, base_makes}
use Rattle.clock.specs.Obeys.{opcode_b, last_counter, counter_b, report_b, running_b, time_b, clock_b, TimeRules, Rules, ReportRules}
use Rattle.clock.specs.declared.state.Clock.{Clock}
use Rattle.clock.specs.declared.state.Report.{Report}
use Rattle.clock.specs.declared.state.Time.{Time}
use Rattle.std.proofs.Common.{Some}

pub time_reads : (t : Time) → time_b t ≡ true → TimeRules t
unfolding time_b
time_reads t h =
    let x = both_reads (base_b t.base) _ h in
    let y = both_reads (both (zone_b t.zone) (dst_b t.dst)) _ x.1 in
    let z = both_reads (both (source_b t.source) (status_b t.status)) (base_b t.aligned) y.1 in
    let place = both_reads (zone_b t.zone) (dst_b t.dst) y.0 in
    let quality = both_reads (source_b t.source) (status_b t.status) z.0 in
    let base = base_reads t.base x.0 in
    let aligned = base_reads t.aligned z.1 in
    record {
      base_low = base.0;
      base_high = base.1;
      zone = place.0;
      dst = place.1;
      source = quality.0;
      status = quality.1;
      aligned_low = aligned.0;
      aligned_high = aligned.1;
    }

pub time_makes : (t : Time) → TimeRules t → time_b t ≡ true
unfolding time_b
time_makes t r =
    simp (
      base_makes t.base r.base_low r.base_high,
      r.zone,
      r.dst,
      r.source,
      r.status,
      base_makes t.aligned r.aligned_low r.aligned_high,
    )

pub clock_reads : (c : Clock) → clock_b c ≡ true → Rules c
unfolding clock_b
clock_reads c h =
    let x = both_reads (time_b c.time) (running_b c.running) h in
    record { time = time_reads c.time x.0; running = x.1 }

pub clock_makes : (c : Clock) → Rules c → clock_b c ≡ true
unfolding clock_b
clock_makes c r = both_yes (time_makes c.time r.time) ∙ r.running

pub running_reads : (r : Report) → running_b (Some r) ≡ true → ReportRules r
unfolding running_b report_b counter_b
running_reads r h =
    let x = both_reads (opcode_b r.opcode) (counter_b r.counter) h in
    record { opcode = x.0; counter = leb-true r.counter last_counter x.1 }

pub running_makes : (r : Report) → ReportRules r → running_b (Some r) ≡ true
unfolding running_b report_b counter_b
running_makes r h = simp (h.opcode, le-leb r.counter last_counter h.counter)
