-- The notes and clocks of both readers, and their logs as they were fetched.
use Rattle.loading_day.proofs.PageLaws.{evening_is}
use Rattle.loading_day.proofs.page.evening.Goals as goal

pub returns : goal.returns
returns c =
    let a = c.args in
    let l = c.collect.ensures in
    let r = c.collect-2.ensures in (
      evening_is a.tags a.ramp c.collect.result c.collect-2.result c.page_of.ensures.0 l.notes l.base l.table r.notes r.base r.table,
      c.page_of.ensures.1,
    )
