-- A report that is closed stays; the closing response closes it; a segment is joined.
use mathlib.Core.Path.{◌≡◌, sym, ap, ◌∙◌}
use Prim.Native.Nat.{◌≤◌}
use lib.ListN.{length}
use lib.Seq.{length-take-le}
use Rattle.racp_notify.specs.Notify.{Notice, said_len}
use Rattle.day_play.specs.Reader.{output}
use Rattle.day_evening.proofs.FetchLaws.{notice_fits, stays_closed, cuts, closing, segment}
use native.Mathlib.Omega.{arith}
use Rattle.std.proofs.Common.{rules}
use Rattle.day_evening.proofs.fetch.heard.Goals as goal
use Rattle.day_evening.proofs.fetch.heard.Goals.{In-Some}

fits : (c : In-Some) → c.in-Some.len ≤ length c.notify-said.new.out
fits c =
    let a = c.args in
    let long : length c.notify-said.new.out ≡ 20 = search rules in
    let said : said_len c.notify-said.result ≤ 20 = rw (ap (λ (x : Notice). x.reply.len) c.notify-said.ensures) (notice_fits a.f.clock a.table 20 output) in
    let cut = (cuts _ _ _ (sym c.segment_in.ensures ∙ c.in-Some.is)).1 in
    omega arith

pub returns-then-f : goal.returns-then-f
returns-then-f c = stays_closed c.args.table c.args.f c.if-f.true

pub returns-in_default : goal.returns-in_default
returns-in_default c =
    let a = c.args in
    closing a.table a.f c.notify-said.result _ c.notify-said.new.out c.if-f.false c.notify-said.ensures (sym c.segment_in.ensures ∙ c.in_default.is)

pub slice_bounds-out-end : goal.slice_bounds-out-end
slice_bounds-out-end c = fits (goal.at.slice_bounds-out-end c).In-Some

pub slice_bounds-join-end : goal.slice_bounds-join-end
slice_bounds-join-end c = sym (length-take-le c.in-Some.len c.notify-said.new.out (fits (goal.at.slice_bounds-join-end c).In-Some))

pub returns : goal.returns
returns c =
    let a = c.args in
    segment a.table a.f c.notify-said.result _ c.notify-said.new.out c.if-f.false c.notify-said.ensures _ (sym c.segment_in.ensures ∙ c.in-Some.is) c.join-joined.ensures c.kept-longer.ensures
