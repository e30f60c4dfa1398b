-- The body is cut out of the record's bytes, and laid down after the header.
use mathlib.Core.Path.{◌≡◌, ap, ◌∙◌}
use Prim.Native.Nat.{◌-◌}
use lib.ListN.{length, replicate, length-append}
use Rattle.octets.proofs.PartLaws.{length_over}
use Rattle.record_write.specs.Layout.{bytes_of, written_of}
use Rattle.record_read.proofs.RoundTrip.{length_bytes}
use Rattle.racp_notify.specs.Notify.{segment_of}
use Rattle.racp_notify.proofs.SegmentLaws.{Cut, cut, over_cons}
use native.Mathlib.Omega.{arith}
use Rattle.racp_notify.proofs.notify.put_segment.Goals as goal
use Rattle.racp_notify.proofs.notify.put_segment.Goals.{After-body_end-end}

-- the body
body : (c : After-body_end-end)
    → let a = c.args in
    let b = bytes_of a.r in
    Cut b (replicate (24 - length b) 0) a.sent a.q c.body_end-end.result
unfolding written_of
body c =
    cut _ _ _ _ c.requires.3 _ (rw c.write-written.ensures at c.body_end-end.ensures)

pub slice_bounds-put-count : goal.slice_bounds-put-count
slice_bounds-put-count c = let k = body (goal.at.slice_bounds-put-count c).After-body_end-end in omega arith

pub slice_bounds-put-start : goal.slice_bounds-put-start
slice_bounds-put-start c = let k = body (goal.at.slice_bounds-put-start c).After-body_end-end in omega arith

pub slice_bounds-put-end-2 : goal.slice_bounds-put-end-2
unfolding written_of
slice_bounds-put-end-2 c =
    let k = body (goal.at.slice_bounds-put-end-2 c).After-body_end-end in
    rw (c.write-written.ensures, length-append) (omega arith)

pub put-requires-2 : goal.put-requires-2
unfolding written_of
put-requires-2 c =
    let k = body (goal.at.put-requires-2 c).After-body_end-end in
    let o = c.args.out.now in
    let n : length c.put.new.t ≡ length o = ap length c.put.ensures ∙ length_over o 0 _ (omega arith) in
    rw (c.write-written.ensures, k.body, k.sized) (omega arith)

pub overflow_add-result : goal.overflow_add-result
overflow_add-result c =
    let k = body (goal.at.overflow_add-result c).After-body_end-end in
    let l = length_bytes c.args.r in
    omega arith

pub overflow_sub-result : goal.overflow_sub-result
overflow_sub-result c = let k = body (goal.at.overflow_sub-result c).After-body_end-end in omega arith

pub returns : goal.returns
unfolding written_of segment_of
returns c =
    let k = body (goal.at.returns c).After-body_end-end in (
      rw k.sized (omega arith),
      c.put-2.ensures
          ∙ rw (c.put.ensures, c.header.ensures, c.write-written.ensures, k.body) (over_cons _ _ _),
    )
