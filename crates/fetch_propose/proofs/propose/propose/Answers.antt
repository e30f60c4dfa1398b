-- Nothing where none is told, else the run of the whole range.
use mathlib.Core.Path.{sym, ap, ◌∙◌}
use mathlib.Core.List.{List}
use Prim.Native.Nat.{ℕ}
use Rattle.std.proofs.Common.{Option, Ok}
use Rattle.fetch_told.specs.Told.{range_size}
use Rattle.fetch_told.specs.declared.told.Span.{Span}
use Rattle.fetch_propose.specs.Propose.{Proposal, numbers_from, run_among, proposed_in}
use Rattle.fetch_propose.proofs.ProposeLaws.{propose_wrong, propose_done}
use Rattle.fetch_propose.proofs.propose.propose.Goals as goal

pub returns-in_default : goal.returns-in_default
returns-in_default c = let a = c.args in propose_wrong a.map.now a.told c.in_default.ensures.cases

pub returns-in_default-told : goal.returns-in_default-told
returns-in_default-told c =
    let a = c.args in
    let whole = c.in-Some.ensures.cases in
    ap (λ (t : Option Span). let p : Proposal = Ok (proposed_in a.map.now t) in p) (sym c.in_default-told.is) ∙ propose_done a.map.now a.told whole.long

pub returns : goal.returns
returns c =
    let a = c.args in
    let held = c.in-Some-told.held in
    let whole = c.in-Some.ensures.cases in
    ap (λ (r : Option Span). let p : Proposal = Ok r in p)
    (c.first_run.ensures
    ∙ ap (λ (m : List ℕ). run_among held.first (numbers_from m held.first (range_size held.first held.last))) whole.same
    ∙ sym (ap (proposed_in a.map.now) c.in-Some-told.is))
    ∙ propose_done a.map.now a.told whole.long
