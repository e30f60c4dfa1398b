-- `begun_ok` is its test, by whether a segment came.
use borrow.Author.Tests.{eq-eqb, ne_eqb}
use native.Mathlib.Omega.{arith}
use Rattle.joining.proofs.joining.begun_ok.Goals as goal

pub returns-then-phase-gt-EMPTY : goal.returns-then-phase-gt-EMPTY
returns-then-phase-gt-EMPTY c = rw (ne_eqb c.args.phase 0 (λ e. omega arith))

pub returns-then-counter-gt0 : goal.returns-then-counter-gt0
returns-then-counter-gt0 c =
    let a = c.args in
    rw (eq-eqb a.phase 0 (omega arith), ne_eqb a.counter 0 (λ e. omega arith))

pub returns : goal.returns
returns c =
    let a = c.args in
    rw (eq-eqb a.phase 0 (omega arith), eq-eqb a.counter 0 (omega arith))
