-- Promises made weaker, each of which two outcomes meet. None is a call's `ensures`: an `ensures` that said so little would be refused by
-- the same definition as here.
use Rattle.std.specs.Prelude.{◌≡◌, true, List, ℕ}
use denote.Triple.Clauses.{Lasts, at_exit}
use borrow.Fn.Kinds.{ParamKind, ResultKind, Out, res_t, ended_of}
use Rattle.table.specs.Table.{sound_b}
use Rattle.theorems_once.specs.Only.{Only}
use Rattle.clock.proofs.events.seconds.Kinds as seconds-kinds
use Rattle.clock.proofs.events.seconds.Reads as seconds-reads
use Rattle.update.proofs.fault.fault.Kinds as fault-kinds
use Rattle.update.proofs.fault.fault.Reads as fault-reads

module _ {n : ℕ} (ps : List (ParamKind n)) (r : ResultKind n) where
  -- what is left in all that is lent, and not what the result is: some result fits
  abbrev pub of_buffers : Out n ps r → Out n ps r
  of_buffers Post κs a x e = (z : (res_t r κs).Denot) × Post κs a z e

-- what a time fault answers, with the clock after it, and not what is left in the lent buffers: some bytes fit
abbrev pub of_reply : Out _ fault-kinds.ps fault-kinds.r → Out _ fault-kinds.ps fault-kinds.r
of_reply Post κs a x e =
    (w : Lasts (ended_of _ fault-kinds.ps fault-kinds.r) κs a) × Post κs a x (e.0, (at_exit (ended_of _ fault-kinds.ps fault-kinds.r) κs a w).1)

-- what is left in the lent buffers, and not what a time fault answers, with the clock after it: some reply fits
abbrev pub of_bytes : Out _ fault-kinds.ps fault-kinds.r → Out _ fault-kinds.ps fault-kinds.r
of_bytes Post κs a x e =
    (z : (res_t fault-kinds.r κs).Denot) × (w : Lasts (ended_of _ fault-kinds.ps fault-kinds.r) κs a)
    × Post κs a z ((at_exit (ended_of _ fault-kinds.ps fault-kinds.r) κs a w).0, e.1)

pub record TwoOutcomes : Type 0 where
  -- a time fault promised for sound tables alone
  pub sound_tables : Only fault-kinds.ps fault-kinds.r fault-reads.Pre (λ κs a x e. sound_b a.1.0.now ≡ true → fault-reads.Post κs a x e) → ⊥
  -- a time fault's reply without its table and output
  pub fault_reply : Only fault-kinds.ps fault-kinds.r fault-reads.Pre (of_reply fault-reads.Post) → ⊥
  -- a time fault's table and output without its reply
  pub fault_buffers : Only fault-kinds.ps fault-kinds.r fault-reads.Pre (of_bytes fault-reads.Post) → ⊥
  -- what the clock is after seconds, with any answer
  pub seconds_clock : Only seconds-kinds.ps seconds-kinds.r seconds-reads.Pre (of_buffers seconds-kinds.ps seconds-kinds.r seconds-reads.Post) → ⊥
