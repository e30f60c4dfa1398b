-- Time updates: the promise holds of the right server, and a computed write breaks it for each wrong one.
-- Assumes nothing.
use mathlib.Core.Path.{◌≡◌, refl}
use mathlib.Core.Bool.{true}
use mathlib.Core.List.{List}
use Prim.Native.Nat.{ℕ}
use native.Mathlib.Omega.{arith}
use Rattle.table.specs.Table.{next}
use Rattle.clock.specs.declared.state.Clock.{Clock}
use Rattle.update_decide.specs.Accept.{update_record}
use Rattle.update_judge.specs.Proposal.{proposal_at}
use Rattle.update_decide.specs.Decide.{decide_of, update_operand}
use Rattle.update_judge.specs.Grounds.{grounds_of}
use Rattle.rows.specs.Reply.{done_b}
use Rattle.rows.specs.Rows.{first_failed}
use Rattle.update_logged.specs.Theorems.{success_b, LoggedOne}
use Rattle.update.specs.TimeUpdate.{update_rows, after_decision, effect_of, update_of}
use Rattle.update_logged.proofs.PromiseLaws.{logged}
use Rattle.theorems_paper.specs.Reader.{propose, output, update, second}
use Rattle.theorems_reports.proofs.CaseLaws.{octets_b, octets_are}
use Rattle.theorems_paper.proofs.ShutLaws.{differ, done_is}
use Rattle.theorems_paper.specs.Wrong.{Updating, AnswersRightly, updating_by, operand_by, deciding_by, rejects_every, takes_everything, never_logs, logs_corrected, names_first, subtracts_unsigned, UpdatesShutOut}

answers : (c : Clock) (t w o : List ℕ) → done_b (update_of c t w o).reply.answer ≡ done_b (first_failed (update_rows c t w o))
unfolding update_of effect_of
answers c t w o = done_is (first_failed (update_rows c t w o)) _ c _ _ t o

right : AnswersRightly update_of
unfolding update second
right =
    record {
      answers = answers;
      logs = logged.taken;
      else = logged.else;
      epoch = refl;
      range = refl;
      quality = refl;
      ahead = refl;
      behind = refl;
      taken = refl;
      set_back = refl;
      forced = refl;
      all = refl;
    }

parts : (c : Clock) (t w o : List ℕ) → updating_by (deciding_by grounds_of) after_decision c t w o ≡ update_of c t w o
unfolding updating_by operand_by deciding_by update_of effect_of decide_of update_operand
parts c t w o = refl

rejects_every_lem : AnswersRightly rejects_every → ⊥
unfolding update second updating_by
rejects_every_lem a = differ 2 a.taken refl

takes_all : AnswersRightly takes_everything → ⊥
unfolding update second updating_by
takes_all a = differ 2 a.epoch refl

names_first_lem : AnswersRightly names_first → ⊥
unfolding update second updating_by operand_by deciding_by
names_first_lem a = differ 3 a.all refl

subtracts_unsigned_lem : AnswersRightly subtracts_unsigned → ⊥
unfolding update second updating_by operand_by deciding_by
subtracts_unsigned_lem a = differ 2 a.set_back refl

-- the write of case 6, taken on the reader of case 2: the next number stands at byte 8 of its table, the time of record 1 at byte 97
abbrev set_back_write : List ℕ
set_back_write = propose 800000070

logs_one : (s : Updating) → AnswersRightly s → success_b (s second.clock second.table set_back_write output) ≡ true
    → LoggedOne second.clock second.table set_back_write (s second.clock second.table set_back_write output)
    (update_record second.clock (proposal_at set_back_write) (next second.table))
unfolding second update octets_b
logs_one s a h = a.logs second.clock second.table set_back_write output (octets_are set_back_write refl) (omega arith) (omega arith) h

never_logs_lem : AnswersRightly never_logs → ⊥
unfolding update second updating_by
never_logs_lem a = differ 8 (logs_one never_logs a refl).table refl

logs_corrected_lem : AnswersRightly logs_corrected → ⊥
unfolding update second updating_by
logs_corrected_lem a = differ 97 (logs_one logs_corrected a refl).table refl

pub updates_shut_out : UpdatesShutOut
updates_shut_out =
    record {
      right = right;
      parts = parts;
      rejects_every_lem = rejects_every_lem;
      takes_all = takes_all;
      never_logs_lem = never_logs_lem;
      logs_corrected_lem = logs_corrected_lem;
      names_first_lem = names_first_lem;
      subtracts_unsigned_lem = subtracts_unsigned_lem;
    }
