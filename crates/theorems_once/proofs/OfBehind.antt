-- One outcome of each call behind the server's doors: the clock's rules and numbers, the rows of refusals, the judging of a proposal,
-- requests and responses by value.
use Rattle.theorems_once.specs.Only.{Only}
use Rattle.clock.proofs.state.new_reader.Kinds as new-reader-kinds
use Rattle.clock.proofs.state.new_reader.Reads as new-reader-reads
use Rattle.clock.proofs.state.all_off.Kinds as all-off-kinds
use Rattle.clock.proofs.state.all_off.Reads as all-off-reads
use Rattle.clock.proofs.state.with_running.Kinds as with-running-kinds
use Rattle.clock.proofs.state.with_running.Reads as with-running-reads
use Rattle.clock.proofs.obeys.clock_ok.Kinds as clock-ok-kinds
use Rattle.clock.proofs.obeys.clock_ok.Reads as clock-ok-reads
use Rattle.clock.proofs.answers.number_of.Kinds as number-of-kinds
use Rattle.clock.proofs.answers.number_of.Reads as number-of-reads
use Rattle.clock.proofs.answers.att_error_of.Kinds as att-error-of-kinds
use Rattle.clock.proofs.answers.att_error_of.Reads as att-error-of-reads
use Rattle.rows.proofs.rows.table_rows.Kinds as table-rows-kinds
use Rattle.rows.proofs.rows.table_rows.Reads as table-rows-reads
use Rattle.rows.proofs.rows.write_rows.Kinds as write-rows-kinds
use Rattle.rows.proofs.rows.write_rows.Reads as write-rows-reads
use Rattle.rows.proofs.rows.idle.Kinds as idle-kinds
use Rattle.rows.proofs.rows.idle.Reads as idle-reads
use Rattle.update_judge.proofs.proposal.proposal_at.Kinds as proposal-at-kinds
use Rattle.update_judge.proofs.proposal.proposal_at.Reads as proposal-at-reads
use Rattle.update_judge.proofs.grades.clock_grade.Kinds as clock-grade-kinds
use Rattle.update_judge.proofs.grades.clock_grade.Reads as clock-grade-reads
use Rattle.update_judge.proofs.grades.grade_of.Kinds as grade-of-kinds
use Rattle.update_judge.proofs.grades.grade_of.Reads as grade-of-reads
use Rattle.update_judge.proofs.grounds.seconds_apart.Kinds as seconds-apart-kinds
use Rattle.update_judge.proofs.grounds.seconds_apart.Reads as seconds-apart-reads
use Rattle.update_judge.proofs.grounds.grounds.Kinds as grounds-kinds
use Rattle.update_judge.proofs.grounds.grounds.Reads as grounds-reads
use Rattle.update_decide.proofs.decide.decide.Kinds as decide-kinds
use Rattle.update_decide.proofs.decide.decide.Reads as decide-reads
use Rattle.update_decide.proofs.accept.accepted.Kinds as accepted-kinds
use Rattle.update_decide.proofs.accept.accepted.Reads as accepted-reads
use Rattle.update_decide.proofs.accept.is_logged.Kinds as is-logged-kinds
use Rattle.update_decide.proofs.accept.is_logged.Reads as is-logged-reads
use Rattle.update_decide.proofs.accept.update_record.Kinds as update-record-kinds
use Rattle.update_decide.proofs.accept.update_record.Reads as update-record-reads
use Rattle.update_decide.proofs.response.response_of.Kinds as response-of-kinds
use Rattle.update_decide.proofs.response.response_of.Reads as response-of-reads
use Rattle.codes.proofs.att.att_error.Kinds as att-error-kinds
use Rattle.codes.proofs.att.att_error.Reads as att-error-reads
use Rattle.codes.proofs.response.code_of.Kinds as code-of-kinds
use Rattle.codes.proofs.response.code_of.Reads as code-of-reads
use Rattle.racp_request.proofs.request.opcode_in.Kinds as opcode-in-kinds
use Rattle.racp_request.proofs.request.opcode_in.Reads as opcode-in-reads
use Rattle.racp_request.proofs.request.request_of.Kinds as request-of-kinds
use Rattle.racp_request.proofs.request.request_of.Reads as request-of-reads
use Rattle.codes.proofs.response.code_bytes.Kinds as code-bytes-kinds
use Rattle.codes.proofs.response.code_bytes.Reads as code-bytes-reads
use Rattle.codes.proofs.response.count_bytes.Kinds as count-bytes-kinds
use Rattle.codes.proofs.response.count_bytes.Reads as count-bytes-reads
use Rattle.racp_access.proofs.report.left_from.Kinds as left-from-kinds
use Rattle.racp_access.proofs.report.left_from.Reads as left-from-reads

pub record OneOutcome : Type 0 where
  pub new_reader_lem : Only new-reader-kinds.ps new-reader-kinds.r new-reader-reads.Pre new-reader-reads.Post
  pub all_off_lem : Only all-off-kinds.ps all-off-kinds.r all-off-reads.Pre all-off-reads.Post
  pub with_running_lem : Only with-running-kinds.ps with-running-kinds.r with-running-reads.Pre with-running-reads.Post
  pub clock_ok : Only clock-ok-kinds.ps clock-ok-kinds.r clock-ok-reads.Pre clock-ok-reads.Post
  pub number_of : Only number-of-kinds.ps number-of-kinds.r number-of-reads.Pre number-of-reads.Post
  pub att_error_of_lem : Only att-error-of-kinds.ps att-error-of-kinds.r att-error-of-reads.Pre att-error-of-reads.Post
  pub table_rows_lem : Only table-rows-kinds.ps table-rows-kinds.r table-rows-reads.Pre table-rows-reads.Post
  pub write_rows_lem : Only write-rows-kinds.ps write-rows-kinds.r write-rows-reads.Pre write-rows-reads.Post
  pub idle : Only idle-kinds.ps idle-kinds.r idle-reads.Pre idle-reads.Post
  pub proposal_at_lem : Only proposal-at-kinds.ps proposal-at-kinds.r proposal-at-reads.Pre proposal-at-reads.Post
  pub clock_grade_lem : Only clock-grade-kinds.ps clock-grade-kinds.r clock-grade-reads.Pre clock-grade-reads.Post
  pub grade_of_lem : Only grade-of-kinds.ps grade-of-kinds.r grade-of-reads.Pre grade-of-reads.Post
  pub seconds_apart_lem : Only seconds-apart-kinds.ps seconds-apart-kinds.r seconds-apart-reads.Pre seconds-apart-reads.Post
  pub grounds : Only grounds-kinds.ps grounds-kinds.r grounds-reads.Pre grounds-reads.Post
  pub decide : Only decide-kinds.ps decide-kinds.r decide-reads.Pre decide-reads.Post
  pub accepted : Only accepted-kinds.ps accepted-kinds.r accepted-reads.Pre accepted-reads.Post
  pub is_logged : Only is-logged-kinds.ps is-logged-kinds.r is-logged-reads.Pre is-logged-reads.Post
  pub update_record_lem : Only update-record-kinds.ps update-record-kinds.r update-record-reads.Pre update-record-reads.Post
  pub response_of_lem : Only response-of-kinds.ps response-of-kinds.r response-of-reads.Pre response-of-reads.Post
  pub att_error : Only att-error-kinds.ps att-error-kinds.r att-error-reads.Pre att-error-reads.Post
  pub code_of : Only code-of-kinds.ps code-of-kinds.r code-of-reads.Pre code-of-reads.Post
  pub opcode_in_lem : Only opcode-in-kinds.ps opcode-in-kinds.r opcode-in-reads.Pre opcode-in-reads.Post
  pub request_of_lem : Only request-of-kinds.ps request-of-kinds.r request-of-reads.Pre request-of-reads.Post
  pub code_bytes_lem : Only code-bytes-kinds.ps code-bytes-kinds.r code-bytes-reads.Pre code-bytes-reads.Post
  pub count_bytes_lem : Only count-bytes-kinds.ps count-bytes-kinds.r count-bytes-reads.Pre count-bytes-reads.Post
  pub left_from_lem : Only left-from-kinds.ps left-from-kinds.r left-from-reads.Pre left-from-reads.Post
