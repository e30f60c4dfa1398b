-- The server's calls and the tablet's joining laid open, for the checker to compute cases: each definition that a call cites is named once,
-- here. A case has `calls_open` or `joining_open` on its `unfolding` line, which opens all that theirs name.
use Rattle.std.specs.Prelude.{List, ℕ}
use Rattle.octets.specs.Parts.{zeros_b, over}
use Rattle.rules.specs.Fields.{base_b, zone_b, dst_b, source_b, status_b, bits_b}
use Rattle.filter.specs.Filter.{matches_b}
use Rattle.record.specs.Fields.{sequence_of}
use Rattle.record_write.specs.Layout.{update_bytes, fault_bytes, bytes_of, update_read, fault_read, record_of, sized_b, shape_b}
use Rattle.record_read.specs.Reading.{update_b, fault_b, record_b, well_formed_b, read_of}
use Rattle.table.specs.Table.{size_b, start_b, empty_b, fields_b, head_b, slot, bytes_in, record_in, slots, ring, held, slot_b, row_b, sound_b, steps}
use Rattle.table_write.specs.Start.{fresh, start_of}
use Rattle.table_write.specs.Append.{place_of, slot_of, header_after, append_of}
use Rattle.table_look.specs.Matching.{first_from, next_match, matching_from, matching}
use Rattle.clock.specs.Answers.{number_of}
use Rattle.clock.specs.State.{new_reader}
use Rattle.clock.specs.Obeys.{opcode_b, counter_b, report_b, clock_b, time_b}
use Rattle.clock.specs.Obeys as clocks
use Rattle.clock.specs.Events.{unless_broken, with_base, disconnected, seconds_of, switches_of, disconnect_of}
use Rattle.update_judge.specs.Proposal.{proposal_at}
use Rattle.update_judge.specs.Grades.{clock_grade, local_b, grade_of}
use Rattle.update_judge.specs.Grounds.{epoch_b, range_b, lower_b, seconds_apart, unrealistic_b, flag_if, grounds_of}
use Rattle.update_decide.specs.Decide.{judged, decide_of}
use Rattle.update_decide.specs.Decide as decide
use Rattle.update_decide.specs.Accept.{status_after, aligned_after, accuracy_of, accepted_of, logged_b, update_record}
use Rattle.update_decide.specs.Response.{response_bytes}
use Rattle.rows.specs.Reply.{done_b, answered}
use Rattle.rows.specs.Rows.{first_failed, left_b, whole_b, table_rows, write_rows}
use Rattle.rows.specs.Rows as rows
use Rattle.update.specs.Start.{new_reader_of}
use Rattle.update.specs.Fault.{count_after, fault_record, faulted_of, ending_of, fault_of}
use Rattle.update.specs.TimeUpdate.{update_rows, table_after, after_decision, effect_of, update_of}
use Rattle.racp_request.specs.Request.{operand_bytes, typed_b, filter_at, asked_of, abort_of, request_of}
use Rattle.racp_request.specs.Request as request
use Rattle.codes.specs.Response.{code_of, code_bytes, count_bytes}
use Rattle.racp_access.specs.Report.{first_number, left_at, left_from}
use Rattle.racp_access.specs.Report as reports
use Rattle.racp_access.specs.Access.{access_rows, accessed, begun_of, aborted_of, accessed_of, access_of}
use Rattle.racp_notify.specs.Notify.{room_b, notify_rows, header_of, segment_of, left_after, closing_of, said_of, noticed, running_notice, notify_of}
use Rattle.joining.specs.Joining.{empty_joining, ranges_b, filled_b, placed_b, follows_b, standing, takes_b, laid_under, taken_of, join_of}
use Rattle.joining.specs.declared.joining.Joining.{Joining}
use Rattle.theorems_reports.specs.World.{World, Call, step_by, step_of}
use Rattle.theorems_reports.specs.Joined.{Got, join_all}

-- every call, and the start call
unfoldable pub calls_open : World → Call → World
unfolding zeros_b over
    base_b zone_b dst_b source_b status_b bits_b
    matches_b
    sequence_of update_bytes fault_bytes bytes_of update_read fault_read record_of sized_b shape_b update_b fault_b record_b well_formed_b
    size_b start_b empty_b fields_b head_b slot bytes_in record_in slots ring held slot_b row_b sound_b steps
    fresh start_of place_of slot_of header_after append_of
    first_from next_match matching_from matching
    number_of new_reader opcode_b counter_b report_b clocks.running_b time_b clock_b
    unless_broken with_base disconnected seconds_of switches_of disconnect_of
    proposal_at clock_grade local_b grade_of epoch_b range_b lower_b seconds_apart unrealistic_b flag_if grounds_of
    judged decide.update_operand decide_of status_after aligned_after accuracy_of accepted_of logged_b update_record response_bytes
    done_b answered first_failed left_b rows.running_whole_b whole_b table_rows write_rows
    new_reader_of count_after fault_record faulted_of ending_of fault_of update_rows table_after after_decision effect_of update_of
    code_of operand_bytes typed_b filter_at request.filter_operand asked_of abort_of request_of code_bytes count_bytes
    first_number left_at left_from reports.first_bytes access_rows accessed begun_of aborted_of accessed_of access_of
    room_b notify_rows header_of segment_of left_after closing_of said_of noticed running_notice notify_of
    step_by
calls_open = step_of

-- notifications as the tablet joins them, and what it reads then
unfoldable pub joining_open : Joining → List (List ℕ) → Got
unfolding zeros_b
    base_b zone_b dst_b source_b status_b bits_b
    update_read fault_read record_of sized_b shape_b update_b fault_b record_b well_formed_b read_of
    empty_joining ranges_b filled_b placed_b follows_b standing takes_b laid_under taken_of join_of
    join_all
joining_open = join_all
