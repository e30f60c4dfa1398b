-- The sheet of the story, computed on these very definitions: every call of the day with its bytes, both reports in segments of 20 bytes,
-- joined, kept, carried and compared.
use Rattle.std.specs.Prelude.{◌≡◌, true, List, [], ◌∷◌, ◌++◌, map, ℕ}
use Rattle.octets.specs.Parts.{zeros_b, over}
use Rattle.rules.specs.Fields.{base_b, zone_b, dst_b, source_b, status_b, bits_b}
use Rattle.filter.specs.Filter.{matches_b}
use Rattle.text.specs.Line.{digits_up_to, decimal, two_digits}
use Rattle.record.specs.Fields.{sequence_of}
use Rattle.record_write.specs.Layout.{update_bytes, fault_bytes, bytes_of, update_read, fault_read, record_of, sized_b, shape_b}
use Rattle.record_read.specs.Reading.{update_b, fault_b, record_b, well_formed_b, read_of}
use Rattle.table.specs.Table.{size_b, start_b, empty_b, fields_b, head_b, slot, bytes_in, record_in, slots, ring, held, slot_b, row_b, sound_b, steps, next}
use Rattle.table_write.specs.Start.{fresh, start_of}
use Rattle.table_write.specs.Append.{place_of, slot_of, header_after, append_of}
use Rattle.table_look.specs.Matching.{first_from, next_match, matching_from, matching}
use Rattle.clock.specs.Answers.{number_of}
use Rattle.clock.specs.Events.{unless_broken, with_base, disconnected, seconds_of, switches_of, disconnect_of}
use Rattle.clock.specs.Obeys.{opcode_b, counter_b, report_b, clock_b, time_b}
use Rattle.clock.specs.Obeys as clocks
use Rattle.clock.specs.State.{new_reader}
use Rattle.update_decide.specs.Accept.{status_after, aligned_after, accuracy_of, accepted_of, logged_b, update_record}
use Rattle.update_decide.specs.Decide.{judged, update_operand, decide_of}
use Rattle.update_judge.specs.Grades.{clock_grade, local_b, grade_of}
use Rattle.update_judge.specs.Grounds.{epoch_b, range_b, lower_b, seconds_apart, unrealistic_b, flag_if, grounds_of}
use Rattle.update_judge.specs.Proposal.{proposal_at}
use Rattle.update_decide.specs.Response.{response_bytes}
use Rattle.update.specs.Fault.{count_after, fault_record, faulted_of, ending_of, fault_of}
use Rattle.rows.specs.Reply.{done_b, answered}
use Rattle.rows.specs.Rows.{first_failed, left_b, whole_b, table_rows, write_rows}
use Rattle.rows.specs.Rows as rows
use Rattle.update.specs.Start.{new_reader_of}
use Rattle.update.specs.TimeUpdate.{update_rows, table_after, after_decision, effect_of, update_of}
use Rattle.codes.specs.Response.{code_of, code_bytes, count_bytes}
use Rattle.racp_request.specs.Request.{operand_bytes, typed_b, filter_at, asked_of, abort_of, request_of}
use Rattle.racp_request.specs.Request as requests
use Rattle.racp_access.specs.Report.{first_number, left_at, left_from}
use Rattle.racp_access.specs.Report as reports
use Rattle.racp_access.specs.Access.{access_rows, accessed, begun_of, aborted_of, accessed_of, access_of}
use Rattle.racp_notify.specs.Notify.{room_b, notify_rows, header_of, segment_of, left_after, closing_of, said_of, noticed, running_notice, notify_of}
use Rattle.joining.specs.Joining.{empty_joining, ranges_b, filled_b, placed_b, follows_b, standing, takes_b, laid_under, taken_of, join_of}
use Rattle.keep.specs.Keep.{numbered, record_kept, keep_of, keeping_number}
use Rattle.carry.specs.Stamp.{later_of, moved_by, carried_over, carried_from, carry_of}
use Rattle.carry.specs.Stamp as carries
use Rattle.ramp.specs.Beast.{age_of, within_b, judge_of, carried_or, verdict_of, beast_by, one_beast_of, verdict_number}
use Rattle.day_sheet.specs.Sheet.{time_of_day, noted_of, signed_of, outcome_of, carried_of, shown_text, gap, apart_text, pair_text, verdict_text, ruling_text, tag_line}
use Rattle.day_play.specs.Reader.{proposal_bytes, started_of, with_clock, set_of, failed_of, lived_of}
use Rattle.day_play.specs.Reader as readers
use Rattle.day_play.specs.Play.{opened_of, stepped_of, played_of}
use Rattle.day_evening.specs.Fetch.{stored_in, kept_in, heard_of, heard_all, finished_of, report_of, fetched_of, sight_of, ruling_of}
use Rattle.day_evening.specs.Fetch as evenings
use Rattle.day_play.specs.declared.play.Ramp.{Ramp}
use Rattle.loading_day.specs.Story.{the_day, the_tags}
use Rattle.loading_day.specs.Page.{lines_of, evening_of, sheet_of}

-- the ramp in the evening
unfoldable pub the_ramp : Ramp
unfolding played_of the_day opened_of stepped_of lived_of started_of proposal_bytes with_clock set_of failed_of readers.read_of new_reader_of start_of fresh new_reader seconds_of with_base switches_of disconnect_of disconnected unless_broken fault_of faulted_of fault_record count_after ending_of update_of update_rows first_failed table_rows write_rows whole_b rows.running_whole_b left_b done_b number_of clock_b time_b clocks.running_b report_b opcode_b counter_b base_b zone_b dst_b source_b status_b bits_b sound_b head_b size_b start_b empty_b fields_b zeros_b slot bytes_in record_in slots ring held slot_b row_b well_formed_b shape_b sized_b record_b update_b fault_b record_of update_read fault_read sequence_of matches_b decide_of update_operand judged proposal_at grounds_of flag_if epoch_b range_b lower_b unrealistic_b seconds_apart grade_of local_b clock_grade effect_of after_decision accepted_of status_after aligned_after accuracy_of table_after logged_b update_record append_of steps place_of slot_of header_after bytes_of update_bytes fault_bytes response_bytes answered over
the_ramp = played_of opened_of the_day

-- the text of its sheet
unfoldable pub the_sheet : List ℕ
unfolding the_ramp sheet_of evening_of lines_of the_tags fetched_of finished_of report_of heard_all heard_of kept_in stored_in keep_of record_kept numbered keeping_number sight_of ruling_of evenings.asked_of access_of access_rows accessed begun_of aborted_of accessed_of request_of asked_of abort_of requests.filter_operand operand_bytes typed_b filter_at code_of code_bytes count_bytes first_number left_at left_from first_from next_match matching_from matching notify_of notify_rows room_b header_of segment_of left_after closing_of said_of noticed running_notice reports.first_bytes empty_joining ranges_b filled_b placed_b follows_b standing takes_b laid_under taken_of join_of read_of carry_of carried_from carried_over moved_by later_of carries.carrying_number one_beast_of beast_by verdict_of carried_or judge_of within_b age_of tag_line ruling_text verdict_text verdict_number pair_text apart_text gap shown_text carried_of outcome_of signed_of noted_of time_of_day two_digits decimal digits_up_to
the_sheet = evening_of the_tags the_ramp

-- a text's lines in a row
unfoldable pub joined_lines : List (List ℕ) → List ℕ
joined_lines [] = []
joined_lines (l ∷ ls) = l ++ joined_lines ls

unfoldable pub printed : List (List ℕ)
printed =
    -- `tag left right apart | carried left right apart | beasts`
    (116 ∷ 97 ∷ 103 ∷ 32 ∷ 108 ∷ 101 ∷ 102 ∷ 116 ∷ 32 ∷ 114 ∷ 105 ∷ 103 ∷ 104 ∷ 116 ∷ 32 ∷ 97 ∷ 112 ∷ 97 ∷ 114 ∷ 116 ∷ 32 ∷ 124 ∷ 32 ∷ 99 ∷ 97 ∷ 114 ∷ 114 ∷ 105 ∷ 101 ∷ 100 ∷ 32 ∷ 108 ∷ 101 ∷ 102 ∷ 116 ∷ 32 ∷ 114 ∷ 105 ∷ 103 ∷ 104 ∷ 116 ∷ 32 ∷ 97 ∷ 112 ∷ 97 ∷ 114 ∷ 116 ∷ 32 ∷ 124 ∷ 32 ∷ 98 ∷ 101 ∷ 97 ∷ 115 ∷ 116 ∷ 115 ∷ 10 ∷ [])
    -- `4101 06:40:00 06:30:03 597 | 06:30:00 refused 13 - | right 13`
    ∷ (52 ∷ 49 ∷ 48 ∷ 49 ∷ 32 ∷ 48 ∷ 54 ∷ 58 ∷ 52 ∷ 48 ∷ 58 ∷ 48 ∷ 48 ∷ 32 ∷ 48 ∷ 54 ∷ 58 ∷ 51 ∷ 48 ∷ 58 ∷ 48 ∷ 51 ∷ 32 ∷ 53 ∷ 57 ∷ 55 ∷ 32 ∷ 124 ∷ 32 ∷ 48 ∷ 54 ∷ 58 ∷ 51 ∷ 48 ∷ 58 ∷ 48 ∷ 48 ∷ 32 ∷ 114 ∷ 101 ∷ 102 ∷ 117 ∷ 115 ∷ 101 ∷ 100 ∷ 32 ∷ 49 ∷ 51 ∷ 32 ∷ 45 ∷ 32 ∷ 124 ∷ 32 ∷ 114 ∷ 105 ∷ 103 ∷ 104 ∷ 116 ∷ 32 ∷ 49 ∷ 51 ∷ 10 ∷ [])
    -- `4102 06:41:20 06:00:24 2456 | 06:31:20 06:31:24 4 | one`
    ∷ (52 ∷ 49 ∷ 48 ∷ 50 ∷ 32 ∷ 48 ∷ 54 ∷ 58 ∷ 52 ∷ 49 ∷ 58 ∷ 50 ∷ 48 ∷ 32 ∷ 48 ∷ 54 ∷ 58 ∷ 48 ∷ 48 ∷ 58 ∷ 50 ∷ 52 ∷ 32 ∷ 50 ∷ 52 ∷ 53 ∷ 54 ∷ 32 ∷ 124 ∷ 32 ∷ 48 ∷ 54 ∷ 58 ∷ 51 ∷ 49 ∷ 58 ∷ 50 ∷ 48 ∷ 32 ∷ 48 ∷ 54 ∷ 58 ∷ 51 ∷ 49 ∷ 58 ∷ 50 ∷ 52 ∷ 32 ∷ 52 ∷ 32 ∷ 124 ∷ 32 ∷ 111 ∷ 110 ∷ 101 ∷ 10 ∷ [])
    -- `4103 06:42:30 06:32:35 595 | 06:32:30 06:32:35 5 | one`
    ∷ (52 ∷ 49 ∷ 48 ∷ 51 ∷ 32 ∷ 48 ∷ 54 ∷ 58 ∷ 52 ∷ 50 ∷ 58 ∷ 51 ∷ 48 ∷ 32 ∷ 48 ∷ 54 ∷ 58 ∷ 51 ∷ 50 ∷ 58 ∷ 51 ∷ 53 ∷ 32 ∷ 53 ∷ 57 ∷ 53 ∷ 32 ∷ 124 ∷ 32 ∷ 48 ∷ 54 ∷ 58 ∷ 51 ∷ 50 ∷ 58 ∷ 51 ∷ 48 ∷ 32 ∷ 48 ∷ 54 ∷ 58 ∷ 51 ∷ 50 ∷ 58 ∷ 51 ∷ 53 ∷ 32 ∷ 53 ∷ 32 ∷ 124 ∷ 32 ∷ 111 ∷ 110 ∷ 101 ∷ 10 ∷ [])
    -- `4104 06:43:30 06:33:34 596 | 06:33:30 06:33:34 4 | one`
    ∷ (52 ∷ 49 ∷ 48 ∷ 52 ∷ 32 ∷ 48 ∷ 54 ∷ 58 ∷ 52 ∷ 51 ∷ 58 ∷ 51 ∷ 48 ∷ 32 ∷ 48 ∷ 54 ∷ 58 ∷ 51 ∷ 51 ∷ 58 ∷ 51 ∷ 52 ∷ 32 ∷ 53 ∷ 57 ∷ 54 ∷ 32 ∷ 124 ∷ 32 ∷ 48 ∷ 54 ∷ 58 ∷ 51 ∷ 51 ∷ 58 ∷ 51 ∷ 48 ∷ 32 ∷ 48 ∷ 54 ∷ 58 ∷ 51 ∷ 51 ∷ 58 ∷ 51 ∷ 52 ∷ 32 ∷ 52 ∷ 32 ∷ 124 ∷ 32 ∷ 111 ∷ 110 ∷ 101 ∷ 10 ∷ [])
    -- `4105 06:44:00 06:34:05 595 | 06:34:00 06:34:05 5 | one`
    ∷ (52 ∷ 49 ∷ 48 ∷ 53 ∷ 32 ∷ 48 ∷ 54 ∷ 58 ∷ 52 ∷ 52 ∷ 58 ∷ 48 ∷ 48 ∷ 32 ∷ 48 ∷ 54 ∷ 58 ∷ 51 ∷ 52 ∷ 58 ∷ 48 ∷ 53 ∷ 32 ∷ 53 ∷ 57 ∷ 53 ∷ 32 ∷ 124 ∷ 32 ∷ 48 ∷ 54 ∷ 58 ∷ 51 ∷ 52 ∷ 58 ∷ 48 ∷ 48 ∷ 32 ∷ 48 ∷ 54 ∷ 58 ∷ 51 ∷ 52 ∷ 58 ∷ 48 ∷ 53 ∷ 32 ∷ 53 ∷ 32 ∷ 124 ∷ 32 ∷ 111 ∷ 110 ∷ 101 ∷ 10 ∷ [])
    -- `4106 06:35:00 06:35:04 4 | 06:35:00 06:35:04 4 | one`
    ∷ (52 ∷ 49 ∷ 48 ∷ 54 ∷ 32 ∷ 48 ∷ 54 ∷ 58 ∷ 51 ∷ 53 ∷ 58 ∷ 48 ∷ 48 ∷ 32 ∷ 48 ∷ 54 ∷ 58 ∷ 51 ∷ 53 ∷ 58 ∷ 48 ∷ 52 ∷ 32 ∷ 52 ∷ 32 ∷ 124 ∷ 32 ∷ 48 ∷ 54 ∷ 58 ∷ 51 ∷ 53 ∷ 58 ∷ 48 ∷ 48 ∷ 32 ∷ 48 ∷ 54 ∷ 58 ∷ 51 ∷ 53 ∷ 58 ∷ 48 ∷ 52 ∷ 32 ∷ 52 ∷ 32 ∷ 124 ∷ 32 ∷ 111 ∷ 110 ∷ 101 ∷ 10 ∷ [])
    -- `4107 06:36:00 - - | 06:36:00 - - | -`
    ∷ (52 ∷ 49 ∷ 48 ∷ 55 ∷ 32 ∷ 48 ∷ 54 ∷ 58 ∷ 51 ∷ 54 ∷ 58 ∷ 48 ∷ 48 ∷ 32 ∷ 45 ∷ 32 ∷ 45 ∷ 32 ∷ 124 ∷ 32 ∷ 48 ∷ 54 ∷ 58 ∷ 51 ∷ 54 ∷ 58 ∷ 48 ∷ 48 ∷ 32 ∷ 45 ∷ 32 ∷ 45 ∷ 32 ∷ 124 ∷ 32 ∷ 45 ∷ 10 ∷ [])
    -- `4108 06:37:06 06:37:00 6 | 06:37:06 06:37:00 6 | one`
    ∷ (52 ∷ 49 ∷ 48 ∷ 56 ∷ 32 ∷ 48 ∷ 54 ∷ 58 ∷ 51 ∷ 55 ∷ 58 ∷ 48 ∷ 54 ∷ 32 ∷ 48 ∷ 54 ∷ 58 ∷ 51 ∷ 55 ∷ 58 ∷ 48 ∷ 48 ∷ 32 ∷ 54 ∷ 32 ∷ 124 ∷ 32 ∷ 48 ∷ 54 ∷ 58 ∷ 51 ∷ 55 ∷ 58 ∷ 48 ∷ 54 ∷ 32 ∷ 48 ∷ 54 ∷ 58 ∷ 51 ∷ 55 ∷ 58 ∷ 48 ∷ 48 ∷ 32 ∷ 54 ∷ 32 ∷ 124 ∷ 32 ∷ 111 ∷ 110 ∷ 101 ∷ 10 ∷ [])
    ∷ []

-- The table u is a copy of the table t: sound, with t's records and t's next number, though not always in t's slots; so any stamp is carried
-- by u as by t.
pub record Copied (t u : List ℕ) : Type 0 where
  pub sound : sound_b u ≡ true
  pub held : held u ≡ held t
  pub next : next u ≡ next t
  pub carries : (stamp q : ℕ) → carry_of stamp q u ≡ carry_of stamp q t

-- the numbers of the records that the readers hold in the evening: the left log begins at 0, the right one no longer does
abbrev pub left_numbers : List ℕ
left_numbers = 0 ∷ 1 ∷ []

abbrev pub right_numbers : List ℕ
right_numbers = 3 ∷ 4 ∷ 5 ∷ 6 ∷ 7 ∷ 8 ∷ 9 ∷ 10 ∷ []

-- what the tablet has of a ramp's logs: copies of the readers' own tables; of the log that begins at 0 the table itself, byte for byte
pub record Fetched (v : Ramp) : Type 0 where
  pub left : Copied v.left.table (fetched_of v.left)
  pub right : Copied v.right.table (fetched_of v.right)
  pub left_numbers_lem : map sequence_of (held v.left.table) ≡ left_numbers
  pub right_numbers_lem : map sequence_of (held v.right.table) ≡ right_numbers
  pub left_bytes : fetched_of v.left ≡ v.left.table

-- The sheet, and that the tablet's tables are copies.
pub record Printed : Type 0 where
  pub text : sheet_of the_day the_tags ≡ joined_lines printed
  pub copies : Fetched (played_of opened_of the_day)
