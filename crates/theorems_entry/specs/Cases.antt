-- The paper's case 1 over bytes, run by the checker on the definitions that the entry points' promises cite: "New reader, switches on; Propose
-- 800,000,000, epoch 2000, GPS (2), zone 4, DST 0, UTC and qualified-local flags ..: record 0, old 631,152,000, status 0x0016."
use Rattle.std.specs.Prelude.{◌≡◌, List, [], ◌∷◌, ℕ, pos, replicate}
use Rattle.octets.specs.Parts.{part, zeros_b, same_b, over}
use Rattle.rules.specs.Fields.{base_b, zone_b, dst_b, source_b, status_b, bits_b}
use Rattle.record_write.specs.Layout.{update_bytes, bytes_of}
use Rattle.table.specs.Table.{size_b, start_b, empty_b, fields_b, head_b, slots, ring, row_b, sound_b, steps}
use Rattle.table_write.specs.Start.{fresh, start_of}
use Rattle.table_write.specs.Append.{place_of, slot_of, header_after, append_of}
use Rattle.clock.specs.Answers.{number_of}
use Rattle.clock.specs.Events.{unless_broken, switches_of}
use Rattle.clock.specs.Obeys.{clock_b, time_b}
use Rattle.clock.specs.Obeys as clocks
use Rattle.clock.specs.State.{new_reader}
use Rattle.update_decide.specs.Accept.{status_after, aligned_after, accuracy_of, accepted_of, logged_b, update_record}
use Rattle.update_decide.specs.Decide.{judged, update_operand, decide_of}
use Rattle.update_judge.specs.Grades.{clock_grade, local_b, grade_of}
use Rattle.update_judge.specs.Grounds.{epoch_b, range_b, lower_b, seconds_apart, unrealistic_b, flag_if, grounds_of}
use Rattle.update_judge.specs.Proposal.{proposal_at}
use Rattle.update_decide.specs.Response.{response_bytes}
use Rattle.rows.specs.Reply.{done_b, answered}
use Rattle.rows.specs.Rows.{first_failed, whole_b, table_rows, write_rows}
use Rattle.rows.specs.Rows as rows
use Rattle.update.specs.Start.{new_reader_of}
use Rattle.update.specs.TimeUpdate.{update_rows, table_after, after_decision, effect_of, update_of}
use Rattle.state_bytes.specs.State.{switches_of as switchesIn, fields_of, field_bytes, image_of, running_in, clock_in, image_b, clock_of}
use Rattle.server_bytes.specs.Results.{result_of, state_after, Ran}
use Rattle.server_bytes.specs.Results as results
use Rattle.server_bytes.specs.Start.{StartedBytes, start_at}
use Rattle.server_bytes.specs.Events.{switches_at}
use Rattle.server_bytes.specs.Calls.{Called, dtcp_at}

-- so many bytes 0xAA: buffers with something in them
abbrev pub filled : ℕ → List ℕ
filled n = replicate n 0xaa

-- a reader started in a state of 32 bytes and a table of one slot
unfoldable pub start : StartedBytes
unfolding start_at new_reader_of start_of size_b fresh new_reader result_of state_after done_b number_of image_of switchesIn fields_of field_bytes
start = start_at (filled 32) (filled 80)

-- its switches on
unfoldable pub switches : Ran
unfolding start switches_at image_b same_b clock_in running_in unless_broken switches_of clock_b time_b clocks.running_b base_b zone_b dst_b source_b status_b bits_b result_of state_after done_b number_of image_of switchesIn fields_of field_bytes results.settled_of clock_of
switches = switches_at start.state 1 2 255

-- "Propose 800,000,000 .."
abbrev pub propose : List ℕ
propose = 0x02 ∷ 0x43 ∷ 0x00 ∷ 0x00 ∷ 0x08 ∷ 0xaf ∷ 0x2f ∷ 0x04 ∷ 0x00 ∷ 0x02 ∷ 0x01 ∷ []

unfoldable pub written : Called
unfolding start switches dtcp_at update_of update_rows effect_of after_decision table_after answered first_failed table_rows write_rows whole_b rows.running_whole_b sound_b head_b size_b start_b empty_b fields_b slots ring row_b zeros_b decide_of update_operand judged proposal_at grounds_of flag_if epoch_b range_b lower_b unrealistic_b seconds_apart grade_of local_b clock_grade accepted_of status_after aligned_after accuracy_of logged_b update_record response_bytes append_of steps place_of slot_of header_after bytes_of update_bytes over image_b same_b clock_in running_in clock_b time_b clocks.running_b base_b zone_b dst_b source_b status_b bits_b result_of state_after done_b number_of image_of switchesIn fields_of field_bytes clock_of
written = dtcp_at switches.state start.table propose (filled 20)

pub record Computed : Type 0 where
  pub started : start.result ≡ pos 0
  pub begun : start.state ≡ 0x80 ∷ 0x9d ∷ 0x9e ∷ 0x25 ∷ 0x80 ∷ 0xff ∷ 0 ∷ 0xff ∷ 0x19 ∷ 0 ∷ 0 ∷ 0 ∷ 0x80 ∷ 0x9d ∷ 0x9e ∷ 0x25 ∷ replicate 16 0
  pub switched : switches.result ≡ pos 0
  pub taken : written.result ≡ pos 3
  pub response : written.output ≡ 0x09 ∷ 0x02 ∷ 0x01 ∷ filled 17
  pub state : written.state ≡ 0 ∷ 0x08 ∷ 0xaf ∷ 0x2f ∷ 4 ∷ 0 ∷ 2 ∷ 1 ∷ 0x16 ∷ 0 ∷ 0 ∷ 0 ∷ 0 ∷ 0x08 ∷ 0xaf ∷ 0x2f ∷ 7 ∷ replicate 15 0
  pub record_0 : part written.table 16 25
      ≡ 24 ∷ 0 ∷ 0 ∷ 1 ∷ 0 ∷ 0 ∷ 0 ∷ 0x16 ∷ 0 ∷ 0x19 ∷ 0 ∷ 0 ∷ 0 ∷ 4 ∷ 0 ∷ 2 ∷ 1 ∷ 0 ∷ 0x08 ∷ 0xaf ∷ 0x2f ∷ 0x80 ∷ 0x9d ∷ 0x9e ∷ 0x25 ∷ []
