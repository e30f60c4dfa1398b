-- One outcome of each call on a table: its header, soundness, starting, logging, looking into it. `sound` and `start` are doors.
use Rattle.theorems_once.specs.Only.{Only, OnlyPart, Door}
use Rattle.table.proofs.header.slots_in.Kinds as slots-in-kinds
use Rattle.table.proofs.header.slots_in.Reads as slots-in-reads
use Rattle.table.proofs.header.size_ok.Kinds as size-ok-kinds
use Rattle.table.proofs.header.size_ok.Reads as size-ok-reads
use Rattle.table.proofs.header.header_at.Kinds as header-at-kinds
use Rattle.table.proofs.header.header_at.Reads as header-at-reads
use Rattle.table.proofs.header.header_bytes.Kinds as header-bytes-kinds
use Rattle.table.proofs.header.header_bytes.Reads as header-bytes-reads
use Rattle.table.proofs.header.next_slot.Kinds as next-slot-kinds
use Rattle.table.proofs.header.next_slot.Reads as next-slot-reads
use Rattle.table.proofs.header.slot_after.Kinds as slot-after-kinds
use Rattle.table.proofs.header.slot_after.Reads as slot-after-reads
use Rattle.table.proofs.header.number_after.Kinds as number-after-kinds
use Rattle.table.proofs.header.number_after.Reads as number-after-reads
use Rattle.table.proofs.header.first_number.Kinds as first-number-kinds
use Rattle.table.proofs.header.first_number.Reads as first-number-reads
use Rattle.table_sound.proofs.sound.sound.Kinds as sound-kinds
use Rattle.table_sound.proofs.sound.sound.Reads as sound_reads
use Rattle.table_write.proofs.start.start.Kinds as start-kinds
use Rattle.table_write.proofs.start.start.Reads as start_reads
use Rattle.table_write.proofs.append.append.Kinds as append-kinds
use Rattle.table_write.proofs.append.append.Reads as append-reads
use Rattle.table_look.proofs.look.held_count.Kinds as held-count-kinds
use Rattle.table_look.proofs.look.held_count.Reads as held-count-reads
use Rattle.table_look.proofs.look.next_number.Kinds as next-number-kinds
use Rattle.table_look.proofs.look.next_number.Reads as next-number-reads
use Rattle.table_look.proofs.look.age_of.Kinds as age-of-kinds
use Rattle.table_look.proofs.look.age_of.Reads as age-of-reads
use Rattle.table_look.proofs.look.place_at.Kinds as place-at-kinds
use Rattle.table_look.proofs.look.place_at.Reads as place-at-reads
use Rattle.table_look.proofs.look.part_at.Kinds as part-at-kinds
use Rattle.table_look.proofs.look.part_at.Reads as part-at-reads
use Rattle.table_look.proofs.look.record_at.Kinds as record-at-kinds
use Rattle.table_look.proofs.look.record_at.Reads as record-at-reads
use Rattle.table_look.proofs.matching.next_match.Kinds as next-match-kinds
use Rattle.table_look.proofs.matching.next_match.Reads as next-match-reads
use Rattle.table_look.proofs.matching.count_matching.Kinds as count-matching-kinds
use Rattle.table_look.proofs.matching.count_matching.Reads as count-matching-reads

pub record OneOutcome : Type 0 where
  pub slots_in_lem : Only slots-in-kinds.ps slots-in-kinds.r slots-in-reads.Pre slots-in-reads.Post
  pub size_ok : Only size-ok-kinds.ps size-ok-kinds.r size-ok-reads.Pre size-ok-reads.Post
  pub header_at : Only header-at-kinds.ps header-at-kinds.r header-at-reads.Pre header-at-reads.Post
  pub header_bytes_lem : Only header-bytes-kinds.ps header-bytes-kinds.r header-bytes-reads.Pre header-bytes-reads.Post
  pub next_slot_lem : Only next-slot-kinds.ps next-slot-kinds.r next-slot-reads.Pre next-slot-reads.Post
  pub slot_after : Only slot-after-kinds.ps slot-after-kinds.r slot-after-reads.Pre slot-after-reads.Post
  pub number_after_lem : Only number-after-kinds.ps number-after-kinds.r number-after-reads.Pre number-after-reads.Post
  pub first_number_lem : Only first-number-kinds.ps first-number-kinds.r first-number-reads.Pre first-number-reads.Post
  pub sound : Door sound-kinds.ps sound-kinds.r sound_reads.Pre sound_reads.Post
  pub start : Door start-kinds.ps start-kinds.r start_reads.Pre start_reads.Post
  pub append : Only append-kinds.ps append-kinds.r append-reads.Pre append-reads.Post
  pub held_count : Only held-count-kinds.ps held-count-kinds.r held-count-reads.Pre held-count-reads.Post
  pub next_number : Only next-number-kinds.ps next-number-kinds.r next-number-reads.Pre next-number-reads.Post
  pub age_of_lem : Only age-of-kinds.ps age-of-kinds.r age-of-reads.Pre age-of-reads.Post
  pub place_at : Only place-at-kinds.ps place-at-kinds.r place-at-reads.Pre place-at-reads.Post
  pub part_at : OnlyPart part-at-kinds.ps part-at-kinds.r (λ κs x. x.now) part-at-reads.Pre part-at-reads.Post
  pub record_at : Only record-at-kinds.ps record-at-kinds.r record-at-reads.Pre record-at-reads.Post
  pub next_match_lem : Only next-match-kinds.ps next-match-kinds.r next-match-reads.Pre next-match-reads.Post
  pub count_matching_lem : Only count-matching-kinds.ps count-matching-kinds.r count-matching-reads.Pre count-matching-reads.Post
