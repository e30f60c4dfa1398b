-- One outcome of each call on the rules of fields, on filters and on records; what a lent slice holds is only read. `read` is a door.
use Rattle.theorems_once.specs.Only.{Only, Door}
use Rattle.rules.proofs.fields.base_ok.Kinds as base-ok-kinds
use Rattle.rules.proofs.fields.base_ok.Reads as base-ok-reads
use Rattle.rules.proofs.fields.zone_ok.Kinds as zone-ok-kinds
use Rattle.rules.proofs.fields.zone_ok.Reads as zone-ok-reads
use Rattle.rules.proofs.fields.dst_ok.Kinds as dst-ok-kinds
use Rattle.rules.proofs.fields.dst_ok.Reads as dst-ok-reads
use Rattle.rules.proofs.fields.source_ok.Kinds as source-ok-kinds
use Rattle.rules.proofs.fields.source_ok.Reads as source-ok-reads
use Rattle.rules.proofs.fields.status_ok.Kinds as status-ok-kinds
use Rattle.rules.proofs.fields.status_ok.Reads as status-ok-reads
use Rattle.rules.proofs.statuses.statuses_ok.Kinds as statuses-ok-kinds
use Rattle.rules.proofs.statuses.statuses_ok.Reads as statuses-ok-reads
use Rattle.rules.proofs.offsets.dst_allowed.Kinds as dst-allowed-kinds
use Rattle.rules.proofs.offsets.dst_allowed.Reads as dst-allowed-reads
use Rattle.filter.proofs.filter.place_by_age.Kinds as place-by-age-kinds
use Rattle.filter.proofs.filter.place_by_age.Reads as place-by-age-reads
use Rattle.filter.proofs.filter.start_age.Kinds as start-age-kinds
use Rattle.filter.proofs.filter.start_age.Reads as start-age-reads
use Rattle.filter.proofs.filter.end_age.Kinds as end-age-kinds
use Rattle.filter.proofs.filter.end_age.Reads as end-age-reads
use Rattle.filter.proofs.filter.matches.Kinds as matches-kinds
use Rattle.filter.proofs.filter.matches.Reads as matches-reads
use Rattle.record.proofs.fields.sequence_of.Kinds as sequence-of-kinds
use Rattle.record.proofs.fields.sequence_of.Reads as sequence-of-reads
use Rattle.record.proofs.fields.type_of.Kinds as type-of-kinds
use Rattle.record.proofs.fields.type_of.Reads as type-of-reads
use Rattle.record.proofs.fields.base_of.Kinds as base-of-kinds
use Rattle.record.proofs.fields.base_of.Reads as base-of-reads
use Rattle.record.proofs.fields.old_base_of.Kinds as old-base-of-kinds
use Rattle.record.proofs.fields.old_base_of.Reads as old-base-of-reads
use Rattle.record_write.proofs.layout.write.Kinds as write-kinds
use Rattle.record_write.proofs.layout.write.Reads as write-reads
use Rattle.record_write.proofs.layout.length_of.Kinds as length-of-kinds
use Rattle.record_write.proofs.layout.length_of.Reads as length-of-reads
use Rattle.record_read.proofs.reading.record_of.Kinds as record-of-kinds
use Rattle.record_read.proofs.reading.record_of.Reads as record-of-reads
use Rattle.record_read.proofs.fields.update_ok.Kinds as update-ok-kinds
use Rattle.record_read.proofs.fields.update_ok.Reads as update-ok-reads
use Rattle.record_read.proofs.fields.fault_ok.Kinds as fault-ok-kinds
use Rattle.record_read.proofs.fields.fault_ok.Reads as fault-ok-reads
use Rattle.record_read.proofs.reading.update_formed.Kinds as update-formed-kinds
use Rattle.record_read.proofs.reading.update_formed.Reads as update-formed-reads
use Rattle.record_read.proofs.reading.fault_formed.Kinds as fault-formed-kinds
use Rattle.record_read.proofs.reading.fault_formed.Reads as fault-formed-reads
use Rattle.record_read.proofs.reading.well_formed.Kinds as well-formed-kinds
use Rattle.record_read.proofs.reading.well_formed.Reads as well-formed-reads
use Rattle.record_read.proofs.reading.read.Kinds as read-kinds
use Rattle.record_read.proofs.reading.read.Reads as read_reads
use Rattle.record_read.proofs.reading.reading_number.Kinds as number-of-kinds
use Rattle.record_read.proofs.reading.reading_number.Reads as number-of-reads

pub record OneOutcome : Type 0 where
  pub base_ok : Only base-ok-kinds.ps base-ok-kinds.r base-ok-reads.Pre base-ok-reads.Post
  pub zone_ok : Only zone-ok-kinds.ps zone-ok-kinds.r zone-ok-reads.Pre zone-ok-reads.Post
  pub dst_ok : Only dst-ok-kinds.ps dst-ok-kinds.r dst-ok-reads.Pre dst-ok-reads.Post
  pub source_ok : Only source-ok-kinds.ps source-ok-kinds.r source-ok-reads.Pre source-ok-reads.Post
  pub status_ok : Only status-ok-kinds.ps status-ok-kinds.r status-ok-reads.Pre status-ok-reads.Post
  pub statuses_ok : Only statuses-ok-kinds.ps statuses-ok-kinds.r statuses-ok-reads.Pre statuses-ok-reads.Post
  pub dst_allowed : Only dst-allowed-kinds.ps dst-allowed-kinds.r dst-allowed-reads.Pre dst-allowed-reads.Post
  pub place_by_age_lem : Only place-by-age-kinds.ps place-by-age-kinds.r place-by-age-reads.Pre place-by-age-reads.Post
  pub start_age_lem : Only start-age-kinds.ps start-age-kinds.r start-age-reads.Pre start-age-reads.Post
  pub end_age_lem : Only end-age-kinds.ps end-age-kinds.r end-age-reads.Pre end-age-reads.Post
  pub matches : Only matches-kinds.ps matches-kinds.r matches-reads.Pre matches-reads.Post
  pub sequence_of_lem : Only sequence-of-kinds.ps sequence-of-kinds.r sequence-of-reads.Pre sequence-of-reads.Post
  pub type_of : Only type-of-kinds.ps type-of-kinds.r type-of-reads.Pre type-of-reads.Post
  pub base_of : Only base-of-kinds.ps base-of-kinds.r base-of-reads.Pre base-of-reads.Post
  pub old_base_of_lem : Only old-base-of-kinds.ps old-base-of-kinds.r old-base-of-reads.Pre old-base-of-reads.Post
  pub write : Only write-kinds.ps write-kinds.r write-reads.Pre write-reads.Post
  pub length_of : Only length-of-kinds.ps length-of-kinds.r length-of-reads.Pre length-of-reads.Post
  pub record_of : Only record-of-kinds.ps record-of-kinds.r record-of-reads.Pre record-of-reads.Post
  pub update_ok : Only update-ok-kinds.ps update-ok-kinds.r update-ok-reads.Pre update-ok-reads.Post
  pub fault_ok : Only fault-ok-kinds.ps fault-ok-kinds.r fault-ok-reads.Pre fault-ok-reads.Post
  pub update_formed : Only update-formed-kinds.ps update-formed-kinds.r update-formed-reads.Pre update-formed-reads.Post
  pub fault_formed : Only fault-formed-kinds.ps fault-formed-kinds.r fault-formed-reads.Pre fault-formed-reads.Post
  pub well_formed : Only well-formed-kinds.ps well-formed-kinds.r well-formed-reads.Pre well-formed-reads.Post
  pub read : Door read-kinds.ps read-kinds.r read_reads.Pre read_reads.Post
  pub number_of : Only number-of-kinds.ps number-of-kinds.r number-of-reads.Pre number-of-reads.Post
