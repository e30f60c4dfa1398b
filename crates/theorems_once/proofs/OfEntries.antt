-- Each entry point has an outcome, whatever bytes are lent, also those that no history leads to. With One outcome of `OfBoundary`: exactly
-- one result, and one content of every buffer.
use Rattle.theorems_once.specs.Only.{Some}
use Rattle.firmware.proofs.start.dts_start.Kinds as start-kinds
use Rattle.firmware.proofs.start.dts_start.Reads as start_reads
use Rattle.firmware.proofs.events.dts_seconds.Kinds as seconds-kinds
use Rattle.firmware.proofs.events.dts_seconds.Reads as seconds-reads
use Rattle.firmware.proofs.events.dts_switches.Kinds as switches-kinds
use Rattle.firmware.proofs.events.dts_switches.Reads as switches-reads
use Rattle.firmware.proofs.events.dts_disconnect.Kinds as disconnect-kinds
use Rattle.firmware.proofs.events.dts_disconnect.Reads as disconnect-reads
use Rattle.firmware.proofs.calls.dts_fault.Kinds as fault-kinds
use Rattle.firmware.proofs.calls.dts_fault.Reads as fault-reads
use Rattle.firmware.proofs.calls.dts_dtcp_write.Kinds as dtcp-write-kinds
use Rattle.firmware.proofs.calls.dts_dtcp_write.Reads as dtcp-write-reads
use Rattle.firmware.proofs.calls.dts_racp_write.Kinds as racp-write-kinds
use Rattle.firmware.proofs.calls.dts_racp_write.Reads as racp-write-reads
use Rattle.firmware.proofs.calls.dts_notify.Kinds as notify-kinds
use Rattle.firmware.proofs.calls.dts_notify.Reads as notify_reads
use Rattle.firmware.proofs.values_read.dts_device_time.Kinds as device-time-kinds
use Rattle.firmware.proofs.values_read.dts_device_time.Reads as device-time-reads
use Rattle.firmware.proofs.values_read.dts_feature.Kinds as feature-kinds
use Rattle.firmware.proofs.values_read.dts_feature.Reads as feature-reads
use Rattle.firmware.proofs.values_read.dts_parameters.Kinds as parameters-kinds
use Rattle.firmware.proofs.values_read.dts_parameters.Reads as parameters-reads
use Rattle.firmware.proofs.tablet_calls.dts_join.Kinds as join-kinds
use Rattle.firmware.proofs.tablet_calls.dts_join.Reads as join-reads
use Rattle.firmware.proofs.tablet_calls.dts_read.Kinds as read-kinds
use Rattle.firmware.proofs.tablet_calls.dts_read.Reads as read_reads
use Rattle.firmware.proofs.tablet_calls.dts_keep.Kinds as keep-kinds
use Rattle.firmware.proofs.tablet_calls.dts_keep.Reads as keep-reads
use Rattle.firmware.proofs.tablet_calls.dts_carry.Kinds as carry-kinds
use Rattle.firmware.proofs.tablet_calls.dts_carry.Reads as carry-reads
use Rattle.firmware.proofs.tablet_calls.dts_salvage.Kinds as salvage-kinds
use Rattle.firmware.proofs.tablet_calls.dts_salvage.Reads as salvage-reads
use Rattle.firmware.proofs.ramp_calls.dts_one_beast.Kinds as one-beast-kinds
use Rattle.firmware.proofs.ramp_calls.dts_one_beast.Reads as one-beast-reads
use Rattle.firmware.proofs.ramp_calls.dts_newest_update.Kinds as newest-update-kinds
use Rattle.firmware.proofs.ramp_calls.dts_newest_update.Reads as newest-update-reads
use Rattle.firmware.proofs.fetch_calls.dts_fetch_tell.Kinds as fetch-tell-kinds
use Rattle.firmware.proofs.fetch_calls.dts_fetch_tell.Reads as fetch-tell-reads
use Rattle.firmware.proofs.fetch_calls.dts_fetch_propose.Kinds as fetch-propose-kinds
use Rattle.firmware.proofs.fetch_calls.dts_fetch_propose.Reads as fetch-propose-reads
use Rattle.firmware.proofs.fetch_calls.dts_fetch_take.Kinds as fetch-take-kinds
use Rattle.firmware.proofs.fetch_calls.dts_fetch_take.Reads as fetch-take-reads
use Rattle.firmware.proofs.fetch_calls.dts_fetch_received.Kinds as fetch-received-kinds
use Rattle.firmware.proofs.fetch_calls.dts_fetch_received.Reads as fetch-received-reads
use Rattle.firmware.proofs.errors.dts_att_error.Kinds as att-error-kinds
use Rattle.firmware.proofs.errors.dts_att_error.Reads as att-error-reads

pub record SomeOutcome : Type 0 where
  pub start : Some start-kinds.ps start-kinds.r start_reads.Post
  pub seconds : Some seconds-kinds.ps seconds-kinds.r seconds-reads.Post
  pub switches : Some switches-kinds.ps switches-kinds.r switches-reads.Post
  pub disconnect : Some disconnect-kinds.ps disconnect-kinds.r disconnect-reads.Post
  pub fault : Some fault-kinds.ps fault-kinds.r fault-reads.Post
  pub dtcp_write_lem : Some dtcp-write-kinds.ps dtcp-write-kinds.r dtcp-write-reads.Post
  pub racp_write_lem : Some racp-write-kinds.ps racp-write-kinds.r racp-write-reads.Post
  pub notify : Some notify-kinds.ps notify-kinds.r notify_reads.Post
  pub device_time_lem : Some device-time-kinds.ps device-time-kinds.r device-time-reads.Post
  pub feature : Some feature-kinds.ps feature-kinds.r feature-reads.Post
  pub parameters : Some parameters-kinds.ps parameters-kinds.r parameters-reads.Post
  pub join : Some join-kinds.ps join-kinds.r join-reads.Post
  pub read : Some read-kinds.ps read-kinds.r read_reads.Post
  pub keep : Some keep-kinds.ps keep-kinds.r keep-reads.Post
  pub carry : Some carry-kinds.ps carry-kinds.r carry-reads.Post
  pub salvage : Some salvage-kinds.ps salvage-kinds.r salvage-reads.Post
  pub one_beast : Some one-beast-kinds.ps one-beast-kinds.r one-beast-reads.Post
  pub newest_update : Some newest-update-kinds.ps newest-update-kinds.r newest-update-reads.Post
  pub fetch_tell : Some fetch-tell-kinds.ps fetch-tell-kinds.r fetch-tell-reads.Post
  pub fetch_propose : Some fetch-propose-kinds.ps fetch-propose-kinds.r fetch-propose-reads.Post
  pub fetch_take : Some fetch-take-kinds.ps fetch-take-kinds.r fetch-take-reads.Post
  pub fetch_received : Some fetch-received-kinds.ps fetch-received-kinds.r fetch-received-reads.Post
  pub att_error : Some att-error-kinds.ps att-error-kinds.r att-error-reads.Post
