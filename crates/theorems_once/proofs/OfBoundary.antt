-- One outcome of each entry point: its result, and every byte or number of each buffer that is lent to be written; and of each call on
-- the images behind them.
use Rattle.theorems_once.specs.Only.{Only, Door}
use Rattle.firmware.proofs.start.dts_start.Kinds as start-kinds
use Rattle.firmware.proofs.start.dts_start.Reads as start_reads
use Rattle.firmware.proofs.events.dts_seconds.Kinds as seconds-kinds
use Rattle.firmware.proofs.events.dts_seconds.Reads as seconds-reads
use Rattle.firmware.proofs.events.dts_switches.Kinds as switches-kinds
use Rattle.firmware.proofs.events.dts_switches.Reads as switches-reads
use Rattle.firmware.proofs.events.dts_disconnect.Kinds as disconnect-kinds
use Rattle.firmware.proofs.events.dts_disconnect.Reads as disconnect-reads
use Rattle.firmware.proofs.calls.dts_fault.Kinds as fault-kinds
use Rattle.firmware.proofs.calls.dts_fault.Reads as fault-reads
use Rattle.firmware.proofs.calls.dts_dtcp_write.Kinds as dtcp-write-kinds
use Rattle.firmware.proofs.calls.dts_dtcp_write.Reads as dtcp-write-reads
use Rattle.firmware.proofs.calls.dts_racp_write.Kinds as racp-write-kinds
use Rattle.firmware.proofs.calls.dts_racp_write.Reads as racp-write-reads
use Rattle.firmware.proofs.calls.dts_notify.Kinds as notify-kinds
use Rattle.firmware.proofs.calls.dts_notify.Reads as notify_reads
use Rattle.firmware.proofs.values_read.dts_device_time.Kinds as device-time-kinds
use Rattle.firmware.proofs.values_read.dts_device_time.Reads as device-time-reads
use Rattle.firmware.proofs.values_read.dts_feature.Kinds as feature-kinds
use Rattle.firmware.proofs.values_read.dts_feature.Reads as feature-reads
use Rattle.firmware.proofs.values_read.dts_parameters.Kinds as parameters-kinds
use Rattle.firmware.proofs.values_read.dts_parameters.Reads as parameters-reads
use Rattle.firmware.proofs.tablet_calls.dts_join.Kinds as join-kinds
use Rattle.firmware.proofs.tablet_calls.dts_join.Reads as join-reads
use Rattle.firmware.proofs.tablet_calls.dts_read.Kinds as read-kinds
use Rattle.firmware.proofs.tablet_calls.dts_read.Reads as read_reads
use Rattle.firmware.proofs.tablet_calls.dts_keep.Kinds as keep-kinds
use Rattle.firmware.proofs.tablet_calls.dts_keep.Reads as keep-reads
use Rattle.firmware.proofs.tablet_calls.dts_carry.Kinds as carry-kinds
use Rattle.firmware.proofs.tablet_calls.dts_carry.Reads as carry-reads
use Rattle.firmware.proofs.tablet_calls.dts_salvage.Kinds as salvage-kinds
use Rattle.firmware.proofs.tablet_calls.dts_salvage.Reads as salvage-reads
use Rattle.firmware.proofs.ramp_calls.dts_one_beast.Kinds as one-beast-kinds
use Rattle.firmware.proofs.ramp_calls.dts_one_beast.Reads as one-beast-reads
use Rattle.firmware.proofs.ramp_calls.dts_newest_update.Kinds as newest-update-kinds
use Rattle.firmware.proofs.ramp_calls.dts_newest_update.Reads as newest-update-reads
use Rattle.firmware.proofs.fetch_calls.dts_fetch_tell.Kinds as fetch-tell-kinds
use Rattle.firmware.proofs.fetch_calls.dts_fetch_tell.Reads as fetch-tell-reads
use Rattle.firmware.proofs.fetch_calls.dts_fetch_propose.Kinds as fetch-propose-kinds
use Rattle.firmware.proofs.fetch_calls.dts_fetch_propose.Reads as fetch-propose-reads
use Rattle.firmware.proofs.fetch_calls.dts_fetch_take.Kinds as fetch-take-kinds
use Rattle.firmware.proofs.fetch_calls.dts_fetch_take.Reads as fetch-take-reads
use Rattle.firmware.proofs.fetch_calls.dts_fetch_received.Kinds as fetch-received-kinds
use Rattle.firmware.proofs.fetch_calls.dts_fetch_received.Reads as fetch-received-reads
use Rattle.firmware.proofs.errors.dts_att_error.Kinds as att-error-kinds
use Rattle.firmware.proofs.errors.dts_att_error.Reads as att-error-reads
use Rattle.state_bytes.proofs.state.image_of.Kinds as image-of-kinds
use Rattle.state_bytes.proofs.state.image_of.Reads as image-of-reads
use Rattle.state_bytes.proofs.state.clock_of.Kinds as clock-of-kinds
use Rattle.state_bytes.proofs.state.clock_of.Reads as clock-of-reads

pub record OneOutcome : Type 0 where
  pub start : Door start-kinds.ps start-kinds.r start_reads.Pre start_reads.Post
  pub seconds : Door seconds-kinds.ps seconds-kinds.r seconds-reads.Pre seconds-reads.Post
  pub switches : Door switches-kinds.ps switches-kinds.r switches-reads.Pre switches-reads.Post
  pub disconnect : Door disconnect-kinds.ps disconnect-kinds.r disconnect-reads.Pre disconnect-reads.Post
  pub fault : Door fault-kinds.ps fault-kinds.r fault-reads.Pre fault-reads.Post
  pub dtcp_write_lem : Door dtcp-write-kinds.ps dtcp-write-kinds.r dtcp-write-reads.Pre dtcp-write-reads.Post
  pub racp_write_lem : Door racp-write-kinds.ps racp-write-kinds.r racp-write-reads.Pre racp-write-reads.Post
  pub notify : Door notify-kinds.ps notify-kinds.r notify_reads.Pre notify_reads.Post
  pub device_time_lem : Door device-time-kinds.ps device-time-kinds.r device-time-reads.Pre device-time-reads.Post
  pub feature : Door feature-kinds.ps feature-kinds.r feature-reads.Pre feature-reads.Post
  pub parameters : Door parameters-kinds.ps parameters-kinds.r parameters-reads.Pre parameters-reads.Post
  pub join : Door join-kinds.ps join-kinds.r join-reads.Pre join-reads.Post
  pub read : Door read-kinds.ps read-kinds.r read_reads.Pre read_reads.Post
  pub keep : Door keep-kinds.ps keep-kinds.r keep-reads.Pre keep-reads.Post
  pub carry : Door carry-kinds.ps carry-kinds.r carry-reads.Pre carry-reads.Post
  pub salvage : Door salvage-kinds.ps salvage-kinds.r salvage-reads.Pre salvage-reads.Post
  pub one_beast : Door one-beast-kinds.ps one-beast-kinds.r one-beast-reads.Pre one-beast-reads.Post
  pub newest_update : Door newest-update-kinds.ps newest-update-kinds.r newest-update-reads.Pre newest-update-reads.Post
  pub fetch_tell : Door fetch-tell-kinds.ps fetch-tell-kinds.r fetch-tell-reads.Pre fetch-tell-reads.Post
  pub fetch_propose : Door fetch-propose-kinds.ps fetch-propose-kinds.r fetch-propose-reads.Pre fetch-propose-reads.Post
  pub fetch_take : Door fetch-take-kinds.ps fetch-take-kinds.r fetch-take-reads.Pre fetch-take-reads.Post
  pub fetch_received : Door fetch-received-kinds.ps fetch-received-kinds.r fetch-received-reads.Pre fetch-received-reads.Post
  pub att_error : Door att-error-kinds.ps att-error-kinds.r att-error-reads.Pre att-error-reads.Post
  pub image_of : Only image-of-kinds.ps image-of-kinds.r image-of-reads.Pre image-of-reads.Post
  pub clock_of_lem : Only clock-of-kinds.ps clock-of-kinds.r clock-of-reads.Pre clock-of-reads.Post
