-- One outcome of each of the server's doors: its reply, and every byte of the table and of the output afterwards.
use Rattle.theorems_once.specs.Only.{Door}
use Rattle.update.proofs.start.start.Kinds as start-kinds
use Rattle.update.proofs.start.start.Reads as start_reads
use Rattle.clock.proofs.events.seconds.Kinds as seconds-kinds
use Rattle.clock.proofs.events.seconds.Reads as seconds-reads
use Rattle.clock.proofs.events.switches.Kinds as switches-kinds
use Rattle.clock.proofs.events.switches.Reads as switches-reads
use Rattle.clock.proofs.events.disconnect.Kinds as disconnect-kinds
use Rattle.clock.proofs.events.disconnect.Reads as disconnect-reads
use Rattle.update.proofs.fault.fault.Kinds as fault-kinds
use Rattle.update.proofs.fault.fault.Reads as fault-reads
use Rattle.update.proofs.time_update.time_update.Kinds as time-update-kinds
use Rattle.update.proofs.time_update.time_update.Reads as time-update-reads
use Rattle.racp_access.proofs.access.record_access.Kinds as record-access-kinds
use Rattle.racp_access.proofs.access.record_access.Reads as record-access-reads
use Rattle.racp_notify.proofs.notify.notify.Kinds as notify-kinds
use Rattle.racp_notify.proofs.notify.notify.Reads as notify_reads
use Rattle.characteristics.proofs.value.device_time.Kinds as device-time-kinds
use Rattle.characteristics.proofs.value.device_time.Reads as device-time-reads
use Rattle.characteristics.proofs.value.feature.Kinds as feature-kinds
use Rattle.characteristics.proofs.value.feature.Reads as feature-reads
use Rattle.characteristics.proofs.value.parameters.Kinds as parameters-kinds
use Rattle.characteristics.proofs.value.parameters.Reads as parameters-reads

pub record OneOutcome : Type 0 where
  pub start : Door start-kinds.ps start-kinds.r start_reads.Pre start_reads.Post
  pub seconds : Door seconds-kinds.ps seconds-kinds.r seconds-reads.Pre seconds-reads.Post
  pub switches : Door switches-kinds.ps switches-kinds.r switches-reads.Pre switches-reads.Post
  pub disconnect : Door disconnect-kinds.ps disconnect-kinds.r disconnect-reads.Pre disconnect-reads.Post
  pub fault : Door fault-kinds.ps fault-kinds.r fault-reads.Pre fault-reads.Post
  pub time_update_lem : Door time-update-kinds.ps time-update-kinds.r time-update-reads.Pre time-update-reads.Post
  pub record_access_lem : Door record-access-kinds.ps record-access-kinds.r record-access-reads.Pre record-access-reads.Post
  pub notify : Door notify-kinds.ps notify-kinds.r notify_reads.Pre notify_reads.Post
  pub device_time_lem : Door device-time-kinds.ps device-time-kinds.r device-time-reads.Pre device-time-reads.Post
  pub feature : Door feature-kinds.ps feature-kinds.r feature-reads.Pre feature-reads.Post
  pub parameters : Door parameters-kinds.ps parameters-kinds.r parameters-reads.Pre parameters-reads.Post
