-- One outcome of each of the tablet's doors, of what joining by value and in lent bytes share, and of the numbers of their answers. Its reading of bytes is `read` of the records.
use Rattle.theorems_once.specs.Only.{Only, Door}
use Rattle.joining.proofs.joining.join.Kinds as join-kinds
use Rattle.joining.proofs.joining.join.Reads as join-reads
use Rattle.joining.proofs.joining.takes.Kinds as takes-kinds
use Rattle.joining.proofs.joining.takes.Reads as takes_reads
use Rattle.joining.proofs.joining.lay_body.Kinds as lay-body-kinds
use Rattle.joining.proofs.joining.lay_body.Reads as lay-body-reads
use Rattle.joining.proofs.joining.len_after.Kinds as len-after-kinds
use Rattle.joining.proofs.joining.len_after.Reads as len-after-reads
use Rattle.joining.proofs.joining.counter_after.Kinds as counter-after-kinds
use Rattle.joining.proofs.joining.counter_after.Reads as counter-after-reads
use Rattle.joining.proofs.joining.restart.Kinds as restart-kinds
use Rattle.joining.proofs.joining.restart.Reads as restart-reads
use Rattle.joining.proofs.joining.joining_number.Kinds as number-of-kinds
use Rattle.joining.proofs.joining.joining_number.Reads as number-of-reads
use Rattle.joining.proofs.reading.read_joined.Kinds as read-joined-kinds
use Rattle.joining.proofs.reading.read_joined.Reads as read-joined-reads
use Rattle.keep.proofs.keep.keep.Kinds as keep-kinds
use Rattle.keep.proofs.keep.keep.Reads as keep-reads
use Rattle.keep.proofs.keep.keeping_number.Kinds as kept-number-kinds
use Rattle.keep.proofs.keep.keeping_number.Reads as kept-number-reads
use Rattle.carry.proofs.stamp.carry.Kinds as carry-kinds
use Rattle.carry.proofs.stamp.carry.Reads as carry-reads
use Rattle.carry.proofs.stamp.carrying_number.Kinds as carried-number-kinds
use Rattle.carry.proofs.stamp.carrying_number.Reads as carried-number-reads

pub record OneOutcome : Type 0 where
  pub join : Door join-kinds.ps join-kinds.r join-reads.Pre join-reads.Post
  pub takes : Only takes-kinds.ps takes-kinds.r takes_reads.Pre takes_reads.Post
  pub lay_body : Only lay-body-kinds.ps lay-body-kinds.r lay-body-reads.Pre lay-body-reads.Post
  pub len_after : Only len-after-kinds.ps len-after-kinds.r len-after-reads.Pre len-after-reads.Post
  pub counter_after_lem : Only counter-after-kinds.ps counter-after-kinds.r counter-after-reads.Pre counter-after-reads.Post
  pub restart : Door restart-kinds.ps restart-kinds.r restart-reads.Pre restart-reads.Post
  pub number_of : Only number-of-kinds.ps number-of-kinds.r number-of-reads.Pre number-of-reads.Post
  pub read_joined : Door read-joined-kinds.ps read-joined-kinds.r read-joined-reads.Pre read-joined-reads.Post
  pub keep : Door keep-kinds.ps keep-kinds.r keep-reads.Pre keep-reads.Post
  pub kept_number : Only kept-number-kinds.ps kept-number-kinds.r kept-number-reads.Pre kept-number-reads.Post
  pub carry : Door carry-kinds.ps carry-kinds.r carry-reads.Pre carry-reads.Post
  pub carried_number : Only carried-number-kinds.ps carried-number-kinds.r carried-number-reads.Pre carried-number-reads.Post
