-- One outcome of each call of the ramp's crates. Of `newest_update`, which hands back a part of what was lent, the bytes of that part are one.
use Rattle.theorems_once.specs.Only.{Door, DoorPart}
use Rattle.ramp.proofs.beast.one_beast.Kinds as one-beast-kinds
use Rattle.ramp.proofs.beast.one_beast.Reads as one-beast-reads
use Rattle.ramp.proofs.beast.verdict_number.Kinds as verdict-number-kinds
use Rattle.ramp.proofs.beast.verdict_number.Reads as verdict-number-reads
use Rattle.ramp.proofs.beast.verdict_side.Kinds as verdict-side-kinds
use Rattle.ramp.proofs.beast.verdict_side.Reads as verdict-side-reads
use Rattle.ramp_newest.proofs.newest.later_update.Kinds as later-update-kinds
use Rattle.ramp_newest.proofs.newest.later_update.Reads as later-update-reads
use Rattle.ramp_newest.proofs.newest.newest_update.Kinds as newest-update-kinds
use Rattle.ramp_newest.proofs.newest.newest_update.Reads as newest-update-reads
use Rattle.ramp_newest.proofs.newest.later_number.Kinds as later-number-kinds
use Rattle.ramp_newest.proofs.newest.later_number.Reads as later-number-reads
use Rattle.ramp_newest.proofs.newest.later_side.Kinds as later-side-kinds
use Rattle.ramp_newest.proofs.newest.later_side.Reads as later-side-reads
use Rattle.ramp_bytes.proofs.calls.one_beast_at.Kinds as one-beast-at-kinds
use Rattle.ramp_bytes.proofs.calls.one_beast_at.Reads as one-beast-at-reads
use Rattle.ramp_bytes.proofs.calls.newest_update_at.Kinds as newest-update-at-kinds
use Rattle.ramp_bytes.proofs.calls.newest_update_at.Reads as newest-update-at-reads

pub record OneOutcome : Type 0 where
  pub one_beast : Door one-beast-kinds.ps one-beast-kinds.r one-beast-reads.Pre one-beast-reads.Post
  pub verdict_number_lem : Door verdict-number-kinds.ps verdict-number-kinds.r verdict-number-reads.Pre verdict-number-reads.Post
  pub verdict_side_lem : Door verdict-side-kinds.ps verdict-side-kinds.r verdict-side-reads.Pre verdict-side-reads.Post
  pub later_update : Door later-update-kinds.ps later-update-kinds.r later-update-reads.Pre later-update-reads.Post
  pub newest_update : DoorPart newest-update-kinds.ps newest-update-kinds.r (λ κs x. x.now) newest-update-reads.Pre newest-update-reads.Post
  pub later_number_lem : Door later-number-kinds.ps later-number-kinds.r later-number-reads.Pre later-number-reads.Post
  pub later_side_lem : Door later-side-kinds.ps later-side-kinds.r later-side-reads.Pre later-side-reads.Post
  pub one_beast_at_lem : Door one-beast-at-kinds.ps one-beast-at-kinds.r one-beast-at-reads.Pre one-beast-at-reads.Post
  pub newest_update_at_lem : Door newest-update-at-kinds.ps newest-update-at-kinds.r newest-update-at-reads.Pre newest-update-at-reads.Post
