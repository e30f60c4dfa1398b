-- One outcome of each call on the map of numbers received, by value, over what C lends, and of what stands behind them.
use Rattle.theorems_once.specs.Only.{Only, Door}
use Rattle.fetch_word.proofs.word.below.Kinds as below-kinds
use Rattle.fetch_word.proofs.word.below.Reads as below-reads
use Rattle.fetch_word.proofs.word.with_bit.Kinds as with-bit-kinds
use Rattle.fetch_word.proofs.word.with_bit.Reads as with-bit-reads
use Rattle.fetch_word.proofs.word.ones.Kinds as ones-kinds
use Rattle.fetch_word.proofs.word.ones.Reads as ones-reads
use Rattle.fetch_word.proofs.run.look.Kinds as look-kinds
use Rattle.fetch_word.proofs.run.look.Reads as look-reads
use Rattle.fetch_told.proofs.told.inside_bits.Kinds as inside-bits-kinds
use Rattle.fetch_told.proofs.told.inside_bits.Reads as inside-bits-reads
use Rattle.fetch_told.proofs.told.Span.size.Kinds as range-size-kinds
use Rattle.fetch_told.proofs.told.Span.size.Reads as range-size-reads
use Rattle.fetch_told.proofs.told.Span.contains.Kinds as contains-kinds
use Rattle.fetch_told.proofs.told.Span.contains.Reads as contains-reads
use Rattle.fetch_told.proofs.told.inside.Kinds as inside-kinds
use Rattle.fetch_told.proofs.told.inside.Reads as inside-reads
use Rattle.fetch_map.proofs.tell.tell.Kinds as tell-kinds
use Rattle.fetch_map.proofs.tell.tell.Reads as tell-reads
use Rattle.fetch_map.proofs.take.take_in.Kinds as take-in-kinds
use Rattle.fetch_map.proofs.take.take_in.Reads as take-in-reads
use Rattle.fetch_map.proofs.count.received.Kinds as received-kinds
use Rattle.fetch_map.proofs.count.received.Reads as received-reads
use Rattle.fetch_propose.proofs.propose.propose.Kinds as propose-kinds
use Rattle.fetch_propose.proofs.propose.propose.Reads as propose-reads
use Rattle.fetch_bytes.proofs.request.request_bytes.Kinds as request-bytes-kinds
use Rattle.fetch_bytes.proofs.request.request_bytes.Reads as request-bytes-reads
use Rattle.fetch_bytes.proofs.calls.tell_at.Kinds as tell-at-kinds
use Rattle.fetch_bytes.proofs.calls.tell_at.Reads as tell-at-reads
use Rattle.fetch_bytes.proofs.calls.propose_at.Kinds as propose-at-kinds
use Rattle.fetch_bytes.proofs.calls.propose_at.Reads as propose-at-reads
use Rattle.fetch_bytes.proofs.calls.take_at.Kinds as take-at-kinds
use Rattle.fetch_bytes.proofs.calls.take_at.Reads as take-at-reads
use Rattle.fetch_bytes.proofs.calls.received_at.Kinds as received-at-kinds
use Rattle.fetch_bytes.proofs.calls.received_at.Reads as received-at-reads

pub record OneOutcome : Type 0 where
  pub below : Only below-kinds.ps below-kinds.r below-reads.Pre below-reads.Post
  pub with_bit_lem : Only with-bit-kinds.ps with-bit-kinds.r with-bit-reads.Pre with-bit-reads.Post
  pub ones : Door ones-kinds.ps ones-kinds.r ones-reads.Pre ones-reads.Post
  pub look : Only look-kinds.ps look-kinds.r look-reads.Pre look-reads.Post
  pub inside_bits : Only inside-bits-kinds.ps inside-bits-kinds.r inside-bits-reads.Pre inside-bits-reads.Post
  pub range_size : Door range-size-kinds.ps range-size-kinds.r range-size-reads.Pre range-size-reads.Post
  pub contains : Door contains-kinds.ps contains-kinds.r contains-reads.Pre contains-reads.Post
  pub inside : Door inside-kinds.ps inside-kinds.r inside-reads.Pre inside-reads.Post
  pub tell : Door tell-kinds.ps tell-kinds.r tell-reads.Pre tell-reads.Post
  pub take_in : Door take-in-kinds.ps take-in-kinds.r take-in-reads.Pre take-in-reads.Post
  pub received : Door received-kinds.ps received-kinds.r received-reads.Pre received-reads.Post
  pub propose : Door propose-kinds.ps propose-kinds.r propose-reads.Pre propose-reads.Post
  pub request_bytes_lem : Door request-bytes-kinds.ps request-bytes-kinds.r request-bytes-reads.Pre request-bytes-reads.Post
  pub tell_at_lem : Door tell-at-kinds.ps tell-at-kinds.r tell-at-reads.Pre tell-at-reads.Post
  pub propose_at_lem : Door propose-at-kinds.ps propose-at-kinds.r propose-at-reads.Pre propose-at-reads.Post
  pub take_at : Door take-at-kinds.ps take-at-kinds.r take-at-reads.Pre take-at-reads.Post
  pub received_at_lem : Door received-at-kinds.ps received-at-kinds.r received-at-reads.Pre received-at-reads.Post
