-- What an entry point answers where it is done, as include/whiskraven.h tells the C caller: the lengths, and which bytes of the output they
-- count. For any bytes that are lent.
use Rattle.std.specs.Prelude.{◌≡◌, true, List, ℕ, ◌+◌, ◌≤◌, leb, eqb, ℤ, pos, length, drop}
use Rattle.octets.specs.Choice.{both, either, pick}
use Rattle.octets.specs.Numbers.{at}
use Rattle.record.specs.Fields.{most_bytes}
use Rattle.codes.specs.Dtcp.{procedure_rejected}
use Rattle.rows.specs.Rows.{idle_b}
use Rattle.state_bytes.specs.State.{clock_of}
use Rattle.server_bytes.specs.Start.{start_at}
use Rattle.server_bytes.specs.Events.{seconds_at, switches_at, disconnect_at}
use Rattle.server_bytes.specs.Calls.{fault_at, dtcp_at, racp_at, notify_at}
use Rattle.server_bytes.specs.ValuesRead.{device_time_at, feature_at, parameters_at}
use Rattle.tablet_bytes.specs.Calls.{join_at, read_at, keep_at, carry_at}

-- DTS_CLOSING
abbrev pub closing : ℕ
closing = 256

-- "Answers 0", "3 or 5", "2 to p": the result of a call that is done.
pub record Lengths : Type 0 where
  pub start : (s t : List ℕ) (n : ℕ) → (start_at s t).result ≡ pos n → n ≡ 0
  pub seconds : (s : List ℕ) (k n : ℕ) → (seconds_at s k).result ≡ pos n → n ≡ 0
  pub switches : (s : List ℕ) (a b d n : ℕ) → (switches_at s a b d).result ≡ pos n → n ≡ 0
  pub disconnect : (s : List ℕ) (n : ℕ) → (disconnect_at s).result ≡ pos n → n ≡ 0
  -- "0, or 4 where that ends a report"
  pub fault : (s t o : List ℕ) (n : ℕ) → (fault_at s t o).result ≡ pos n → n ≡ pick (idle_b (clock_of s).running) 0 4
  -- "3 or 5": "09 op 05 and two bytes of flags"
  pub dtcp_write_lem : (s t w o : List ℕ) (n : ℕ) → (dtcp_at s t w o).result ≡ pos n
      → n ≡ pick (eqb (at (dtcp_at s t w o).output 2) procedure_rejected) 5 3
  -- "4 .. or 0"; "out is untouched"
  pub racp_write_lem : (s t w o : List ℕ) (n : ℕ) → (racp_at s t w o).result ≡ pos n → either (eqb n 0) (eqb n 4) ≡ true
  pub racp_begun : (s t w o : List ℕ) → (racp_at s t w o).result ≡ pos 0 → (racp_at s t w o).output ≡ o
  -- "2 to p, the length of a segment .. or DTS_CLOSING + 4"
  pub notify : (s t : List ℕ) (p : ℕ) (o : List ℕ) (n : ℕ) → (notify_at s t p o).result ≡ pos n
      → either (both (leb 2 n) (leb n p)) (eqb n (closing + 4)) ≡ true
  pub device_time_lem : (s t o : List ℕ) (n : ℕ) → (device_time_at s t o).result ≡ pos n → n ≡ 10
  pub feature : (o : List ℕ) (n : ℕ) → (feature_at o).result ≡ pos n → n ≡ 4
  pub parameters : (o : List ℕ) (n : ℕ) → (parameters_at o).result ≡ pos n → n ≡ 4
  -- "0: more to come; 1 to 45"
  pub join : (j b : List ℕ) (n : ℕ) → (join_at j b).result ≡ pos n → n ≤ most_bytes
  pub read : (b f : List ℕ) (n : ℕ) → (read_at b f).result ≡ pos n → n ≡ 0
  pub keep : (t b : List ℕ) (n : ℕ) → (keep_at t b).result ≡ pos n → n ≡ 0
  pub carry : (stamp q : ℕ) (t : List ℕ) (z : ℤ) (n : ℕ) → (carry_at stamp q t z).result ≡ pos n → n ≡ 0

-- n bytes were written to an output of the bytes o: it had room for them, and "bytes of `out` past those that the answer counts keep their
-- old values"
pub record Wrote (o : List ℕ) (n : ℕ) (out : List ℕ) : Type 0 where
  pub room : n ≤ length o
  pub size : length out ≡ length o
  pub past : drop n out ≡ drop n o

-- of a notification the closing response's 256 is taken off
pub record Written : Type 0 where
  pub fault : (s t o : List ℕ) (n : ℕ) → (fault_at s t o).result ≡ pos n → Wrote o n (fault_at s t o).output
  pub dtcp_write_lem : (s t w o : List ℕ) (n : ℕ) → (dtcp_at s t w o).result ≡ pos n → Wrote o n (dtcp_at s t w o).output
  pub racp_write_lem : (s t w o : List ℕ) (n : ℕ) → (racp_at s t w o).result ≡ pos n → Wrote o n (racp_at s t w o).output
  pub segment : (s t : List ℕ) (p : ℕ) (o : List ℕ) (n : ℕ) → (notify_at s t p o).result ≡ pos n → n ≤ p → Wrote o n (notify_at s t p o).output
  pub closed : (s t : List ℕ) (p : ℕ) (o : List ℕ) (n : ℕ) → (notify_at s t p o).result ≡ pos (closing + n) → Wrote o n (notify_at s t p o).output
  pub device_time_lem : (s t o : List ℕ) (n : ℕ) → (device_time_at s t o).result ≡ pos n → Wrote o n (device_time_at s t o).output
  pub feature : (o : List ℕ) (n : ℕ) → (feature_at o).result ≡ pos n → Wrote o n (feature_at o).output
  pub parameters : (o : List ℕ) (n : ℕ) → (parameters_at o).result ≡ pos n → Wrote o n (parameters_at o).output
