-- The outcome that the equation names. Where the table is only read, the call leaves it as it was.
use mathlib.Core.Path.{◌≡◌, refl, sym, ap}
use mathlib.Core.Bool.{Bool, true, false}
use mathlib.Core.List.{List}
use Prim.Native.Nat.{ℕ}
use Rattle.octets.specs.Choice.{pick}
use Rattle.codes.specs.Att.{att_error_at}
use Rattle.rows.specs.Reply.{done_b, refused, answered}
use Rattle.rows.specs.Rows.{first_failed}
use Rattle.racp_request.specs.Request.{opcode_in, request_of}
use Rattle.racp_access.specs.Access.{access_rows, accessed_of, response_in, access_of}
use Rattle.state_bytes.specs.State.{clock_of}
use Rattle.server_bytes.specs.Start.{start_at}
use Rattle.server_bytes.specs.Events.{seconds_at, switches_at, disconnect_at}
use Rattle.server_bytes.specs.Calls.{Called, called, fault_at, dtcp_at, racp_at, notify_at}
use Rattle.server_bytes.specs.ValuesRead.{device_time_at, feature_at, parameters_at}
use Rattle.salvage_bytes.specs.Calls.{salvage_at}
use Rattle.tablet_bytes.specs.Calls.{join_at, read_at, keep_at, carry_at}
use Rattle.fetch_bytes.specs.Calls.{tell_at, propose_at, take_at, received_at}
use Rattle.ramp_bytes.specs.Calls.{one_beast_at, newest_update_at}
use Rattle.theorems_once.proofs.OfEntries.{SomeOutcome}
use Rattle.theorems_once.proofs.of_entries.some_outcome.Goals as goal

only_read : (w : Called) (t : List ℕ) → w.table ≡ t → called w.result w.state t w.output ≡ w
only_read w t e = ap (λ (x : List ℕ). called w.result w.state x w.output) (sym e)

racp_reads : (s t w o : List ℕ) → (racp_at s t w o).table ≡ t
unfolding racp_at access_of answered
racp_reads s t w o = go (done_b (first_failed (access_rows (clock_of s) t w o)))
  where
    go : (b : Bool)
        → (let done = accessed_of (clock_of s) t (opcode_in w) (request_of w) in
        pick b (answered done.clock t (response_in done) o) (refused (first_failed (access_rows (clock_of s) t w o)) (clock_of s) t o)).table
        ≡ t
    go true = refl
    go false = refl

notify_reads : (s t : List ℕ) (p : ℕ) (o : List ℕ) → (notify_at s t p o).table ≡ t
unfolding notify_at
notify_reads s t p o = refl

theorem : SomeOutcome
theorem =
    record {
      start = λ κs a.
          let w = start_at a.0.now a.1.0.now in
          record { result = w.result; lasts = (w.state, (w.table, tt)); meets = refl };
      seconds = λ κs a.
          let w = seconds_at a.0.now a.1.0 in
          record { result = w.result; lasts = (w.state, (tt, tt)); meets = refl };
      switches = λ κs a.
          let w = switches_at a.0.now a.1.0 a.1.1.0 a.1.1.1.0 in
          record { result = w.result; lasts = (w.state, (tt, (tt, (tt, tt)))); meets = refl };
      disconnect = λ κs a.
          let w = disconnect_at a.0.now in
          record { result = w.result; lasts = (w.state, tt); meets = refl };
      fault = λ κs a.
          let w = fault_at a.0.now a.1.0.now a.1.1.0.now in
          record { result = w.result; lasts = (w.state, (w.table, (w.output, tt))); meets = refl };
      dtcp_write_lem = λ κs a.
          let w = dtcp_at a.0.now a.1.0.now a.1.1.0.now a.1.1.1.0.now in
          record { result = w.result; lasts = (w.state, (w.table, (tt, (w.output, tt)))); meets = refl };
      racp_write_lem = λ κs a.
          let w = racp_at a.0.now a.1.0.now a.1.1.0.now a.1.1.1.0.now in
          record { result = w.result; lasts = (w.state, (tt, (tt, (w.output, tt)))); meets = only_read w _ (racp_reads _ _ _ _) };
      notify = λ κs a.
          let w = notify_at a.0.now a.1.0.now a.1.1.0 a.1.1.1.0.now in
          record { result = w.result; lasts = (w.state, (tt, (tt, (w.output, tt)))); meets = only_read w _ (notify_reads _ _ _ _) };
      device_time_lem = λ κs a.
          let w = device_time_at a.0.now a.1.0.now a.1.1.0.now in
          record { result = w.result; lasts = (tt, (tt, (w.output, tt))); meets = refl };
      feature = λ κs a.
          let w = feature_at a.0.now in
          record { result = w.result; lasts = (w.output, tt); meets = refl };
      parameters = λ κs a.
          let w = parameters_at a.0.now in
          record { result = w.result; lasts = (w.output, tt); meets = refl };
      join = λ κs a.
          let w = join_at a.0.now a.1.0.now in
          record { result = w.result; lasts = (w.joining, (tt, tt)); meets = refl };
      read = λ κs a.
          let w = read_at a.0.now a.1.0.now in
          record { result = w.result; lasts = (tt, (w.fields, tt)); meets = refl };
      keep = λ κs a.
          let w = keep_at a.0.now a.1.0.now in
          record { result = w.result; lasts = (w.table, (tt, tt)); meets = refl };
      carry = λ κs a.
          let w = carry_at a.0 a.1.0 a.1.1.0.now a.1.1.1.0.now in
          record { result = w.result; lasts = (tt, (tt, (tt, (w.carried, tt)))); meets = refl };
      salvage = λ κs a.
          let w = salvage_at a.0.now a.1.0.now a.1.1.0.now in
          record { result = w.result; lasts = (tt, (w.table, (w.report, tt))); meets = refl };
      one_beast = λ κs a.
          let b = a.1.1.1.1 in
          let w = one_beast_at a.0.now a.1.0 a.1.1.0 a.1.1.1.0 b.0.now b.1.0 b.1.1.0 b.1.1.1.0 b.1.1.1.1.0 in
          record { result = w.result; lasts = (tt, (tt, (tt, (tt, (tt, (tt, (tt, (tt, (tt, (w.side, tt)))))))))); meets = refl };
      newest_update = λ κs a.
          let w = newest_update_at a.0.now a.1.0.now in
          record { result = w.result; lasts = (tt, (tt, (w.part, tt))); meets = refl };
      fetch_tell = λ κs a.
          let w = tell_at a.0.now a.1.0.now a.1.1.0 a.1.1.1.0 a.1.1.1.1.0 in
          record { result = w.result; lasts = (w.map, (w.told, (tt, (tt, (tt, tt))))); meets = refl };
      fetch_propose = λ κs a.
          let w = propose_at a.0.now a.1.0.now a.1.1.0.now in
          record { result = w.result; lasts = (tt, (tt, (w.request, tt))); meets = refl };
      fetch_take = λ κs a.
          let w = take_at a.0.now a.1.0.now a.1.1.0 in
          record { result = w.result; lasts = (w.map, (tt, (tt, tt))); meets = refl };
      fetch_received = λ κs a. record { result = received_at a.0.now; lasts = (tt, tt); meets = refl };
      att_error = λ κs a. record { result = att_error_at a.0; lasts = (tt, tt); meets = refl };
    }

pub returns : goal.returns
returns c = let holds : SomeOutcome = theorem in tt
