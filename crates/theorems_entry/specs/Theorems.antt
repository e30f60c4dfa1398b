-- What is promised of the entry points beyond each one's own equation.
use Rattle.std.specs.Prelude.{◌≡◌, true, List, ℕ, eqb, ℤ, pos, negsuc, length, replicate}
use Rattle.octets.specs.Choice.{pick}
use Rattle.codes.specs.Att.{att_error_at}
use Rattle.table.specs.Table.{sound_b}
use Rattle.clock.specs.Answers.{number_of, att_error_of, Answer}
use Rattle.clock.specs.Events.{seconds_of, switches_of, disconnect_of}
use Rattle.clock.specs.Obeys.{clock_b}
use Rattle.clock.specs.declared.state.Clock.{Clock}
use Rattle.update.specs.Fault.{fault_of}
use Rattle.update.specs.Start.{new_reader_of}
use Rattle.update.specs.TimeUpdate.{update_of}
use Rattle.characteristics.specs.Value.{device_time_of}
use Rattle.racp_access.specs.Access.{access_of}
use Rattle.racp_notify.specs.Notify.{notify_of}
use Rattle.record.specs.Fields.{most_bytes}
use Rattle.joining.specs.Joining.{join_of}
use Rattle.joining.specs.declared.joining.Joining.{Joining}
use Rattle.state_bytes.specs.State.{state_bytes, image_of, clock_in, image_b}
use Rattle.state_bytes.specs.JoiningState.{joining_image}
use Rattle.state_bytes.specs.Results.{refusal}
use Rattle.state_images.specs.Theorems.{Fits}
use Rattle.server_bytes.specs.Results.{ran}
use Rattle.server_bytes.specs.Start.{started_bytes, short_of, begun_at, start_at}
use Rattle.server_bytes.specs.Events.{eventful, on_b, seconds_at, switches_at, disconnect_at}
use Rattle.server_bytes.specs.Calls.{Called, called, replied, notified, fault_at, dtcp_at, racp_at, notify_at}
use Rattle.server_bytes.specs.ValuesRead.{shown, answered_bytes, device_time_at, feature_at, parameters_at}
use Rattle.tablet_bytes.specs.Calls.{joined_bytes, join_at, read_at, keep_at, carry_at}

-- "A refusal leaves state, log and output untouched": where the result is below 0, all that is lent is as it was; "10 empties the joining
-- state": every byte of it is 0.
pub record RefusedUnchanged : Type 0 where
  pub start : (s t : List ℕ) (n : ℕ) → (start_at s t).result ≡ negsuc n → start_at s t ≡ started_bytes (negsuc n) s t
  pub seconds : (s : List ℕ) (k n : ℕ) → (seconds_at s k).result ≡ negsuc n → seconds_at s k ≡ ran (negsuc n) s
  pub switches : (s : List ℕ) (a b d n : ℕ) → (switches_at s a b d).result ≡ negsuc n → switches_at s a b d ≡ ran (negsuc n) s
  pub disconnect : (s : List ℕ) (n : ℕ) → (disconnect_at s).result ≡ negsuc n → disconnect_at s ≡ ran (negsuc n) s
  pub fault : (s t o : List ℕ) (n : ℕ) → (fault_at s t o).result ≡ negsuc n → fault_at s t o ≡ called (negsuc n) s t o
  pub dtcp_write_lem : (s t w o : List ℕ) (n : ℕ) → (dtcp_at s t w o).result ≡ negsuc n → dtcp_at s t w o ≡ called (negsuc n) s t o
  pub racp_write_lem : (s t w o : List ℕ) (n : ℕ) → (racp_at s t w o).result ≡ negsuc n → racp_at s t w o ≡ called (negsuc n) s t o
  pub notify : (s t : List ℕ) (p : ℕ) (o : List ℕ) (n : ℕ) → (notify_at s t p o).result ≡ negsuc n → notify_at s t p o ≡ called (negsuc n) s t o
  pub device_time_lem : (s t o : List ℕ) (n : ℕ) → (device_time_at s t o).result ≡ negsuc n → (device_time_at s t o).output ≡ o
  pub feature : (o : List ℕ) (n : ℕ) → (feature_at o).result ≡ negsuc n → (feature_at o).output ≡ o
  pub parameters : (o : List ℕ) (n : ℕ) → (parameters_at o).result ≡ negsuc n → (parameters_at o).output ≡ o
  pub join : (j b : List ℕ) (n : ℕ) → (join_at j b).result ≡ negsuc n → (join_at j b).joining ≡ replicate (length j) 0
  pub read : (b f : List ℕ) (n : ℕ) → (read_at b f).result ≡ negsuc n → (read_at b f).fields ≡ f
  pub keep : (t b : List ℕ) (n : ℕ) → (keep_at t b).result ≡ negsuc n → (keep_at t b).table ≡ t
  pub carry : (stamp q : ℕ) (t : List ℕ) (z : ℤ) (n : ℕ) → (carry_at stamp q t z).result ≡ negsuc n → (carry_at stamp q t z).carried ≡ z

-- "another length or encoding is refusal 2": what is answered where the state is no image, and else the call on the clock that stands there
abbrev pub unless_no_image : {A : Type 0} → List ℕ → A → (Clock → A) → A
unless_no_image s none f = pick (image_b s) (f (clock_in s)) none

-- a call with a table tests that first: 1, then 2
unfoldable pub no_image : List ℕ → ℤ
no_image t = refusal (pick (sound_b t) 2 1)

-- nothing is written
abbrev pub unread : List ℕ → List ℕ → List ℕ → Called
unread s t o = called (no_image t) s t o

-- A state that is no image is refused with 2, after 1 where a table is lent, and all that is lent is as it was; any other is the call by
-- value on the clock that stands in it, whether that obeys its rules or not. Of `dts_start` only the state's length is asked for.
pub record NoImage : Type 0 where
  pub start : (s t : List ℕ) → start_at s t ≡ pick (eqb (length s) state_bytes) (begun_at s (new_reader_of t)) (started_bytes (short_of (length t)) s t)
  pub seconds : (s : List ℕ) (n : ℕ) → seconds_at s n ≡ unless_no_image s (ran (refusal 2) s) (λ c. eventful s (seconds_of c n))
  pub switches : (s : List ℕ) (dtcp racp log : ℕ)
      → switches_at s dtcp racp log ≡ unless_no_image s (ran (refusal 2) s) (λ c. eventful s (switches_of c (on_b dtcp) (on_b racp) (on_b log)))
  pub disconnect : (s : List ℕ) → disconnect_at s ≡ unless_no_image s (ran (refusal 2) s) (λ c. eventful s (disconnect_of c))
  pub fault : (s t o : List ℕ) → fault_at s t o ≡ unless_no_image s (unread s t o) (λ c. replied s (fault_of c t o))
  pub dtcp_write_lem : (s t w o : List ℕ) → dtcp_at s t w o ≡ unless_no_image s (unread s t o) (λ c. replied s (update_of c t w o))
  pub racp_write_lem : (s t w o : List ℕ) → racp_at s t w o ≡ unless_no_image s (unread s t o) (λ c. replied s (access_of c t w o))
  pub notify : (s t : List ℕ) (p : ℕ) (o : List ℕ) → notify_at s t p o ≡ unless_no_image s (unread s t o) (λ c. notified s t (notify_of c t p o))
  pub device_time_lem : (s t o : List ℕ) → device_time_at s t o ≡ unless_no_image s (shown (no_image t) o) (λ c. answered_bytes (device_time_of c t o))

-- Over the image of a clock that obeys its rules, with fields that fit their types, an entry point is the call by value, and the state
-- becomes the image of its clock after; over a joining state's image likewise.
pub record Composes : Type 0 where
  pub seconds : (c : Clock) → Fits c → clock_b c ≡ true → (n : ℕ) → seconds_at (image_of c) n ≡ eventful (image_of c) (seconds_of c n)
  pub switches : (c : Clock) → Fits c → clock_b c ≡ true → (a b d : ℕ)
      → switches_at (image_of c) a b d ≡ eventful (image_of c) (switches_of c (on_b a) (on_b b) (on_b d))
  pub disconnect : (c : Clock) → Fits c → clock_b c ≡ true → disconnect_at (image_of c) ≡ eventful (image_of c) (disconnect_of c)
  pub fault : (c : Clock) → Fits c → clock_b c ≡ true → (t o : List ℕ) → fault_at (image_of c) t o ≡ replied (image_of c) (fault_of c t o)
  pub dtcp_write_lem : (c : Clock) → Fits c → clock_b c ≡ true → (t w o : List ℕ)
      → dtcp_at (image_of c) t w o ≡ replied (image_of c) (update_of c t w o)
  pub racp_write_lem : (c : Clock) → Fits c → clock_b c ≡ true → (t w o : List ℕ)
      → racp_at (image_of c) t w o ≡ replied (image_of c) (access_of c t w o)
  pub notify : (c : Clock) → Fits c → clock_b c ≡ true → (t : List ℕ) (p : ℕ) (o : List ℕ)
      → notify_at (image_of c) t p o ≡ notified (image_of c) t (notify_of c t p o)
  pub device_time_lem : (c : Clock) → Fits c → clock_b c ≡ true → (t o : List ℕ) → device_time_at (image_of c) t o ≡ answered_bytes (device_time_of c t o)
  pub join : (j : Joining) → length j.bytes ≡ most_bytes → (n : List ℕ) → join_at (joining_image j) n ≡ joined_bytes (join_of j n)

-- `dts_att_error` of the paper's number for an answer is that answer's ATT error.
abbrev pub Errors : Type 0
Errors = (a : Answer) → att_error_at (number_of a) ≡ pos (att_error_of a)
