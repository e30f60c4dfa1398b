-- What a call answers, read back from the reply that it comes to.
-- Assumes nothing.
use mathlib.Core.Path.{◌≡◌, refl}
use mathlib.Core.Bool.{Bool, true, false}
use Prim.Native.Nat.{ℕ}
use Rattle.clock.specs.declared.answers.Refusal.{Refusal}
use Rattle.clock.specs.declared.state.Clock.{Clock}
use Rattle.rows.specs.Reply.{Reply, reply_by}
use Rattle.racp_notify.specs.Notify.{Notified, notified_by}
use Rattle.racp_notify.specs.declared.notify.Notification.{Notification}
use Rattle.racp_notify.specs.declared.notify.Notification.TheVariants.{Segment, Closing}
use Rattle.characteristics.specs.Value.{Value, value_by}
use Rattle.std.proofs.Common.{Result, Ok, Err}

abbrev pub answered_by : Reply → Result ℕ Refusal
answered_by r = elim r.answer [ Ok done ↦ Ok r.len | Err why ↦ Err why ]

pub answered_back : (r : Result ℕ Refusal) (c : Clock) → answered_by (reply_by r c) ≡ r
answered_back (Ok n) c = refl
answered_back (Err why) c = refl

abbrev pub told_by : Value → Result ℕ Refusal
told_by v = elim v.answer [ Ok done ↦ Ok v.len | Err why ↦ Err why ]

pub told_back : (r : Result ℕ Refusal) → told_by (value_by r) ≡ r
told_back (Ok n) = refl
told_back (Err why) = refl

abbrev said : Bool → ℕ → Notification
said true n = Closing n
said false n = Segment n

abbrev pub said_by : Notified → Result Notification Refusal
said_by n = elim n.answer [ Ok done ↦ Ok (said n.closes n.len) | Err why ↦ Err why ]

pub said_back : (r : Result Notification Refusal) (c : Clock) → said_by (notified_by r c) ≡ r
said_back (Ok (Segment n)) c = refl
said_back (Ok (Closing n)) c = refl
said_back (Err why) c = refl
