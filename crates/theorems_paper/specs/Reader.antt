-- The reader of the paper's cases: a table of four slots, all switches on. Its calls are laid open for the checker to compute.
use Rattle.std.specs.Prelude.{true, List, [], ◌∷◌, ◌++◌, ℕ, zero, suc, take, replicate}
use Rattle.octets.specs.Numbers.{bytes4}
use Rattle.clock.specs.Events.{seconds_of, switches_of, Event}
use Rattle.codes.specs.Dtcp.{propose_opcode, force_opcode}
use Rattle.rows.specs.Reply.{Outcome}
use Rattle.update.specs.TimeUpdate.{update_of}
use Rattle.racp_access.specs.Access.{access_of}
use Rattle.racp_notify.specs.Notify.{Notice, notify_of}
use Rattle.joining.specs.Joining.{empty_joining}
use Rattle.theorems_reports.specs.Joined.{Got, join_all}
use Rattle.theorems_reports.specs.World.{World, world, new_world, world_after}
use Rattle.theorems_reports.specs.Open.{calls_open, joining_open}

-- A write's opcode, flags, Base_Time and zone: "epoch 2000, GPS (2), zone 4, DST 0, UTC and qualified-local flags, kept in all updates below".
-- The paper does not say the accuracy; it is 1.
abbrev pub write : ℕ → ℕ → ℕ → ℕ → List ℕ
write opcode flags base zone = opcode ∷ flags ∷ 0x00 ∷ (bytes4 base ++ (zone ∷ 0 ∷ 2 ∷ 1 ∷ []))

-- UTC, qualified local, epoch 2000 (document 002, Table 3.17)
abbrev pub case_flags : ℕ
case_flags = 0x43

abbrev pub propose : ℕ → List ℕ
propose base = write propose_opcode case_flags base 4

abbrev pub force : ℕ → List ℕ
force base = write force_opcode case_flags base 4

-- what is lent for a response, and for a notification
abbrev pub output : List ℕ
output = replicate 20 0xaa

abbrev pub long_output : List ℕ
long_output = replicate 244 0xaa

-- "New reader, switches on"
unfoldable pub switched_on : World
unfolding calls_open
switched_on = let v = new_world (replicate 272 0xaa) in world (switches_of v.clock true true true).clock v.table

-- n seconds
unfoldable pub tick : World → ℕ → Event
unfolding calls_open
tick v n = seconds_of v.clock n

-- a write to the DTCP
unfoldable pub update : World → List ℕ → Outcome
unfolding calls_open
update v w = update_of v.clock v.table w output

-- a write to the RACP
unfoldable pub access : World → List ℕ → Outcome
unfolding calls_open
access v w = access_of v.clock v.table w output

-- a notification of payload size p
unfoldable pub notify : World → ℕ → Notice
unfolding calls_open
notify v p = notify_of v.clock v.table p long_output

-- the bytes that are the response
abbrev pub response : Outcome → List ℕ
response u = take u.reply.len u.output

-- n notifications of payload size p, one after the other
unfoldable pub sent : ℕ → ℕ → World → List (List ℕ)
unfolding notify
sent zero p v = []
sent (suc n) p v =
    let x = notify v p in
    let rest = sent n p (world x.reply.clock v.table) in
    take x.reply.len x.output ∷ rest

-- notifications as the tablet joins them
unfoldable pub joined : List (List ℕ) → Got
unfolding joining_open
joined = join_all empty_joining

-- the reader after n seconds
abbrev pub later : World → ℕ → World
later v n = world (tick v n).clock v.table

-- the reader of case 1, and the same with its "clock at 800,000,100, other fields as in 1"
unfoldable pub first : World
unfolding switched_on update
first = world_after (update switched_on (propose 800000000))

unfoldable pub second : World
unfolding first tick
second = later first 100

-- the reader of case 1 that reports all its records
unfoldable pub reporting : World
unfolding access first
reporting = world_after (access first (0x01 ∷ 0x01 ∷ []))
