-- What a report hands over, from its notifications alone: the segments that came up to its ending, their bodies joined by first and last bits.
use Rattle.std.specs.Prelude.{◌≡◌, Bool, true, not, List, [], ◌∷◌, ◌++◌, map, ℕ, ◌≤◌, ◌<◌, eqb, length, take, drop}
use Rattle.octets.specs.Choice.{both, pick}
use Rattle.record_write.specs.Layout.{bytes_of}
use Rattle.record.specs.declared.kinds.Record.{Record}
use Rattle.racp_access.specs.Report.{first_bytes}
use Rattle.racp_notify.specs.Notify.{counter_after}
use Rattle.joining.specs.Joining.{first_bit, last_bit, counter_in, body, filled_b}
use Rattle.theorems_reports.specs.World.{World}
use Rattle.theorems_reports.specs.Hearing.{Heard, nothing, segment, closing}
use Rattle.theorems_handed.specs.Server.{AnyCall, Server}
use Rattle.theorems_reports.specs.Endings.{Ending, ongoing, closed, ended_b}
use Rattle.theorems_handed.specs.Endings.{ending_in}

-- The course of a report: its segments up to its ending, or up to the last call.
pub record Course : Type 0 where
  pub notes : List (List ℕ)
  pub ending : Ending

abbrev pub course : List (List ℕ) → Ending → Course
course n e = record { notes = n; ending = e }

-- after an ending nothing counts
abbrev pub until : Ending → Course → Course
until e rest = pick (ended_b e) (course [] e) rest

-- what is heard of a call, and then the rest
abbrev pub further : Heard → Course → Course
further nothing rest = rest
further (segment b) rest = course (b ∷ rest.notes) rest.ending
further (closing b) rest = course [] closed

unfoldable pub course_by : Server → World → List AnyCall → Course
course_by s v [] = course [] ongoing
course_by s v (k ∷ ks) = let rest = course_by s (s.after v k) ks in further (s.heard v k) (until (ending_in s v k) rest)

-- What segments hand over: whole records' bytes, those of an unfinished one after them, and whether the segments fit together.
pub record Handed : Type 0 where
  pub whole : List (List ℕ)
  pub unfinished : List ℕ
  pub fitting : Bool

abbrev pub handed : List (List ℕ) → List ℕ → Bool → Handed
handed w u f = record { whole = w; unfinished = u; fitting = f }

abbrev pub first_set_b : List ℕ → Bool
first_set_b n = eqb (first_bit n) 1

abbrev pub last_set_b : List ℕ → Bool
last_set_b n = eqb (last_bit n) 1

-- No body is empty, the counter is k, and the first bit is set exactly where a record begins: where nothing of one came yet.
abbrev pub fits_b : ℕ → List ℕ → List ℕ → Bool
fits_b k part n = both (filled_b n) (both (eqb (counter_in n) k) (pick (eqb (length part) 0) (first_set_b n) (not (first_set_b n))))

-- k is the next counter, "63 then 0"; `part` is what came of the record under way
unfoldable pub assembled_from : ℕ → List ℕ → List (List ℕ) → Handed
assembled_from k part [] = handed [] part true
assembled_from k part (n ∷ ns) =
    let here = part ++ body n in
    let last = assembled_from (counter_after k) [] ns in
    let more = assembled_from (counter_after k) here ns in
    pick (last_set_b n)
    (handed (here ∷ last.whole) last.unfinished (both (fits_b k part n) last.fitting))
    (handed more.whole more.unfinished (both (fits_b k part n) more.fitting))

-- of a whole report: its counter "starts at 0"
abbrev pub assembled : List (List ℕ) → Handed
assembled = assembled_from 0 []

-- The first so many of the records l, whole; of the next one, if there is one, the first so many bytes and not all; nothing else.
pub record Beginning (l : List Record) (h : Handed) : Type 0 where
  pub held : length h.whole ≤ length l
  pub whole : h.whole ≡ take (length h.whole) (map bytes_of l)
  pub unfinished : h.unfinished ≡ take (length h.unfinished) (first_bytes (drop (length h.whole) l))
  pub short : length h.whole < length l → length h.unfinished < length (first_bytes (drop (length h.whole) l))
  pub fitting : h.fitting ≡ true

-- all of them, whole, and nothing else
pub record Complete (l : List Record) (h : Handed) : Type 0 where
  pub whole : h.whole ≡ map bytes_of l
  pub unfinished : h.unfinished ≡ []

-- l is the list that was fixed when the report was accepted, c its course
pub record HandedFrom (l : List Record) (c : Course) : Type 0 where
  -- however it ended, or before it did: "whole records that are the first so many of that list, with at most one unfinished record after them"
  pub beginning : Beginning l (assembled c.notes)
  -- left to finish: "every matching held record"
  pub complete : c.ending ≡ closed → Complete l (assembled c.notes)
  -- before the first notification: none
  pub before : c.notes ≡ [] → assembled c.notes ≡ handed [] [] true
  -- after the last record's last segment, before the closing response: all, none unfinished
  pub after : length (assembled c.notes).whole ≡ length l → Complete l (assembled c.notes)
