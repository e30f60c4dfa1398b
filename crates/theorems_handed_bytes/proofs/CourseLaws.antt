-- The course of a report over bytes, all that is heard, and the reports that begin, are those by value: by induction over the calls.
-- Assumes nothing.
use mathlib.Core.Path.{◌≡◌, refl, ap, ◌∙◌}
use mathlib.Core.List.{List, [], ◌∷◌, ◌++◌}
use Rattle.theorems_reports.specs.World.{World}
use Rattle.theorems_handed.specs.Server.{AnyCall, right}
use Rattle.theorems_handed.specs.Handed.{course_by}
use Rattle.theorems_handed.specs.History.{notes_by, courses_by}
use Rattle.theorems_bytes.specs.World.{ByteWorld, EntryCall, enter_at, image_in, entry_of}
use Rattle.theorems_bytes.proofs.ImageLaws.{Fit, entry_fit, enter_is}
use Rattle.theorems_handed_bytes.specs.Endings.{entries_of}
use Rattle.theorems_handed_bytes.specs.Courses.{course_at, notes_at, courses_at}
use Rattle.theorems_handed_bytes.proofs.EntryLaws.{Entered, reads, does, entered}

-- the course
course_step : (v : World) (k : EntryCall) (ks : List EntryCall) {l : List AnyCall} → Entered v k l
    → course_at (enter_at (image_in v) k) ks ≡ course_by right (entry_of v k) (entries_of ks)
    → course_at (image_in v) (k ∷ ks) ≡ course_by right v (l ++ entries_of ks)
unfolding course_at course_by
course_step v k ks (reads h e b s) rest = rw (h, e, rest, s)
course_step v k ks (does h e b s) rest = rw (h, e, rest, s)

pub course_is : (ks : List EntryCall) (v : World) → Fit v → course_at (image_in v) ks ≡ course_by right v (entries_of ks)
unfolding course_at course_by entries_of
course_is [] v f = refl
course_is (k ∷ ks) v f =
    course_step v k ks (entered v k f)
    (ap (λ (b : ByteWorld). course_at b ks) (enter_is v k f) ∙ course_is ks (entry_of v k) (entry_fit v k f))

-- all that is heard
notes_step : (v : World) (k : EntryCall) (ks : List EntryCall) {l : List AnyCall} → Entered v k l
    → notes_at (enter_at (image_in v) k) ks ≡ notes_by right (entry_of v k) (entries_of ks)
    → notes_at (image_in v) (k ∷ ks) ≡ notes_by right v (l ++ entries_of ks)
unfolding notes_at notes_by
notes_step v k ks (reads h e b s) rest = rw (h, rest, s)
notes_step v k ks (does h e b s) rest = rw (h, rest, s)

pub notes_are : (ks : List EntryCall) (v : World) → Fit v → notes_at (image_in v) ks ≡ notes_by right v (entries_of ks)
unfolding notes_at notes_by entries_of
notes_are [] v f = refl
notes_are (k ∷ ks) v f =
    notes_step v k ks (entered v k f)
    (ap (λ (b : ByteWorld). notes_at b ks) (enter_is v k f) ∙ notes_are ks (entry_of v k) (entry_fit v k f))

-- the reports that begin
courses_step : (v : World) (k : EntryCall) (ks : List EntryCall) {l : List AnyCall} → Entered v k l
    → course_at (enter_at (image_in v) k) ks ≡ course_by right (entry_of v k) (entries_of ks)
    → courses_at (enter_at (image_in v) k) ks ≡ courses_by right (entry_of v k) (entries_of ks)
    → courses_at (image_in v) (k ∷ ks) ≡ courses_by right v (l ++ entries_of ks)
unfolding courses_at courses_by
courses_step v k ks (reads h e b s) first rest = rw (b, rest, s)
courses_step v k ks (does h e b s) first rest = rw (b, first, rest, s)

pub courses_are : (ks : List EntryCall) (v : World) → Fit v → courses_at (image_in v) ks ≡ courses_by right v (entries_of ks)
unfolding courses_at courses_by entries_of
courses_are [] v f = refl
courses_are (k ∷ ks) v f =
    courses_step v k ks (entered v k f)
    (ap (λ (b : ByteWorld). course_at b ks) (enter_is v k f) ∙ course_is ks (entry_of v k) (entry_fit v k f))
    (ap (λ (b : ByteWorld). courses_at b ks) (enter_is v k f) ∙ courses_are ks (entry_of v k) (entry_fit v k f))
