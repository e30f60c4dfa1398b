-- Every record once over bytes: a world that was reached is the image of one by value, of which the theorems by value are proved.
-- Assumes nothing.
use mathlib.Core.Path.{◌≡◌, refl, sym, ap, subst, ◌∙◌}
use mathlib.Core.Bool.{true}
use mathlib.Core.List.{List, [], ◌∷◌, ◌++◌, map, map-append}
use Prim.Native.Nat.{ℕ, ◌<◌}
use lib.ListN.{length, take, replicate}
use Rattle.octets.specs.Parts.{Bytes}
use Rattle.filter.specs.declared.filter.Filter.{Filter}
use Rattle.record.specs.declared.kinds.Record.{Record}
use Rattle.table_look.specs.Matching.{matching}
use Rattle.joining.specs.Joining.{empty_joining}
use Rattle.state_bytes.specs.JoiningState.{joining_bytes}
use Rattle.tablet_bytes.specs.Calls.{ReadNumbers}
use Rattle.theorems_reports.specs.World.{World, new_world, step_by}
use Rattle.theorems_reports.specs.Joined.{got, join_all}
use Rattle.theorems_reports.specs.Reports.{Accepted, segments}
use Rattle.theorems_reports.specs.Closing.{answer_of, all_quiet_b, asked_in}
use Rattle.theorems_handed.specs.Server.{AnyCall, right, after_of, answer_to, Accepts, begins}
use Rattle.theorems_handed.specs.Server as any
use Rattle.theorems_handed.specs.Handed.{Course, course_by, assembled, HandedFrom}
use Rattle.theorems_handed.specs.Counted.{Counted}
use Rattle.theorems_handed.specs.History.{notes_by, courses_by, notes_in}
use Rattle.theorems_handed.proofs.HistoryLaws.{new_idle}
use Rattle.theorems_handed.proofs.OnceLaws.{every_record_once}
use Rattle.theorems_handed.proofs.ReadLaws.{every_record_joined}
use Rattle.theorems_handed.proofs.LeftLaws.{finishes}
use Rattle.theorems_bytes.specs.World.{ByteWorld, ByteCall, racp_write, step_at, EntryCall, call, call_of, calls_of, image_in, history_of}
use Rattle.theorems_bytes.specs.Reports.{got_at, join_all_at, shown_of, AcceptedAt, all_quiet_at, asked_at}
use Rattle.theorems_bytes.proofs.ImageLaws.{Fit, new_fit, reached_fit, reached, images}
use Rattle.theorems_bytes.proofs.ReportLaws.{quiet_is, got_of, from_zeros, read_all, accepted_is, begun_fit, begun_is, asked_begun}
use Rattle.theorems_handed_bytes.specs.Endings.{entry_by, entries_of}
use Rattle.theorems_handed_bytes.specs.Courses.{course_at, notes_at, courses_at}
use Rattle.theorems_handed_bytes.specs.Once.{OnceAt, EveryRecordOnceAt, NothingElseAt}
use Rattle.theorems_handed_bytes.proofs.CourseLaws.{course_is, notes_are, courses_are}
use Rattle.std.proofs.Common.{Some}

-- calls without a start among them
entries_calls : (ks : List ByteCall) → entries_of (map call ks) ≡ map any.call (calls_of ks)
unfolding entries_of entry_by calls_of
entries_calls [] = refl
entries_calls (k ∷ ks) =
    ap (λ (l : List AnyCall). map any.call (call_of k) ++ l) (entries_calls ks) ∙ sym (map-append any.call (call_of k) (calls_of ks))

accepts_is : (v : World) (w o : List ℕ) (f : Filter) → Accepted v w o f → Accepts right v w o f
unfolding answer_to answer_of
accepts_is v w o f a = record { asked = a.asked; done = a.done; silent = a.silent }

-- what the tablet reads by value it reads over its 48 bytes
joined_is : (e : List ℕ) (ns : List (List ℕ)) (l : List Record) → join_all empty_joining ns ≡ got (map Some l) true
    → join_all_at e (replicate joining_bytes 0) ns ≡ got_at (map shown_of l) true
joined_is e ns l h = from_zeros e ns ∙ ap (got_of e) h ∙ ap (λ (n : List ReadNumbers). got_at n true) (read_all e l)

-- the world in which a report has begun
module _ (v : World) (w o : List ℕ) (hw : Bytes w) (x : Fit v) where
  after_is : step_at (image_in v) (racp_write w o hw) ≡ image_in (begins right v w o)
  unfolding after_of step_by
  after_is = begun_is v w o hw x

  after_fit : Fit (begins right v w o)
  unfolding after_of step_by
  after_fit = begun_fit v w o hw x

  course_after : (ks : List EntryCall)
      → course_at (step_at (image_in v) (racp_write w o hw)) ks ≡ course_by right (begins right v w o) (entries_of ks)
  course_after ks = ap (λ (b : ByteWorld). course_at b ks) after_is ∙ course_is ks (begins right v w o) after_fit

  notes_after : (ks : List EntryCall)
      → notes_at (step_at (image_in v) (racp_write w o hw)) ks ≡ notes_by right (begins right v w o) (entries_of ks)
  notes_after ks = ap (λ (b : ByteWorld). notes_at b ks) after_is ∙ notes_are ks (begins right v w o) after_fit

  courses_after : (ks : List EntryCall)
      → courses_at (step_at (image_in v) (racp_write w o hw)) ks ≡ courses_by right (begins right v w o) (entries_of ks)
  courses_after ks = ap (λ (b : ByteWorld). courses_at b ks) after_is ∙ courses_are ks (begins right v w o) after_fit

  -- what the report and the later ones say
  all_after : (ks : List EntryCall)
      → (let b = step_at (image_in v) (racp_write w o hw) in (course_at b ks).notes ++ notes_in (courses_at b ks))
      ≡ (let u = begins right v w o in (course_by right u (entries_of ks)).notes ++ notes_in (courses_by right u (entries_of ks)))
  all_after ks = rw (course_after ks, courses_after ks)

  quiet_after : (ks : List ByteCall) → all_quiet_at (step_at (image_in v) (racp_write w o hw)) ks ≡ true
      → all_quiet_b (begins right v w o) (calls_of ks) ≡ true
  quiet_after ks h = quiet_is ks (begins right v w o) after_fit (ap (λ (b : ByteWorld). all_quiet_at b ks) (sym after_is) ∙ h)

  asked_after : (ks : List ByteCall)
      → asked_at (step_at (image_in v) (racp_write w o hw)) ks ≡ asked_in (begins right v w o) (calls_of ks)
  unfolding after_of step_by
  asked_after ks = asked_begun v w o hw ks x

once : (v : World) (w o : List ℕ) (hw : Bytes w) (f : Filter) → Fit v → AcceptedAt (image_in v) w o hw f → OnceAt (image_in v) w o hw f
once v w o hw f x h =
    let a = accepts_is v w o f (accepted_is v w o hw f x h) in
    let t = x.good.bytes in
    record {
      handed = λ ks.
          subst (HandedFrom (matching f v.table)) (sym (course_after v w o hw x ks)) (every_record_once.handed v w o f (entries_of ks) t a);
      counted = λ ks.
          subst (Counted f v.table) (sym (course_after v w o hw x ks)) (every_record_once.counted v w o f (entries_of ks) t a);
      after = λ ks.
          notes_after v w o hw x ks ∙ every_record_once.after v w o f (entries_of ks) x.good a ∙ sym (all_after v w o hw x ks);
      joined = λ e ks.
          let ns = (course_by right (begins right v w o) (entries_of ks)).notes in
          rw (course_after v w o hw x ks)
          (joined_is e ns (take (length (assembled ns).whole) (matching f v.table)) (every_record_joined v w o f (entries_of ks) t a));
      finishes = λ ks q n.
          ap (λ (c : Course). c.ending) (course_after v w o hw x (map call ks) ∙ ap (course_by right (begins right v w o)) (entries_calls ks))
          ∙ finishes v w o f (calls_of ks) t a (quiet_after v w o hw x ks q)
          (subst (λ l. segments 19 (matching f v.table) < length l) (asked_after v w o hw x ks) n);
    }

pub every_record_once_at : EveryRecordOnceAt
every_record_once_at s t before w o hw f hs ht a =
    let e = reached s t hs ht before in
    subst (λ b. OnceAt b w o hw f) (sym e)
    (once (history_of (new_world t) before) w o hw f (reached_fit s t hs ht before) (subst (λ b. AcceptedAt b w o hw f) e a))

pub nothing_else_at : NothingElseAt
nothing_else_at s t ks hs ht =
    let f = new_fit t ht in
    let e = (images.starts s t hs ht).1 in
    ap (λ (b : ByteWorld). notes_at b ks) e
    ∙ notes_are ks (new_world t) f
    ∙ every_record_once.nothing_else (new_world t) (entries_of ks) f.good (new_idle t)
    ∙ ap notes_in (sym (courses_are ks (new_world t) f))
    ∙ ap (λ (b : ByteWorld). notes_in (courses_at b ks)) (sym e)
