-- A place in the list and a sound log: noted; else as it was.
use mathlib.Core.Path.{◌≡◌, sym, ◌∙◌}
use mathlib.Core.Bool.{true}
use Rattle.table.specs.Table.{sound_b}
use Rattle.day_play.proofs.ReaderLaws.{not_listed, not_sound, noted}
use Rattle.day_play.proofs.reader.read.Goals as goal
use Rattle.day_play.proofs.reader.read.Goals.{Else-not-sound}

good : (c : Else-not-sound) → sound_b c.args.r.table ≡ true
good c = sym c.sound.ensures ∙ c.if-not-sound.false

pub returns-then-place-ge8 : goal.returns-then-place-ge8
returns-then-place-ge8 c =
    let a = c.args in
    not_listed a.r a.place c.if-place-ge8.true

pub returns-then-not-sound : goal.returns-then-not-sound
returns-then-not-sound c =
    let a = c.args in
    not_sound a.r a.place (sym c.sound.ensures ∙ c.if-not-sound.true)

pub next_number-q-requires : goal.next_number-q-requires
next_number-q-requires c = good (goal.at.next_number-q-requires c).Else-not-sound

pub returns : goal.returns
returns c =
    let a = c.args in
    noted a.r a.place c.next_number-q.result c.if-place-ge8.false (good (goal.at.returns c).Else-not-sound) c.next_number-q.ensures
