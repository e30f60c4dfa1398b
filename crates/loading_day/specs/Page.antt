-- The sheet of a day: the title, and a line for each tag with what both antennas noted, what the tablet carried, and whether it was one beast.
use Rattle.std.specs.Prelude.{List, [], ◌∷◌, ◌++◌, ℕ, take, Option}
use Rattle.day_sheet.specs.Sheet.{tag_line, title_line}
use Rattle.day_play.specs.Play.{opened_of, played_of}
use Rattle.day_evening.specs.Fetch.{fetched_of, sight_of, ruling_of}
use Rattle.day_play.specs.declared.play.Happening.{Happening}
use Rattle.day_play.specs.declared.play.Ramp.{Ramp}
use Rattle.day_play.specs.declared.reader.Note.{Note}
use Rattle.octets.specs.declared.bytes.Bytes.{Bytes}

-- the bytes of a page that count
unfoldable pub page_text : Bytes 864 → List ℕ
page_text p = take p.len p.bytes

-- a tag's line: of each side its reader's note, its clock's Base_Time in the evening, and its table as the tablet fetched it
abbrev pub line_of : (tag : ℕ) (left : Option Note) (leftBase : ℕ) (leftTable : List ℕ) (right : Option Note) (rightBase : ℕ) (rightTable : List ℕ) → List ℕ
line_of tag left leftBase leftTable right rightBase rightTable =
    tag_line tag (sight_of left leftTable) (sight_of right rightTable) (ruling_of left leftBase leftTable right rightBase rightTable)

-- a line for each tag
unfoldable pub lines_of : (tags : List ℕ) (left : List (Option Note)) (leftBase : ℕ) (leftTable : List ℕ) (right : List (Option Note)) (rightBase : ℕ) (rightTable : List ℕ) → List ℕ
lines_of (tag ∷ tags) (l ∷ ls) lb lt (r ∷ rs) rb rt = line_of tag l lb lt r rb rt ++ lines_of tags ls lb lt rs rb rt
lines_of (tag ∷ tags) (l ∷ ls) lb lt [] rb rt = []
lines_of (tag ∷ tags) [] lb lt rs rb rt = []
lines_of [] ls lb lt rs rb rt = []

unfoldable pub evening_of : List ℕ → Ramp → List ℕ
evening_of tags v =
    title_line
    ++ lines_of tags
    v.left.notes v.left.clock.time.base (fetched_of v.left)
    v.right.notes v.right.clock.time.base (fetched_of v.right)

unfoldable pub sheet_of : List Happening → List ℕ → List ℕ
sheet_of day tags = evening_of tags (played_of opened_of day)
