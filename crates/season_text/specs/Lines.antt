-- The lines of the season figures (change request E12): `1 updates 2 forward 168848000 back 30 faults 0 largest 168848000` for the table at
-- position 1, `2 refused 1` for one that isn't sound, `ended 3` where the run ends before its input does, `total ..` last. Text is ASCII:
-- 10 ends a line, 32 is a space.
use Rattle.std.specs.Prelude.{List, [], ◌∷◌, ◌++◌, ℕ}
use Rattle.text.specs.Line.{decimal}
use Rattle.season_figures.specs.declared.figures.Figures.{Figures}

-- ` updates `
abbrev pub updates_word : List ℕ
updates_word = 32 ∷ 117 ∷ 112 ∷ 100 ∷ 97 ∷ 116 ∷ 101 ∷ 115 ∷ 32 ∷ []

-- ` forward `
abbrev pub forward_word : List ℕ
forward_word = 32 ∷ 102 ∷ 111 ∷ 114 ∷ 119 ∷ 97 ∷ 114 ∷ 100 ∷ 32 ∷ []

-- ` back `
abbrev pub back_word : List ℕ
back_word = 32 ∷ 98 ∷ 97 ∷ 99 ∷ 107 ∷ 32 ∷ []

-- ` faults `
abbrev pub faults_word : List ℕ
faults_word = 32 ∷ 102 ∷ 97 ∷ 117 ∷ 108 ∷ 116 ∷ 115 ∷ 32 ∷ []

-- ` largest `
abbrev pub largest_word : List ℕ
largest_word = 32 ∷ 108 ∷ 97 ∷ 114 ∷ 103 ∷ 101 ∷ 115 ∷ 116 ∷ 32 ∷ []

-- `total`
abbrev pub total_word : List ℕ
total_word = 116 ∷ 111 ∷ 116 ∷ 97 ∷ 108 ∷ []

-- ` refused 1`, to the line's end
abbrev pub refused_word : List ℕ
refused_word = 32 ∷ 114 ∷ 101 ∷ 102 ∷ 117 ∷ 115 ∷ 101 ∷ 100 ∷ 32 ∷ 49 ∷ 10 ∷ []

-- `ended `
abbrev pub ended_word : List ℕ
ended_word = 101 ∷ 110 ∷ 100 ∷ 101 ∷ 100 ∷ 32 ∷ []

-- a word, and a number after it
unfoldable pub named : List ℕ → ℕ → List ℕ
named word n = word ++ decimal n

-- the five figures, to the line's end: three, and two
unfoldable pub first_figures : Figures → List ℕ
first_figures f = named updates_word f.updates ++ (named forward_word f.forward ++ named back_word f.back)

unfoldable pub last_figures : Figures → List ℕ
last_figures f = named faults_word f.faults ++ (named largest_word f.largest ++ (10 ∷ []))

unfoldable pub figures_text : Figures → List ℕ
figures_text f = first_figures f ++ last_figures f

unfoldable pub table_line : ℕ → Figures → List ℕ
table_line position f = decimal position ++ figures_text f

unfoldable pub refused_line : ℕ → List ℕ
refused_line position = decimal position ++ refused_word

unfoldable pub ended_line : ℕ → List ℕ
ended_line position = named ended_word position ++ (10 ∷ [])

unfoldable pub total_line : Figures → List ℕ
total_line f = total_word ++ figures_text f
