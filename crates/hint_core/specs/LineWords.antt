-- The words of the line that was refused, and what the lines before it name.
use Rattle.std.specs.Prelude.{ℕ, Bool, false, ◌&&◌, ◌||◌, List, [], ◌∷◌, ◌++◌, take, codes, slice_get, unwrap_or, if◌then◌else◌}
use Rattle.std.specs.List.{list_any}
use Rattle.std.specs.Str.{bytes_eq}
use Rattle.bench_core.specs.NameList.{Texts}
use Rattle.grammar_core.specs.Words.{is_text, words_of}

-- the words of a line that are looked at: the first 34, as a line without a fault has no more unless it is a comment; none if the line
-- isn't text
abbrev pub few_words : List ℕ → Texts
few_words line = if is_text line then take 34 (words_of line) else []

-- the word at a place, counted from 0; an empty word if there is none
abbrev pub word_at : Texts → ℕ → List ℕ
word_at words place = unwrap_or (slice_get words place) []

-- whether a line begins with the keyword, and then has the word
abbrev pub names_among : List ℕ → List ℕ → Texts → Bool
names_among keyword word [] = false
names_among keyword word (first ∷ rest) = bytes_eq first keyword && list_any (bytes_eq word) rest

unfoldable pub names : List ℕ → List ℕ → List ℕ → Bool
names keyword word line = names_among keyword word (few_words line)

unfoldable pub begins : List ℕ → List ℕ → Bool
begins keyword line = bytes_eq (word_at (few_words line) 0) keyword

-- whether one of these lines begins with the keyword
abbrev pub is_begun : List ℕ → Texts → Bool
is_begun keyword lines = list_any (begins keyword) lines

-- whether one of these lines names a node by this word
abbrev pub is_node : Texts → List ℕ → Bool
is_node lines word = list_any (names (codes "nodes") word) lines

-- whether one of these lines names a console by this word
abbrev pub is_console : Texts → List ℕ → Bool
is_console lines word = list_any (names (codes "consoles") word) lines

-- the first of these words that names a node in the lines, or that stands before, in `before` or among these words; else an empty word
unfoldable pub first_again : Texts → Texts → Texts → List ℕ
first_again lines before [] = []
first_again lines before (word ∷ words) =
    if is_node lines word || list_any (bytes_eq word) before then word else first_again lines (before ++ word ∷ []) words
