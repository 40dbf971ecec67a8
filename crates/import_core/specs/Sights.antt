-- The values to which lines give numbers, by first sight: processes, and values whose words are cut.
use Rattle.std.specs.Prelude.{◌≡◌, ◌⊎◌, ◌<◌, ◌≤◌, ℕ, length, List, [], ◌∷◌, ◌++◌, Option, Some, None}
use Rattle.std.specs.List.{flat_map}
use Rattle.serde_json.specs.Data.{Data, Items, no_items, item}
use Rattle.bench_core.specs.NameList.{Texts}
use Rattle.log_core.specs.Events as log
use Rattle.payload_core.specs.Words.{longest_word}
use Rattle.import_core.specs.Seen.{said, with_text}
use Rattle.import_core.specs.Tables.{AllTables, IsSpellingOf, IsTextOf}

-- the later texts are the earlier ones and, if it isn't among them, a text of the value behind them
abbrev pub SeesPid : Texts → Data → Texts → Type 0
SeesPid earlier d later = (text : List ℕ) × IsTextOf d text × (later ≡ with_text earlier text)

-- so if the value's spelling is too long for a word; else the texts stay
abbrev pub SeesWord : Texts → Data → Texts → Type 0
SeesWord earlier d later = (spelling : List ℕ) × IsSpellingOf d spelling
    × (((longest_word < length spelling) × SeesPid earlier d later) ⊎ ((length spelling ≤ longest_word) × (later ≡ earlier)))

-- the values one after another lead from the earlier texts to the later ones
abbrev pub InTurn : (Texts → Data → Texts → Type 0) → Texts → List Data → Texts → Type 0
InTurn Sees earlier [] later = later ≡ earlier
InTurn Sees earlier (d ∷ ds) later = (between : Texts) × Sees earlier d between × InTurn Sees between ds later

-- the later tables number these processes, and of these values those whose words are cut, each behind those of the earlier tables and
-- by first sight
pub record SeesValues (earlier later : AllTables) (ps ws : List Data) : Type 0 where
  pub pids : InTurn SeesPid earlier.pids ps later.pids
  pub words : InTurn SeesWord earlier.longs ws later.longs

-- the processes that an event names but in rows, and those of listed rows among these values
abbrev pub own_pids : log.Event → List Data
own_pids (log.join tracked) = tracked.pid ∷ []
own_pids (log.update tracked) = tracked.pid ∷ []
own_pids (log.leave pid topic key) = pid ∷ []
own_pids (log.leave_all pid) = pid ∷ []
own_pids event = []

abbrev pub pid_if : Option log.Row → List Data
pid_if None = []
pid_if (Some row) = row.tracked.pid ∷ []

abbrev pub pids_among : Items → List Data
pids_among no_items = []
pids_among (item d ds) = pid_if (log.row_at d) ++ pids_among ds

abbrev pub row_pids : log.Event → List Data
row_pids (log.online rows) = pids_among rows
row_pids event = []

-- the processes that an event names: its own one first, then those of its rows
abbrev pub pids_in : log.Event → List Data
pids_in event = own_pids event ++ row_pids event

-- so of the values that become words
abbrev pub tracked_words : log.Tracked → List Data
tracked_words tracked = tracked.topic ∷ tracked.key ∷ tracked.meta ∷ []

abbrev pub own_words : log.Event → List Data
own_words (log.join tracked) = tracked_words tracked
own_words (log.update tracked) = tracked_words tracked
own_words (log.leave pid topic key) = topic ∷ key ∷ []
own_words event = []

abbrev pub words_if : Option log.Row → List Data
words_if None = []
words_if (Some row) = tracked_words row.tracked

abbrev pub words_among : Items → List Data
words_among no_items = []
words_among (item d ds) = words_if (log.row_at d) ++ words_among ds

abbrev pub row_words : log.Event → List Data
row_words (log.online rows) = words_among rows
row_words event = []

abbrev pub words_in : log.Event → List Data
words_in event = own_words event ++ row_words event

-- what the events on these lines name
abbrev pub pids_of : Option log.Line → List Data
pids_of None = []
pids_of (Some line) = pids_in line.event

abbrev pub words_of : Option log.Line → List Data
words_of None = []
words_of (Some line) = words_in line.event

abbrev pub pids_on : List (List ℕ) → List Data
pids_on lines = flat_map (λ line. pids_of (said line)) lines

abbrev pub words_on : List (List ℕ) → List Data
words_on lines = flat_map (λ line. words_of (said line)) lines
