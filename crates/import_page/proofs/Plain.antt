-- No `<` stands in what logs tell beside calls.
use Rattle.std.proofs.Common.{◌≡◌, ℕ, ◌+◌, Bool, List, [], ◌∷◌, ◌++◌, codes, decimal, Option, Some, None, refl, sym, ap, ◌∙◌, subst, length}
use Rattle.bench_core.specs.Limits.{Limits}
use Rattle.bench_core.specs.Machine.{Machine}
use Rattle.diff_core.specs.Rows.{Row}
use Rattle.import_core.specs.Notes.{Note}
use Rattle.import_core.specs.Tables.{AllTables}
use Rattle.import_report.specs.Events.{Asked, Playing, after_event, asked_by, list, nothing, step}
use Rattle.page_data.specs.Json.{comma_at, number_key, string_text, text_key}
use Rattle.page_data.specs.Laws.{IsPlain}
use Rattle.page_data.specs.PageData.{texts_text, word_text}
use Rattle.page_data.proofs.Plain.{two, three, four, five, number, string_plain, comma_plain, number_key_plain, texts_plain, text_key_plain, word_plain}
use Rattle.import_page.specs.Entries.{AreEntries, IsAskedTold, IsEntry, IsListTold, head_text, list_text, row_head, row_text, rows_text, time_key, unsent_text}
use Rattle.import_page.specs.Keys.{IsShownOf, PlainLaw, keys_text}

time_plain : (time : Option (List ℕ)) → IsPlain (time_key time)
time_plain None = refl
time_plain (Some time) = text_key_plain (codes "time") time refl

head_plain : (place n : ℕ) (time : Option (List ℕ)) → IsPlain (head_text place n time)
unfolding head_text
head_plain place n time =
    four (comma_at place) (codes "{\"line\":") (decimal n) (time_key time) (comma_plain place) refl (number n) (time_plain time)

row_head_plain : (name pid : ℕ) → IsPlain (row_head name pid)
unfolding row_head
row_head_plain name pid = five (codes "[") (decimal name) (codes ",\"") (decimal pid) (codes "\"") refl (number name) refl (number pid) refl

row_plain : (row : Row) → IsPlain (row_text row)
unfolding row_text
row_plain row =
    five (row_head row.name row.pid) (word_text row.topic) (word_text row.key) (word_text row.metadata) (codes "]") (row_head_plain row.name row.pid)
    (word_plain row.topic) (word_plain row.key) (word_plain row.metadata) refl

rows_plain : (place : ℕ) (rows : List Row) → IsPlain (rows_text place rows)
unfolding rows_text
rows_plain place [] = refl
rows_plain place (row ∷ rows) =
    three (comma_at place) (row_text row) (rows_text (place + 1) rows) (comma_plain place) (row_plain row) (rows_plain (place + 1) rows)

list_plain : (node : ℕ) (ours theirs : List Row) → IsPlain (list_text node ours theirs)
unfolding list_text
list_plain node ours theirs =
    two (number_key (codes "node") node ++ codes ",\"online\":[[" ++ rows_text 0 ours ++ codes "],[" ++ rows_text 0 theirs) (codes "]]")
    (five (number_key (codes "node") node) (codes ",\"online\":[[") (rows_text 0 ours) (codes "],[") (rows_text 0 theirs)
    (number_key_plain (codes "node") node refl) refl (rows_plain 0 ours) refl (rows_plain 0 theirs))
    refl

unsent_plain : (node : ℕ) → IsPlain (unsent_text node)
unfolding unsent_text
unsent_plain node = two (number_key (codes "node") node) (codes ",\"unsent\":true") (number_key_plain (codes "node") node refl) refl

asked_plain : (m : Machine) (note : Note) (a : Asked) (text : List ℕ) → IsAskedTold m note a text → IsPlain text
asked_plain m note list text is = subst IsPlain (sym is.text_is) (list_plain note.logged.node is.ours is.theirs)
asked_plain m note nothing text is = subst IsPlain (sym is) (unsent_plain note.logged.node)
asked_plain m note (step operation) text is = subst IsPlain (sym is) refl

entry_plain : (lines : List (List ℕ)) (p : Playing) (place : ℕ) (note : Note) (text : List ℕ) → IsEntry lines p place note text → IsPlain text
entry_plain lines p place note text is =
    subst IsPlain (sym is.text_is)
    (three (head_text place note.number is.time) is.told (codes "}") (head_plain place note.number is.time)
    (asked_plain p.machine note (asked_by p.numbers note.step) is.told is.told_is) refl)

entries_plain : (lines : List (List ℕ)) (p : Playing) (place : ℕ) (notes : List Note) (text : List ℕ) → AreEntries lines p place notes text → IsPlain text
entries_plain lines p place [] text are = subst IsPlain (sym are) refl
entries_plain lines p place (note ∷ notes) text (now, rest, is, are, joined) =
    subst IsPlain (sym joined) (two now rest (entry_plain lines p place note now is) (entries_plain lines (after_event p note) (place + 1) notes rest are))

text_plain : (t : AllTables) (entries : List ℕ) → IsPlain entries → IsPlain (keys_text t entries)
unfolding keys_text
text_plain t entries plain =
    let front = codes ",\"names\":[" ++ texts_text 0 t.nodes ++ codes "],\"pids\":[" ++ texts_text 0 t.pids ++ codes "],\"cut\":[" in
    five front (texts_text 0 t.longs) (codes "],\"events\":[") entries (codes "]")
    (five (codes ",\"names\":[") (texts_text 0 t.nodes) (codes "],\"pids\":[") (texts_text 0 t.pids) (codes "],\"cut\":[") refl (texts_plain 0 t.nodes) refl
    (texts_plain 0 t.pids) refl)
    (texts_plain 0 t.longs) refl plain refl

pub keys_plain : PlainLaw
keys_plain lenient limits bytes bench keys left_out is =
    subst IsPlain (sym is.keys_are) (text_plain is.tables is.entries (entries_plain _ _ 0 _ is.entries is.told))
