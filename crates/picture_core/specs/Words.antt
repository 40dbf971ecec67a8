-- The words of a call, after its row.
use Rattle.std.specs.Prelude.{ℕ, List, [], ◌∷◌, ◌++◌, length, codes, decimal}
use Rattle.bench_core.specs.FaultText.{fault_text}
use Rattle.bench_core.specs.Machine.{Event, Machine}
use Rattle.bench_core.specs.NameList.{Texts}
use Rattle.bench_core.specs.declared.reply.Reply.{Reply}
use Rattle.bench_core.specs.declared.reply.Reply.TheVariants.{Taken, Undone, Refused}
use Rattle.diff_core.specs.Rows.{Row}
use Rattle.report_core.specs.ActRows.{joined_by, left_by}
use Rattle.report_core.specs.ActTexts.{act_text}
use Rattle.transcript_core.specs.Scripts.{call_line}

-- the words for a reply; a step that was taken has none, as its number stands elsewhere
abbrev pub reply_words : Reply → List ℕ
reply_words (Taken number) = []
reply_words (Undone number) = codes "  undone " ++ decimal number
reply_words (Refused fault) = codes "  no " ++ fault_text fault

-- the words for rows: one row by its topic and key, and more by how many they are
abbrev pub row_words : List ℕ → List Row → List ℕ
row_words sign [] = []
row_words sign (row ∷ []) = codes "  " ++ sign ++ row.topic ++ codes " " ++ row.key
row_words sign (row ∷ other ∷ rows) = codes "  " ++ sign ++ decimal (length (row ∷ other ∷ rows))

-- the call as a line of a script, its reply, and the rows that left and joined the online list of its node
unfoldable pub words_told : Texts → Texts → Event → List Row → List Row → List ℕ
words_told names consoles e left joined =
    call_line (record { nodes = names; consoles = consoles }) e.actor e.act ++ reply_words e.reply ++ row_words (codes "-") left ++
    row_words (codes "+") joined

abbrev pub words_of : Machine → Texts → Event → List ℕ
words_of asked consoles e = words_told asked.names consoles e (left_by asked e.actor e.act) (joined_by asked e.actor e.act)

-- the call as a line of a script, and what it printed
unfoldable pub title_told : Texts → Texts → Event → List ℕ → List ℕ
title_told names consoles e printed = call_line (record { nodes = names; consoles = consoles }) e.actor e.act ++ codes "\n" ++ printed

abbrev pub title_of : Machine → Texts → Event → List ℕ
title_of asked consoles e = title_told asked.names consoles e (act_text asked e.actor e.act)
