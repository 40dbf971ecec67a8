-- Where the bench and the real nodes part.
use Rattle.std.specs.Prelude.{◌≡◌, ℕ, ◌==◌, Bool, not, List, [], ◌∷◌, ◌++◌, if◌then◌else◌, count_by, length, map, codes, decimal}
use Rattle.bench_core.specs.Acts.{Do}
use Rattle.bench_core.specs.FaultText.{fault_text}
use Rattle.bench_core.specs.Limits.{Limits}
use Rattle.bench_core.specs.Machine.{Machine}
use Rattle.bench_core.specs.NameList.{Texts}
use Rattle.bench_core.specs.declared.reply.Reply.{Reply}
use Rattle.bench_core.specs.declared.reply.Reply.TheVariants.{Taken, Undone, Refused}
use Rattle.diff_core.specs.Rows.{Row}
use Rattle.report_core.specs.ActTexts.{reply_of}
use Rattle.report_core.specs.Rows.{change_lines, is_no_change, name_at}
use Rattle.report_core.specs.Shown.{rows_at}
use Rattle.listed_core.specs.Against.{AreOnly, unclocked}
use Rattle.import_core.specs.Imports.{IsImportOf}
use Rattle.import_core.specs.Notes.{Note}
use Rattle.import_core.specs.Tables.{AllTables}
use Rattle.import_report.specs.Events.{Asked, Playing, after_event, asked_by, ended, list, nothing, step}
use Rattle.import_report.specs.Names.{shown_names}
use Rattle.import_report.specs.Scripts.{in_order, opening}

-- `line L NODE`
unfoldable pub place_text : Texts → Note → List ℕ
place_text names note = codes "line " ++ decimal note.number ++ codes " " ++ name_at names note.logged.node

-- the text about a list: the rows that only the bench has, and those that only the real node listed; nothing if there are none
unfoldable pub list_text : Texts → Note → List Row → List Row → List ℕ
list_text names note ours theirs = if is_no_change ours theirs then [] else ended (place_text names note) ++ change_lines names ours theirs

-- a list compared with that of the bench: whether they agree, and the text about it
pub record IsListChecked (names : Texts) (note : Note) (bench : List Row) (agrees : Bool) (text : List ℕ) : Type 0 where
  pub ours : List Row
  pub theirs : List Row
  pub ours_are : AreOnly ours (map unclocked bench) (map unclocked note.rows)
  pub theirs_are : AreOnly theirs (map unclocked note.rows) (map unclocked bench)
  pub agrees_is : agrees ≡ is_no_change ours theirs
  pub text_is : text ≡ list_text names note ours theirs

-- the text about a step: its refusal, `line L NODE no NAME`; nothing if it isn't refused
unfoldable pub refusal_text : Texts → Note → Reply → List ℕ
refusal_text names note (Taken number) = []
refusal_text names note (Undone number) = []
refusal_text names note (Refused fault) = place_text names note ++ codes " no " ++ fault_text fault ++ codes "\n"

-- the text about an event that asks nothing: the message that it takes was not sent, or it is an extract of no names
unfoldable pub unsent_text : Texts → Note → List ℕ
unsent_text names note = place_text names note ++ codes " no message\n"

-- what an event asks of the bench, checked: whether lists agree, one result for each list, and the text about it
abbrev pub IsAskedChecked : Texts → Machine → Note → Asked → List Bool → List ℕ → Type 0
IsAskedChecked names m note list agreements text = (agrees : Bool) × (agreements ≡ agrees ∷ []) ×
    IsListChecked names note (rows_at m note.logged.node) agrees text
IsAskedChecked names m note nothing agreements text = (agreements ≡ []) × (text ≡ unsent_text names note)
IsAskedChecked names m note (step operation) agreements text = (agreements ≡ []) × (text ≡ refusal_text names note (reply_of m note.logged.node (Do operation)))

unfoldable pub IsEventChecked : Texts → Playing → Note → List Bool → List ℕ → Type 0
IsEventChecked names p note agreements text = IsAskedChecked names p.machine note (asked_by p.numbers note.step) agreements text

-- events checked one after another: whether lists agree, one result for each list, and the text about them
abbrev pub AreChecked : Texts → Playing → List Note → List Bool → List ℕ → Type 0
AreChecked names p [] agreements text = (agreements ≡ []) × (text ≡ [])
AreChecked names p (note ∷ notes) agreements text =
    (here : List Bool) × (later : List Bool) × (now : List ℕ) × (rest : List ℕ) × IsEventChecked names p note here now
    × AreChecked names (after_event p note) notes later rest × (agreements ≡ here ++ later) × (text ≡ now ++ rest)

-- `agree K of N`, for the lists
unfoldable pub agree_line : List Bool → List ℕ
agree_line agreements = codes "agree " ++ decimal (count_by (λ agrees. agrees) agreements) ++ codes " of " ++ decimal (length agreements) ++ codes "\n"

-- the text about the events of an input; the bench and the real nodes differ if it has more than its last line
pub record IsCheckOf (lenient : Bool) (limits : Limits) (bytes text : List ℕ) (differs : Bool) (left_out : List ℕ) : Type 0 where
  pub tables : AllTables
  pub notes : List Note
  pub order : List ℕ
  pub import : IsImportOf lenient bytes tables notes order left_out
  pub agreements : List Bool
  pub told : List ℕ
  pub checked : AreChecked (shown_names tables.nodes) (opening limits (shown_names tables.nodes) (length tables.messages))
      (in_order notes order) agreements told
  pub text_is : text ≡ told ++ agree_line agreements
  pub differs_is : differs ≡ not (length told == 0)
