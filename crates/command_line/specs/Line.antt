-- What the command line takes, and what words choose.
use Rattle.std.specs.Prelude.{◌≡◌, ◌≢◌, ◌⊎◌, ◌<◌, ◌^◌, ℕ, Bool, List, [], ◌∷◌, ◌++◌, codes, false, true, not, ⊤, Option, Some, None, IfSome, unwrap_or}
use Rattle.std.specs.Str.Parse.{IsNumeral, digits_value, without_leading_plus}
use Rattle.clap.specs.declared.builder.arg.Arg.{Arg}
use Rattle.clap.specs.declared.builder.command.Command.{Command}
use Rattle.clap.specs.declared.Command.TheViews.{out-Command as fields_of}
use Rattle.clap.specs.Words.{app_of, rule_of, App, IsAmong, Row, Rule, fault_of, first_of, new_app, new_rule, with_rule, with_subcommand, subcommand_of}
use Rattle.command_line.specs.declared.chosen.Form.{Form}
use Rattle.command_line.specs.declared.chosen.Form.TheVariants.{Report, Steps, Script, Session, Page as PageForm}
use Rattle.command_line.specs.declared.chosen.Subcommand.{Subcommand}
use Rattle.command_line.specs.declared.chosen.Subcommand.TheVariants.{Play, Race, Load, Import, Explore, Step, Draw, Page, Explain, Whatif}
use Rattle.command_line.specs.declared.chosen.Question.{Question}
use Rattle.command_line.specs.declared.chosen.Choice.{Choice}
use Rattle.command_line.specs.declared.chosen.Options.{Options}
use Rattle.command_line.specs.declared.chosen.About.{About}
use Rattle.command_line.specs.declared.chosen.About.TheVariants.{Cluster, Node, Presence}
use Rattle.clap.specs.declared.builder.action.ArgAction.TheVariants.{SetTrue}
use Rattle.clap.specs.declared.error.kind.ErrorKind.{ErrorKind}
use Rattle.clap.specs.declared.error.kind.ErrorKind.TheVariants.{InvalidValue, MissingSubcommand, OutOfMemory}

-- the option or word has this rule, and is of its own subcommand alone
abbrev pub HasRule : Rule → Arg → Type 0
HasRule rule arg = (rule_of arg ≡ rule) × (arg.global ≡ false)

-- the command has this shape, and all its options and words are its own
abbrev pub HasShape : App → Command → Type 0
HasShape app command = (app_of command ≡ app) × ((fields_of command).has_globals ≡ false)

-- the option that names a form
abbrev pub as_rule : Rule
as_rule = record (new_rule (codes "as")) { long = Some (codes "as"); value_names = 1 }

-- an option without a value
abbrev pub flag_rule : List ℕ → Rule
flag_rule name = record (new_rule name) { long = Some name; action = Some SetTrue }

-- a subcommand of this name with the option of a form, and `--strict`
abbrev pub strict_app : List ℕ → App
strict_app name = with_rule (with_rule (new_app name) as_rule) (flag_rule (codes "strict"))

abbrev pub play_app : App
play_app = strict_app (codes "play")

abbrev pub race_app : App
race_app = with_rule (new_app (codes "race")) as_rule

abbrev pub load_app : App
load_app = strict_app (codes "load")

-- an option that takes a number
abbrev pub number_rule : List ℕ → Rule
number_rule name = record (new_rule name) { long = Some name; value_names = 1 }

abbrev pub step_app : App
step_app = new_app (codes "step")

abbrev pub import_app : App
import_app =
    with_rule (with_rule (with_rule (with_rule (new_app (codes "import")) as_rule) (flag_rule (codes "check"))) (flag_rule (codes "lines")))
    (flag_rule (codes "lenient"))

-- a word that must stand at its place
abbrev pub word_rule : List ℕ → Rule
word_rule name = record (new_rule name) { required = true }

-- a subcommand of this name that takes a node, a topic and a key
abbrev pub question_app : List ℕ → App
question_app name = with_rule (with_rule (with_rule (new_app name) (word_rule (codes "NODE"))) (word_rule (codes "TOPIC"))) (word_rule (codes "KEY"))

-- a word that may be left out
abbrev pub optional_rule : List ℕ → Rule
optional_rule name = new_rule name

-- a subcommand of this name that takes a node, a topic and a key, each of which may be left out
abbrev pub about_app : List ℕ → App
about_app name =
    with_rule (with_rule (with_rule (new_app name) (optional_rule (codes "NODE"))) (optional_rule (codes "TOPIC"))) (optional_rule (codes "KEY"))

abbrev pub explore_app : App
explore_app =
    with_rule (with_rule (with_rule (with_rule (about_app (codes "explore")) (number_rule (codes "lost"))) (number_rule (codes "again")))
    (number_rule (codes "states"))) (number_rule (codes "script"))

abbrev pub draw_app : App
draw_app = with_rule (with_rule (with_rule (about_app (codes "draw")) (number_rule (codes "why"))) (number_rule (codes "from"))) (number_rule (codes "to"))

abbrev pub page_app : App
page_app = new_app (codes "page")

abbrev pub explain_app : App
explain_app = question_app (codes "explain")

abbrev pub whatif_app : App
whatif_app = with_rule (question_app (codes "whatif")) (number_rule (codes "script"))

-- the command line without its subcommands
abbrev pub bare_app : App
bare_app =
    let new = new_app (codes "presence_bench") in
    record new { top = record new.top { has_version = true; no_binary_name = true; subcommand_required = true } }

abbrev pub app : App
app =
    let older = with_subcommand (with_subcommand (with_subcommand (with_subcommand bare_app play_app.top) race_app.top) load_app.top) explore_app.top in
    let drawn = with_subcommand (with_subcommand (with_subcommand older step_app.top) draw_app.top) page_app.top in
    with_subcommand (with_subcommand (with_subcommand drawn explain_app.top) whatif_app.top) import_app.top

abbrev pub name_of : Subcommand → List ℕ
name_of (Play strict) = codes "play"
name_of Race = codes "race"
name_of (Load strict) = codes "load"
name_of (Import wanted) = codes "import"
name_of (Explore wanted) = codes "explore"
name_of Step = codes "step"
name_of (Draw drawing) = codes "draw"
name_of Page = codes "page"
name_of (Explain question) = codes "explain"
name_of (Whatif wanted) = codes "whatif"

abbrev pub form_name : Form → List ℕ
form_name Report = codes "report"
form_name Steps = codes "steps"
form_name Script = codes "script"
form_name Session = codes "session"
form_name PageForm = codes "page"

-- the form in which a subcommand prints if none is named
abbrev pub usual_form : Subcommand → Form
usual_form (Import wanted) = Script
usual_form command = Report

-- the form that a value names; without a value it is the usual one
abbrev pub IsForm : Form → Option (List ℕ) → Form → Type 0
IsForm usual None form = form ≡ usual
IsForm usual (Some name) form = name ≡ form_name form

-- the number that a value spells in decimal, with or without a plus before it, and below 2^64; without a value there is none
abbrev pub IsNumber : Option (List ℕ) → Option ℕ → Type 0
IsNumber None number = number ≡ None
IsNumber (Some digits) number =
    let ds = without_leading_plus digits in IsNumeral 10 ds × (digits_value 10 ds < 2 ^ 64) × (number ≡ Some (digits_value 10 ds))

-- whether an option that takes no value was entered: it was if and only if the value found for it is `true`
abbrev pub IsFlag : Option (List ℕ) → Bool → Type 0
IsFlag value false = value ≢ Some (codes "true")
IsFlag value true = value ≡ Some (codes "true")

-- the options are those that the entered values give, each found by its name
pub record AreOptions (values : List ℕ → Option (List ℕ)) (options : Options) : Type 0 where
  pub strict : IsFlag (values (codes "strict")) options.strict
  pub why : IsNumber (values (codes "why")) options.why
  pub from : IsNumber (values (codes "from")) options.from
  pub to : IsNumber (values (codes "to")) options.to
  pub lost : IsNumber (values (codes "lost")) options.lost
  pub again : IsNumber (values (codes "again")) options.again
  pub states : IsNumber (values (codes "states")) options.states
  pub script : IsNumber (values (codes "script")) options.script
  pub check : IsFlag (values (codes "check")) options.check
  pub lines : IsFlag (values (codes "lines")) options.lines
  pub lenient : IsFlag (values (codes "lenient")) options.lenient

-- the question has the words entered as node, topic and key
pub record IsQuestion (values : List ℕ → Option (List ℕ)) (question : Question) : Type 0 where
  pub node : values (codes "NODE") ≡ Some question.node.now
  pub topic : values (codes "TOPIC") ≡ Some question.topic.now
  pub key : values (codes "KEY") ≡ Some question.key.now

-- what the words ask about: the cluster if there is no node, a node if there is no topic, or a topic and a key at a node
abbrev pub IsAbout : (List ℕ → Option (List ℕ)) → About → Type 0
IsAbout values Cluster = values (codes "NODE") ≡ None
IsAbout values (Node name) = (values (codes "NODE") ≡ Some name.now) × (values (codes "TOPIC") ≡ None)
IsAbout values (Presence question) = IsQuestion values question

-- the presences for which a picture's lanes are thick: none if the words ask about the cluster, those that they ask about if they name a
-- node, a topic and a key; there is no picture for other words
abbrev pub IsOnline : Option About → Option Question → Type 0
IsOnline (Some Cluster) online = online ≡ None
IsOnline (Some (Presence question)) online = online ≡ Some question
IsOnline (Some (Node name)) online = ⊥
IsOnline None online = ⊥

-- the words ask neither about the cluster nor about presences: they name a node alone, or a topic without a key
abbrev pub AsksOtherwise : Option About → Type 0
AsksOtherwise (Some Cluster) = ⊥
AsksOtherwise (Some (Presence question)) = ⊥
AsksOtherwise (Some (Node name)) = ⊤
AsksOtherwise None = ⊤

-- the subcommand has the options and words that it takes; without `--states` 100,000 states may be kept, and without `--lost` and
-- `--again` no delivery is lost or comes again
abbrev pub Takes : Options → Option Question → Option About → Subcommand → Type 0
Takes options question about (Draw drawing) =
    IsOnline about drawing.online × (drawing.why ≡ options.why) × (drawing.from ≡ options.from) × (drawing.to ≡ options.to)
Takes options question about Page = ⊤
Takes options question about (Explore wanted) =
    (about ≡ Some wanted.about) × (wanted.lost ≡ unwrap_or options.lost 0) × (wanted.again ≡ unwrap_or options.again 0) ×
    (wanted.states ≡ unwrap_or options.states 100000) × (wanted.outcome ≡ options.script)
Takes options question about (Play strict) = strict ≡ options.strict
Takes options question about Race = ⊤
Takes options question about (Load strict) = strict ≡ options.strict
Takes options question about (Import wanted) =
    (wanted.check ≡ options.check) × (wanted.lines ≡ options.lines) × (wanted.lenient ≡ options.lenient)
Takes options question about Step = ⊤
Takes options question about (Explain asked) = question ≡ Some asked
Takes options question about (Whatif wanted) = (question ≡ Some wanted.question) × (wanted.change ≡ options.script)

abbrev pub is_script : Form → Bool
is_script Script = true
is_script form = false

abbrev pub is_page : Form → Bool
is_page PageForm = true
is_page form = false

abbrev pub race_prints : Form → Bool
race_prints Report = true
race_prints Session = true
race_prints form = false

-- whether an import can be asked for this form: a script always, a session or a page unless it checks
abbrev pub import_prints : Bool → Form → Bool
import_prints check Session = not check
import_prints check PageForm = not check
import_prints check form = is_script form

-- whether the subcommand can be asked for this form: a race for a report or a session, an import for those that `import_prints` has, and
-- all others for any form but a page
abbrev pub can_print : Subcommand → Form → Bool
can_print (Import wanted) form = import_prints wanted.check form
can_print Race form = race_prints form
can_print command form = not (is_page form)

-- the choice's subcommand has this name, and its options and words give the form, which it can print, and the rest
pub record IsChoiceOf (name : List ℕ) (values : List ℕ → Option (List ℕ)) (choice : Choice) : Type 0 where
  pub name_is : name ≡ name_of choice.command
  pub form : IsForm (usual_form choice.command) (values (codes "as")) choice.form
  pub options : Options
  pub options_are : AreOptions values options
  pub question : Option Question
  pub question_is : IfSome question (IsQuestion values)
  pub about : Option About
  pub about_is : IfSome about (IsAbout values)
  pub takes : Takes options question about choice.command
  pub printed : can_print choice.command choice.form ≡ true

-- the words that the subcommand needs aren't there; or, for a picture, they ask about something else than it shows
abbrev pub Lacks : Option Question → Option About → Subcommand → Type 0
Lacks question about (Explain asked) = question ≡ None
Lacks question about (Whatif wanted) = question ≡ None
Lacks question about (Explore wanted) = about ≡ None
Lacks question about (Play strict) = ⊥
Lacks question about Race = ⊥
Lacks question about (Load strict) = ⊥
Lacks question about (Import wanted) = ⊥
Lacks question about Step = ⊥
Lacks question about (Draw drawing) = AsksOtherwise about
Lacks question about Page = ⊥

-- each subcommand that has this name lacks the words that it needs
abbrev pub IsUnnamed : List ℕ → Option Question → Option About → Type 0
IsUnnamed name question about = (command : Subcommand) → name ≡ name_of command → Lacks question about command

-- the words spell a choice: that of the subcommand which the command line finds in them, with its options
pub record Spells (words : List (List ℕ)) (choice : Choice) : Type 0 where
  pub name : List ℕ
  pub rows : List Row
  pub command : subcommand_of app words ≡ Some (name, rows)
  pub chosen : IsChoiceOf name (λ option. first_of option rows) choice

-- the fault is that a value is invalid, or that there is no subcommand
abbrev pub IsUnchosen : ErrorKind → Type 0
IsUnchosen kind = (kind ≡ InvalidValue) ⊎ (kind ≡ MissingSubcommand)

-- why the words give no choice, by this kind of fault: memory was refused; or the command line finds this fault in them, perhaps a request
-- for help; or a value is invalid or there is no subcommand, and the words spell no choice
abbrev pub Misspells : List (List ℕ) → ErrorKind → Type 0
Misspells words kind =
    (kind ≡ OutOfMemory) ⊎ (IsAmong kind (fault_of app words) ⊎ (IsUnchosen kind × ((choice : Choice) → ¬ Spells words choice)))

-- the last word is `-`, and those before it spell the choice
abbrev pub SpellsBefore : List (List ℕ) → Choice → Type 0
SpellsBefore words choice = (before : List (List ℕ)) × (words ≡ before ++ codes "-" ∷ []) × Spells before choice

-- if the last word is `-`, those before it give no choice, by a fault other than want of memory
abbrev pub NeedsLast : List (List ℕ) → Type 0
NeedsLast words = (before : List (List ℕ)) → words ≡ before ++ codes "-" ∷ [] →
    (kind : ErrorKind) × (kind ≢ OutOfMemory) × Misspells before kind

-- the words choose this: those before a last `-` spell it, and `-` stands for standard input; or all of them spell it, and if the last is
-- `-`, those before it give no choice
abbrev pub Chooses : List (List ℕ) → Choice → Type 0
Chooses words choice = SpellsBefore words choice ⊎ (NeedsLast words × Spells words choice)

-- the words are refused with this kind of fault
abbrev pub IsRefusal : List (List ℕ) → ErrorKind → Type 0
IsRefusal words kind = (kind ≡ OutOfMemory) ⊎ (NeedsLast words × Misspells words kind)
