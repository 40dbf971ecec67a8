-- What a prompt prints for each line.
use Rattle.std.specs.Prelude.{ℕ, ◌+◌, ◌==◌, ◌&&◌, nat_le, nat_lt, length, Bool, true, false, List, [], ◌∷◌, ◌++◌, codes, decimal, if◌then◌else◌, Option, Some, None, Result, Ok, Err}
use Rattle.std.specs.List.{list_all}
use Rattle.std.specs.Str.{bytes_eq}
use Rattle.serde_json.specs.Written.{compact_text}
use Rattle.payload_core.specs.Words.{is_word}
use Rattle.bench_core.specs.Machine.{Machine}
use Rattle.bench_core.specs.NameList.{Texts, number_in}
use Rattle.run_core.specs.Prompts.{Prompt, taken}
use Rattle.grammar_core.specs.Casts.{Cast}
use Rattle.grammar_core.specs.Words.{words_of}
use Rattle.grammar_core.specs.declared.fault.FaultKind.{FaultKind}
use Rattle.grammar_core.specs.declared.fault.FaultKind.TheVariants.{NotText, TooLong, NoNodes, Twice, UnknownWord, WrongCount, NotAllowed, BadNumber}
use Rattle.grammar_core.specs.declared.fault.FaultKind.TheVariants.{BadName, OutOfMemory}
use Rattle.grammar_core.specs.Grammar.{longest_line, longest_script}
use Rattle.recording_core.specs.Format.{session}
use Rattle.explain_core.specs.Explanations.{explanation}
use Rattle.whatif_report.specs.Texts.{whatif_text}
use Rattle.picture_core.specs.Views.{whole_picture}
use Rattle.transcript_core.specs.Scripts.{cast_of, script_text}
use Rattle.transcript_core.specs.Steps.{bench_steps}
use Rattle.prompt_core.specs.Sent.{sent_text}

unfoldable pub kind_name : FaultKind → List ℕ
kind_name NotText = codes "NotText"
kind_name TooLong = codes "TooLong"
kind_name NoNodes = codes "NoNodes"
kind_name Twice = codes "Twice"
kind_name UnknownWord = codes "UnknownWord"
kind_name WrongCount = codes "WrongCount"
kind_name NotAllowed = codes "NotAllowed"
kind_name BadNumber = codes "BadNumber"
kind_name BadName = codes "BadName"
kind_name OutOfMemory = codes "OutOfMemory"

unfoldable pub fault_line : ℕ → FaultKind → List ℕ
fault_line number kind = codes "line " ++ decimal number ++ codes ": " ++ kind_name kind ++ codes "\n"

-- the session so far, once the nodes are named
abbrev pub saved : ℕ → Option Machine → List ℕ
saved number None = fault_line number NoNodes
saved number (Some m) = compact_text (session 2 m.names m.limits m.state.history) ++ codes "\n"

-- the explanation of a topic and key at a node; or the fault, if there is no node of that name, or if the topic or the key is no word
abbrev pub explained_at : ℕ → Machine → Option ℕ → List ℕ → List ℕ → List ℕ
explained_at number m None topic key = fault_line number BadName
explained_at number m (Some node) topic key =
    if is_word topic && is_word key then explanation m node topic key else fault_line number TooLong

-- what the words after `:explain` ask for, once the nodes are named
unfoldable pub explained : ℕ → Option Machine → Texts → List ℕ
explained number None words = fault_line number NoNodes
explained number (Some m) (node ∷ topic ∷ key ∷ []) = explained_at number m (number_in m.names node) topic key
explained number (Some m) words = fault_line number WrongCount

-- what would have made a difference to a topic and key at a node; or the fault, if there is no node of that name, or if the topic or the
-- key is no word
abbrev pub changes_at : ℕ → Machine → Option ℕ → List ℕ → List ℕ → List ℕ
changes_at number m None topic key = fault_line number BadName
changes_at number m (Some node) topic key =
    if is_word topic && is_word key then whatif_text m (record { node = node; topic = topic; key = key }) else fault_line number TooLong

-- what the words after `:whatif` ask for, once the nodes are named
unfoldable pub changes : ℕ → Option Machine → Texts → List ℕ
changes number None words = fault_line number NoNodes
changes number (Some m) (node ∷ topic ∷ key ∷ []) = changes_at number m (number_in m.names node) topic key
changes number (Some m) words = fault_line number WrongCount

-- a text of the bench and the names of its consoles, once the nodes are named; before that the fault
abbrev pub told_by : (Machine → Texts → List ℕ) → ℕ → Option Cast → Option Machine → List ℕ
told_by text number None machine = fault_line number NoNodes
told_by text number (Some cast) None = fault_line number NoNodes
told_by text number (Some cast) (Some m) = text m cast.consoles

-- the picture of the run
abbrev pub drawn : ℕ → Option Cast → Option Machine → List ℕ
drawn number cast machine = told_by (λ m consoles. whole_picture m consoles ++ codes "\n") number cast machine

-- the recorded calls, each above what it printed
abbrev pub told_steps : ℕ → Option Cast → Option Machine → List ℕ
told_steps number cast machine = told_by bench_steps number cast machine

-- a script, unless it is longer than a script may be
abbrev pub script_within : ℕ → List ℕ → List ℕ
script_within number text = if nat_lt longest_script (length text) then fault_line number TooLong else text

-- the recorded calls as a script
abbrev pub told_script : ℕ → Option Cast → Option Machine → List ℕ
told_script number cast machine =
    told_by (λ m consoles. script_within number (script_text (cast_of m consoles) m.state.history)) number cast machine

-- what a node has sent, or what is wrong with its name
abbrev pub sent_at : ℕ → Machine → Option ℕ → List ℕ
sent_at number m None = fault_line number BadName
sent_at number m (Some node) = sent_text m node

-- what the word after `:sent` asks for, once the nodes are named
unfoldable pub told_sent : ℕ → Option Machine → Texts → List ℕ
told_sent number None words = fault_line number NoNodes
told_sent number (Some m) (node ∷ []) = sent_at number m (number_in m.names node)
told_sent number (Some m) words = fault_line number WrongCount

-- the text of a word of the prompt's own, if nothing follows the word; else the fault
abbrev pub alone : ℕ → Texts → List ℕ → List ℕ
alone number [] text = text
alone number (word ∷ words) text = fault_line number WrongCount

-- what a line of these words prints, if the first is `:draw`, `:steps`, `:script` or `:sent`; else the line's fault
unfoldable pub run_word : Prompt → ℕ → FaultKind → List ℕ → Texts → List ℕ
run_word prompt number kind first words =
    if bytes_eq first (codes ":draw") then alone number words (drawn number prompt.cast prompt.machine)
    else (if bytes_eq first (codes ":steps") then alone number words (told_steps number prompt.cast prompt.machine)
    else (if bytes_eq first (codes ":script") then alone number words (told_script number prompt.cast prompt.machine)
    else (if bytes_eq first (codes ":sent") then told_sent number prompt.machine words
    else fault_line number kind)))

-- the response to these words, which have this fault in a script: what the first word asks, if it is one of the prompt's own; else the
-- fault
unfoldable pub worded : List ℕ → Prompt → ℕ → FaultKind → Texts → List ℕ
worded help prompt number kind [] = fault_line number kind
worded help prompt number kind (first ∷ words) =
    if bytes_eq first (codes ":help") then alone number words (help ++ codes "\n")
    else (if bytes_eq first (codes ":quit") then alone number words []
    else (if bytes_eq first (codes ":save") then alone number words (saved number prompt.machine)
    else (if bytes_eq first (codes ":explain") then explained number prompt.machine words
    else (if bytes_eq first (codes ":whatif") then changes number prompt.machine words
    else run_word prompt number kind first words))))

-- whether a line of the prompt's own may have this fault in a script
abbrev pub may_be_own : FaultKind → Bool
may_be_own UnknownWord = true
may_be_own NoNodes = true
may_be_own _ = false

-- the response to a line that has this fault in a script: to one of the prompt's own lines what it asks, to any other the fault
unfoldable pub own_response : List ℕ → Prompt → ℕ → List ℕ → FaultKind → List ℕ
own_response help prompt number line kind =
    if may_be_own kind then worded help prompt number kind (words_of line) else fault_line number kind

abbrev pub response_by : List ℕ → Prompt → ℕ → List ℕ → Result (Prompt × List ℕ) FaultKind → Prompt × List ℕ
response_by help prompt number line (Ok next) = next
response_by help prompt number line (Err kind) = (prompt, own_response help prompt number line kind)

-- the prompt after a line, and the response: what the line prints as a line of a script; or else `own_response`, and the prompt stays
unfoldable pub response : List ℕ → Prompt → ℕ → List ℕ → Prompt × List ℕ
response help prompt number line = response_by help prompt number line (taken prompt [] line)

-- whether each of these words is `:quit`
abbrev pub are_quits : Texts → Bool
are_quits words = list_all (λ word. bytes_eq word (codes ":quit")) words

-- whether the line ends the prompt: it has one word, which is `:quit`, and is no longer than a line may be
unfoldable pub is_quit : List ℕ → Bool
is_quit line = nat_le (length line) longest_line && (are_quits (words_of line) && (length (words_of line) == 1))

-- the responses to the lines from this number on, in order, up to the one that ends the prompt
unfoldable pub responses : List ℕ → Prompt → ℕ → List (List ℕ) → List ℕ
responses help prompt number [] = []
responses help prompt number (line ∷ lines) =
    if is_quit line then []
    else (response help prompt number line).1 ++ responses help (response help prompt number line).0 (number + 1) lines
