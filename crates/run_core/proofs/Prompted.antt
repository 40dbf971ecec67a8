-- A prompt prints what a script prints.
use Rattle.std.proofs.Common.{◌≡◌, ℕ, ◌+◌, ◌==◌, ◌||◌, nat_lt, Bool, true, false, not, if◌then◌else◌, List, [], ◌∷◌, ◌++◌, length}
use Rattle.std.proofs.Common.{slice_index, codes, Option, Some, None, Result, Ok, Err, refl, sym, ap, ap₂, ◌∙◌, subst, append_assoc, append-nil}
use Rattle.std.specs.Str.{bytes_eq}
use Rattle.payload_core.specs.Results.{◌>>=◌}
use Rattle.bench_core.specs.Limits.{Limits}
use Rattle.bench_core.specs.Machine.{Machine, opening_machine}
use Rattle.bench_core.specs.NameList.{Texts}
use Rattle.grammar_core.specs.declared.fault.FaultKind.{FaultKind}
use Rattle.grammar_core.specs.declared.fault.FaultKind.TheVariants.{NotText, TooLong, Twice, WrongCount}
use Rattle.grammar_core.specs.declared.fault.ScriptFault.{ScriptFault}
use Rattle.grammar_core.specs.Casts.{Cast}
use Rattle.grammar_core.specs.Scripts.{Command, Line, Script}
use Rattle.grammar_core.specs.Words.{lines_of, words_of, is_text}
use Rattle.grammar_core.specs.Grammar.{Reading, opening, with_consoles, with_each, keyword_of, command_by, with_words_by, with_words, with_line, with_lines, at_line}
use Rattle.grammar_core.specs.Grammar.{finished, script_of}
use Rattle.run_core.specs.Report.{after_command, after_commands, command_text, commands_of, commands_text, played, report_of}
use Rattle.run_core.specs.Prompts.{Prompt, PromptLaw, all_taken, carried_out, new_prompt, taken}

-- commands and more commands

after_more : (m : Machine) (cs ds : List Command) → after_commands m (cs ++ ds) ≡ after_commands (after_commands m cs) ds
unfolding after_commands
after_more m [] ds = refl
after_more m (c ∷ cs) ds = after_more (after_command m c) cs ds

text_more : (m : Machine) (cs ds : List Command) → commands_text m (cs ++ ds) ≡ commands_text m cs ++ commands_text (after_commands m cs) ds
unfolding commands_text after_commands
text_more m [] ds = refl
text_more m (c ∷ cs) ds =
    ap (λ t. command_text m c ++ t) (text_more (after_command m c) cs ds)
    ∙ sym (append_assoc (command_text m c) (commands_text (after_command m c) cs) (commands_text (after_commands (after_command m c) cs) ds))

of_lines : (ls ms : List Line) → commands_of (ls ++ ms) ≡ commands_of ls ++ commands_of ms
of_lines [] ms = refl
of_lines (l ∷ ls) ms = ap (λ cs. l.command ∷ cs) (of_lines ls ms)

-- the prompt, and what it printed, once so much of a script was read

abbrev script_so_far : Cast → List Line → Script
script_so_far cast lines = record { cast = cast; lines = lines }

abbrev machine_so_far : Limits → Option Cast → List Line → Option Machine
machine_so_far limits None lines = None
machine_so_far limits (Some cast) lines = Some (played limits (script_so_far cast lines))

abbrev text_so_far : Limits → Option Cast → List Line → List ℕ
text_so_far limits None lines = []
text_so_far limits (Some cast) lines = report_of limits (script_so_far cast lines)

abbrev so_far : Limits → Option Cast → List Line → Prompt × List ℕ
so_far limits cast lines =
    (record { limits = limits; cast = cast; machine = machine_so_far limits cast lines }, text_so_far limits cast lines)

-- nothing was read before the nodes were named
abbrev Begins : Option Cast → List Line → Type 0
Begins cast lines = cast ≡ None → lines ≡ []

-- what is carried out of a line leaves the prompt after so much more was read
abbrev Follows : Limits → Option Cast → List Line → Result Reading FaultKind → Reading → Type 0
Follows limits cast lines read next =
    (carried_out (so_far limits cast lines).0 (so_far limits cast lines).1 read ≡ Ok (so_far limits next.cast next.lines)) ×
    Begins next.cast next.lines

-- a line that changes nothing
idle : (limits : Limits) (cast : Option Cast) (lines : List Line) →
    carried_out (so_far limits cast lines).0 (so_far limits cast lines).1 (Ok (record { cast = cast; lines = [] })) ≡ Ok (so_far limits cast lines)
unfolding after_commands commands_text
idle limits None lines = refl
idle limits (Some cast) lines =
    ap (λ (t : List ℕ). Ok (record { limits = limits; cast = Some cast; machine = machine_so_far limits (Some cast) lines }, t))
    (append-nil (report_of limits (script_so_far cast lines)))

quiet : (limits : Limits) (reading next : Reading) → Begins reading.cast reading.lines → reading ≡ next →
    Follows limits reading.cast reading.lines (Ok (record { cast = reading.cast; lines = [] })) next
quiet limits reading next begins same =
    let P : Reading → Type 0 = λ r. Follows limits reading.cast reading.lines (Ok (record { cast = reading.cast; lines = [] })) r in
    subst P same (idle limits reading.cast reading.lines, begins)

-- the nodes are named
begun : (limits : Limits) (cast : Cast) (lines : List Line) →
    carried_out (so_far limits None lines).0 (so_far limits None lines).1 (Ok (record { cast = Some cast; lines = [] })) ≡ Ok (so_far limits (Some cast) [])
unfolding played report_of after_commands commands_text
begun limits cast lines = refl

opens : (limits : Limits) (lines : List Line) (r : Result Cast FaultKind) (next : Reading) → lines ≡ []
    → (r >>= λ cast. Ok (record { cast = Some cast; lines = lines })) ≡ Ok next
    → Follows limits None lines (r >>= λ cast. Ok (record { cast = Some cast; lines = [] })) next
opens limits lines (Err kind) next none is = absurd (cc)
opens limits lines (Ok cast) next none is =
    let whole : record { cast = Some cast; lines = [] } ≡ next = cc in
    let P : Reading → Type 0 = λ r. Follows limits None lines (Ok (record { cast = Some cast; lines = [] })) r in
    subst P whole (begun limits cast lines, λ e. refl)

-- consoles are no nodes
same_nodes : (cast next : Cast) (names : Texts) → with_consoles cast names ≡ Ok next → next.nodes ≡ cast.nodes
unfolding with_consoles
same_nodes cast next names is =
    go (not (length cast.consoles == 0)) ((length names == 0) || nat_lt 16 (length names)) (with_each cast.nodes cast.consoles names) is
  where
    go : (a b : Bool) (r : Result Texts FaultKind) →
        (if a then Err Twice else (if b then Err WrongCount
        else (r >>= λ consoles. Ok (record { nodes = cast.nodes; consoles = consoles })))) ≡ Ok next → next.nodes ≡ cast.nodes
    go true b r is = absurd (cc)
    go false true r is = absurd (cc)
    go false false (Err kind) is = absurd (cc)
    go false false (Ok consoles) is =
        let whole : record { nodes = cast.nodes; consoles = consoles } ≡ next = cc in sym (ap (λ (c : Cast). c.nodes) whole)

joined : (limits : Limits) (cast more : Cast) (lines : List Line) → more.nodes ≡ cast.nodes →
    carried_out (so_far limits (Some cast) lines).0 (so_far limits (Some cast) lines).1 (Ok (record { cast = Some more; lines = [] }))
    ≡ Ok (so_far limits (Some more) lines)
unfolding played report_of after_commands commands_text
joined limits cast more lines same =
    ap (λ (nodes : Texts).
    Ok (
      record { limits = limits; cast = Some more; machine = Some (after_commands (opening_machine nodes limits) (commands_of lines)) },
      commands_text (opening_machine nodes limits) (commands_of lines) ++ [],
    )) (sym same)
    ∙ ap (λ (t : List ℕ). Ok (record { limits = limits; cast = Some more; machine = machine_so_far limits (Some more) lines }, t))
    (append-nil (report_of limits (script_so_far more lines)))

-- consoles are named
joins : (limits : Limits) (cast : Cast) (lines : List Line) (r : Result Cast FaultKind) (next : Reading)
    → ((c : Cast) → r ≡ Ok c → c.nodes ≡ cast.nodes) → (r >>= λ cast. Ok (record { cast = Some cast; lines = lines })) ≡ Ok next
    → Follows limits (Some cast) lines (r >>= λ cast. Ok (record { cast = Some cast; lines = [] })) next
joins limits cast lines (Err kind) next same is = absurd (cc)
joins limits cast lines (Ok more) next same is =
    let whole : record { cast = Some more; lines = lines } ≡ next = cc in
    let P : Reading → Type 0 = λ r. Follows limits (Some cast) lines (Ok (record { cast = Some more; lines = [] })) r in
    subst P whole (joined limits cast more lines (same more refl), λ e. absurd (cc))

-- a command
done : (limits : Limits) (cast : Cast) (lines : List Line) (number : ℕ) (command : Command) →
    carried_out (so_far limits (Some cast) lines).0 (so_far limits (Some cast) lines).1
    (Ok (record { cast = Some cast; lines = record { number = 0; command = command } ∷ [] }))
    ≡ Ok (so_far limits (Some cast) (lines ++ record { number = number; command = command } ∷ []))
unfolding played report_of
done limits cast lines number command =
    let m = opening_machine cast.nodes limits in
    ap₂ (λ (after : Machine) (t : List ℕ). Ok (record { limits = limits; cast = Some cast; machine = Some after }, t))
    (sym (after_more m (commands_of lines) (command ∷ []))
    ∙ ap (after_commands m) (sym (of_lines lines (record { number = number; command = command } ∷ []))))
    (sym (text_more m (commands_of lines) (command ∷ []))
    ∙ ap (commands_text m) (sym (of_lines lines (record { number = number; command = command } ∷ []))))

asks : (limits : Limits) (cast : Cast) (lines : List Line) (number : ℕ) (r : Result Command FaultKind) (next : Reading)
    → (r >>= λ command. Ok (record { cast = Some cast; lines = lines ++ record { number = number; command = command } ∷ [] })) ≡ Ok next
    → Follows limits (Some cast) lines (r >>= λ command. Ok (record { cast = Some cast; lines = record { number = 0; command = command } ∷ [] })) next
asks limits cast lines number (Err kind) next is = absurd (cc)
asks limits cast lines number (Ok command) next is =
    let whole : record { cast = Some cast; lines = lines ++ record { number = number; command = command } ∷ [] } ≡ next = cc in
    let P : Reading → Type 0 =
    λ r. Follows limits (Some cast) lines (Ok (record { cast = Some cast; lines = record { number = 0; command = command } ∷ [] })) r in
    subst P whole (done limits cast lines number command, λ e. absurd (cc))

-- one line

by_words : (limits : Limits) (cast : Option Cast) (lines : List Line) (number : ℕ) (first : List ℕ) (rest : Texts) (next : Reading) →
    Begins cast lines → with_words_by cast lines number first rest ≡ Ok next → Follows limits cast lines (with_words_by cast [] 0 first rest) next
unfolding with_words_by
by_words limits None lines number first rest next begins is = opens limits lines (opening first rest) next (begins refl) is
by_words limits (Some cast) lines number first rest next begins is = go (bytes_eq first (codes "consoles")) is
  where
    go : (b : Bool)
        → (if b then (with_consoles cast rest >>= λ cast. Ok (record { cast = Some cast; lines = lines }))
        else (command_by (keyword_of first) cast first rest >>=
        λ command. Ok (record { cast = Some cast; lines = lines ++ record { number = number; command = command } ∷ [] }))) ≡ Ok next
        → Follows limits (Some cast) lines
        (if b then (with_consoles cast rest >>= λ cast. Ok (record { cast = Some cast; lines = [] }))
        else (command_by (keyword_of first) cast first rest >>=
        λ command. Ok (record { cast = Some cast; lines = record { number = 0; command = command } ∷ [] }))) next
    go true is = joins limits cast lines (with_consoles cast rest) next (λ c e. same_nodes cast c rest e) is
    go false is = asks limits cast lines number (command_by (keyword_of first) cast first rest) next is

words_follow : (limits : Limits) (reading : Reading) (number : ℕ) (words : Texts) (next : Reading) → Begins reading.cast reading.lines
    → with_words reading number words ≡ Ok next
    → Follows limits reading.cast reading.lines (with_words (record { cast = reading.cast; lines = [] }) 0 words) next
unfolding with_words
words_follow limits reading number [] next begins is = let same : reading ≡ next = cc in quiet limits reading next begins same
words_follow limits reading number (first ∷ rest) next begins is = go (slice_index first 0 == 35) is
  where
    go : (b : Bool) → (if b then Ok reading else with_words_by reading.cast reading.lines number first rest) ≡ Ok next
        → Follows limits reading.cast reading.lines
        (if b then Ok (record { cast = reading.cast; lines = [] }) else with_words_by reading.cast [] 0 first rest) next
    go true is = let same : reading ≡ next = cc in quiet limits reading next begins same
    go false is = by_words limits reading.cast reading.lines number first rest next begins is

line_follows : (limits : Limits) (reading : Reading) (number : ℕ) (line : List ℕ) (next : Reading) → Begins reading.cast reading.lines
    → with_line reading number line ≡ Ok next
    → Follows limits reading.cast reading.lines (with_line (record { cast = reading.cast; lines = [] }) 0 line) next
unfolding with_line
line_follows limits reading number line next begins is = go (nat_lt 4096 (length line)) (not (is_text line)) is
  where
    go : (a b : Bool) → (if a then Err TooLong else (if b then Err NotText else with_words reading number (words_of line))) ≡ Ok next
        → Follows limits reading.cast reading.lines
        (if a then Err TooLong else (if b then Err NotText else with_words (record { cast = reading.cast; lines = [] }) 0 (words_of line))) next
    go true b is = absurd (cc)
    go false true is = absurd (cc)
    go false false is = words_follow limits reading number (words_of line) next begins is

one_taken : (limits : Limits) (reading : Reading) (number : ℕ) (line : List ℕ) (next : Reading) → Begins reading.cast reading.lines
    → with_line reading number line ≡ Ok next
    → (taken (so_far limits reading.cast reading.lines).0 (so_far limits reading.cast reading.lines).1 line ≡ Ok (so_far limits next.cast next.lines)) ×
    Begins next.cast next.lines
unfolding taken
one_taken limits reading number line next begins is = line_follows limits reading number line next begins is

-- all lines

abbrev AreTaken : Limits → Reading → List (List ℕ) → Reading → Type 0
AreTaken limits reading lines last =
    all_taken (so_far limits reading.cast reading.lines).0 (so_far limits reading.cast reading.lines).1 lines ≡
    Ok (so_far limits last.cast last.lines)

then_taken : (limits : Limits) (reading next last : Reading) (line : List ℕ) (lines : List (List ℕ))
    → taken (so_far limits reading.cast reading.lines).0 (so_far limits reading.cast reading.lines).1 line ≡ Ok (so_far limits next.cast next.lines)
    → AreTaken limits next lines last → AreTaken limits reading (line ∷ lines) last
unfolding all_taken
then_taken limits reading next last line lines one rest =
    ap (λ (r : Result (Prompt × List ℕ) FaultKind). r >>= λ next. all_taken next.0 next.1 lines) one ∙ rest

none_taken : (limits : Limits) (reading last : Reading) → reading ≡ last → AreTaken limits reading [] last
unfolding all_taken
none_taken limits reading last same = ap (λ (r : Reading). Ok (so_far limits r.cast r.lines)) same

lines_taken : (limits : Limits) (reading : Reading) (number : ℕ) (lines : List (List ℕ)) (last : Reading) → Begins reading.cast reading.lines
    → with_lines reading number lines ≡ Ok last → AreTaken limits reading lines last
unfolding with_lines
lines_taken limits reading number [] last begins is = let same : reading ≡ last = cc in none_taken limits reading last same
lines_taken limits reading number (line ∷ lines) last begins is =
    go (with_line reading number line) (λ next h. one_taken limits reading number line next begins h)
    (λ next b h. lines_taken limits next (number + 1) lines last b h) is
  where
    go : (r : Result Reading FaultKind)
        → ((next : Reading) → r ≡ Ok next
        → (taken (so_far limits reading.cast reading.lines).0 (so_far limits reading.cast reading.lines).1 line ≡ Ok (so_far limits next.cast next.lines)) ×
        Begins next.cast next.lines)
        → ((next : Reading) → Begins next.cast next.lines → with_lines next (number + 1) lines ≡ Ok last → AreTaken limits next lines last)
        → (at_line number r >>= λ next. with_lines next (number + 1) lines) ≡ Ok last → AreTaken limits reading (line ∷ lines) last
    go (Err kind) one rest is = absurd (cc)
    go (Ok next) one rest is = then_taken limits reading next last line lines (one next refl).0 (rest next (one next refl).1 is)

whole : (limits : Limits) (cast : Option Cast) (lines : List Line) (script : Script) (r : Result (Prompt × List ℕ) FaultKind) →
    finished cast lines ≡ Ok script → r ≡ Ok (so_far limits cast lines)
    → r ≡ Ok (record { limits = limits; cast = Some script.cast; machine = Some (played limits script) }, report_of limits script)
whole limits None lines script r is all = absurd (cc)
whole limits (Some cast) lines script r is all =
    let same : script_so_far cast lines ≡ script = cc in
    all
    ∙ ap (λ (s : Script). Ok (record { limits = limits; cast = Some s.cast; machine = Some (played limits s) }, report_of limits s)) same

pub prompt_holds : PromptLaw
unfolding script_of
prompt_holds limits bytes script is =
    go (nat_lt 1048576 (length bytes)) (with_lines (record { cast = None; lines = [] }) 1 (lines_of bytes))
    (λ reading h. lines_taken limits (record { cast = None; lines = [] }) 1 (lines_of bytes) reading (λ e. refl) h) is
  where
    go : (b : Bool) (r : Result Reading ScriptFault)
        → ((reading : Reading) → r ≡ Ok reading → AreTaken limits (record { cast = None; lines = [] }) (lines_of bytes) reading)
        → (if b then Err (record { line = 0; kind = TooLong }) else (r >>= λ reading. finished reading.cast reading.lines)) ≡ Ok script
        → all_taken (new_prompt limits) [] (lines_of bytes)
        ≡ Ok (record { limits = limits; cast = Some script.cast; machine = Some (played limits script) }, report_of limits script)
    go true r h is = absurd (cc)
    go false (Err fault) h is = absurd (cc)
    go false (Ok reading) h is = whole limits reading.cast reading.lines script _ is (h reading refl)
