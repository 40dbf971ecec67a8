-- What is printed at a prompt.
use Rattle.std.proofs.Common.{◌≡◌, ℕ, ◌+◌, if◌then◌else◌, Bool, true, false, List, [], ◌∷◌, ◌++◌, Option, Some, None, Result, Ok, Err, refl, sym, ap, subst, ◌∙◌, append_assoc, append-nil}
use Rattle.payload_core.specs.Results.{◌>>=◌}
use Rattle.bench_core.specs.Limits.{Limits}
use Rattle.bench_core.specs.Machine.{Machine}
use Rattle.grammar_core.specs.declared.fault.FaultKind.{FaultKind}
use Rattle.grammar_core.specs.Casts.{Cast}
use Rattle.grammar_core.specs.Scripts.{Command, Script}
use Rattle.grammar_core.specs.Words.{lines_of}
use Rattle.grammar_core.specs.Grammar.{Reading, script_of, with_line, with_words}
use Rattle.std.specs.Io.BufRead.{drop_through, first_piece}
use Rattle.prompt_core.proofs.Split.{IsSplit, More, Last, split}
use Rattle.run_core.specs.Prompts.{Prompt, PromptLaw, all_taken, asked, carried_out, new_prompt, opened, taken}
use Rattle.run_core.specs.Report.{commands_of, commands_text, report_of}
use Rattle.prompt_core.specs.Responses.{response, response_by, responses, is_quit}
use Rattle.prompt_core.proofs.Endings.{empty_on, taken_on}

abbrev Next : Type 0
Next = Prompt × List ℕ

-- what a line prints does not depend on what was printed before it
record Prints (text : List ℕ) (read : Result Next FaultKind) (next : Next) : Type 0 where
  printed : List ℕ
  alone : read ≡ Ok (next.0, printed)
  behind : next.1 ≡ text ++ printed

asked_prints : (limits : Limits) (cast : Option Cast) (machine : Option Machine) (text : List ℕ) (commands : List Command) →
    Prints text (Ok (asked limits cast machine [] commands)) (asked limits cast machine text commands)
asked_prints limits cast None text commands = record { printed = []; alone = refl; behind = sym (append-nil text) }
asked_prints limits cast (Some machine) text commands = record { printed = commands_text machine commands; alone = refl; behind = refl }

carried_out_prints : (prompt : Prompt) (text : List ℕ) (read : Result Reading FaultKind) (next : Next) → carried_out prompt text read ≡ Ok next →
    Prints text (carried_out prompt [] read) next
carried_out_prints prompt text (Err kind) next is = absurd (cc)
carried_out_prints prompt text (Ok reading) next is =
    let machine = opened prompt.limits reading.cast prompt.machine in
    let whole : asked prompt.limits reading.cast machine text (commands_of reading.lines) ≡ next = cc in
    let P : Next → Type 0 = λ n. Prints text (Ok (asked prompt.limits reading.cast machine [] (commands_of reading.lines))) n in
    subst P whole (asked_prints prompt.limits reading.cast machine text (commands_of reading.lines))

taken_prints : (prompt : Prompt) (text line : List ℕ) (next : Next) → taken prompt text line ≡ Ok next →
    Prints text (taken prompt [] line) next
unfolding taken
taken_prints prompt text line next is =
    carried_out_prints prompt text (with_line (record { cast = prompt.cast; lines = [] }) 0 line) next is

-- the response to a line that a script has
response_is : (help : List ℕ) (prompt : Prompt) (number : ℕ) (line : List ℕ) (next : Next) → taken prompt [] line ≡ Ok next →
    response help prompt number line ≡ next
unfolding response
response_is help prompt number line next is = ap (response_by help prompt number line) is

-- the responses to a line and those behind it, where the line doesn't end the prompt
pub responses_on : (help : List ℕ) (prompt : Prompt) (number : ℕ) (line : List ℕ) (lines : List (List ℕ)) → is_quit line ≡ false →
    responses help prompt number (line ∷ lines)
    ≡ (response help prompt number line).1 ++ responses help (response help prompt number line).0 (number + 1) lines
unfolding responses
responses_on help prompt number line lines on =
    ap (λ (b : Bool). if b then [] else (response help prompt number line).1 ++ responses help (response help prompt number line).0 (number + 1) lines) on

none_responded : (help : List ℕ) (prompt : Prompt) (number : ℕ) (text : List ℕ) (last : Next) → all_taken prompt text [] ≡ Ok last →
    text ++ responses help prompt number [] ≡ last.1
unfolding all_taken responses
none_responded help prompt number text last is =
    let first : Next = (prompt, text) in let whole : first ≡ last = cc in append-nil text ∙ ap (λ (n : Next). n.1) whole

one_responded : (help : List ℕ) (prompt : Prompt) (number : ℕ) (text line : List ℕ) (lines : List (List ℕ)) (next : Next) (end : List ℕ) →
    taken prompt text line ≡ Ok next → next.1 ++ responses help next.0 (number + 1) lines ≡ end
    → text ++ responses help prompt number (line ∷ lines) ≡ end
one_responded help prompt number text line lines next end is rest =
    let prints = taken_prints prompt text line next is in
    let here : response help prompt number line ≡ (next.0, prints.printed) = response_is help prompt number line (next.0, prints.printed) prints.alone in
    ap (λ t. text ++ t) (responses_on help prompt number line lines (taken_on prompt text line next is))
    ∙ ap (λ (n : Next). text ++ (n.1 ++ responses help n.0 (number + 1) lines)) here
    ∙ sym (append_assoc text prints.printed (responses help next.0 (number + 1) lines))
    ∙ ap (λ t. t ++ responses help next.0 (number + 1) lines) (sym prints.behind) ∙ rest

lines_responded : (help : List ℕ) (prompt : Prompt) (number : ℕ) (text : List ℕ) (lines : List (List ℕ)) (last : Next) →
    all_taken prompt text lines ≡ Ok last → text ++ responses help prompt number lines ≡ last.1
unfolding all_taken
lines_responded help prompt number text [] last is = none_responded help prompt number text last is
lines_responded help prompt number text (line ∷ lines) last is =
    go (taken prompt text line) (λ next h rest. one_responded help prompt number text line lines next last.1 h rest)
    (λ next h. lines_responded help next.0 (number + 1) next.1 lines last h) is
  where
    go : (r : Result Next FaultKind)
        → ((next : Next) → r ≡ Ok next → next.1 ++ responses help next.0 (number + 1) lines ≡ last.1
        → text ++ responses help prompt number (line ∷ lines) ≡ last.1)
        → ((next : Next) → all_taken next.0 next.1 lines ≡ Ok last → next.1 ++ responses help next.0 (number + 1) lines ≡ last.1)
        → (r >>= λ next. all_taken next.0 next.1 lines) ≡ Ok last → text ++ responses help prompt number (line ∷ lines) ≡ last.1
    go (Err kind) one rest is = absurd (cc)
    go (Ok next) one rest is = one next refl (rest next is)

-- of a script without faults the report
pub script_responded : PromptLaw → (help : List ℕ) (limits : Limits) (bytes : List ℕ) (script : Script) → script_of bytes ≡ Ok script →
    responses help (new_prompt limits) 1 (lines_of bytes) ≡ report_of limits script
script_responded law help limits bytes script is = lines_responded help (new_prompt limits) 1 [] (lines_of bytes) _ (law limits bytes script is)

-- an empty line prints nothing

blank_by : (limits : Limits) (cast : Option Cast) (machine : Option Machine) → (asked limits cast machine [] []).1 ≡ []
unfolding commands_text
blank_by limits cast None = refl
blank_by limits cast (Some machine) = refl

blank : (help : List ℕ) (prompt : Prompt) (number : ℕ) → (response help prompt number []).1 ≡ []
unfolding response taken with_line with_words
blank help prompt number = blank_by prompt.limits prompt.cast (opened prompt.limits prompt.cast prompt.machine)

pub none_left : (help : List ℕ) (prompt : Prompt) (number : ℕ) → responses help prompt number (lines_of []) ≡ []
unfolding responses
none_left help prompt number = responses_on help prompt number [] [] empty_on ∙ ap (λ t. t ++ []) (blank help prompt number)

-- the first line of what is left, and then the rest
pub next_responded : (help : List ℕ) (prompt : Prompt) (number : ℕ) (left : List ℕ) →
    responses help prompt number (lines_of left)
    ≡ (if is_quit (first_piece 10 left) then []
    else (response help prompt number (first_piece 10 left)).1 ++ responses help (response help prompt number (first_piece 10 left)).0 (number + 1) (lines_of (drop_through 10 left)))
unfolding responses
next_responded help prompt number left = go (split left)
  where
    go : IsSplit left → responses help prompt number (lines_of left)
        ≡ (if is_quit (first_piece 10 left) then []
        else (response help prompt number (first_piece 10 left)).1 ++ responses help (response help prompt number (first_piece 10 left)).0 (number + 1) (lines_of (drop_through 10 left)))
    go (More e) = ap (responses help prompt number) e
    go (Last e none) =
        ap (responses help prompt number) e
        ∙ ap (λ t. if is_quit (first_piece 10 left) then [] else (response help prompt number (first_piece 10 left)).1 ++ t)
        (sym (ap (λ (l : List ℕ). responses help (response help prompt number (first_piece 10 left)).0 (number + 1) (lines_of l)) none
        ∙ none_left help (response help prompt number (first_piece 10 left)).0 (number + 1)))
