-- A prompt: the lines of a script one by one, each answered before the next is read.
use Rattle.std.specs.Prelude.{◌≡◌, ℕ, List, [], ◌∷◌, ◌++◌, Option, Some, None, Result, Ok, refl}
use Rattle.std.specs.Coded.{Coded, code_by, coded×, coded_ℕ, coded_list, coded_option}
use Rattle.payload_core.specs.Results.{◌>>=◌}
use Rattle.bench_core.specs.Limits.{Limits}
use Rattle.bench_core.specs.NameList.{Texts}
use Rattle.bench_core.specs.Machine.{Machine, machine_code, opening_machine}
use Rattle.bench_core.specs.declared.reply.Reply.{Reply}
use Rattle.grammar_core.specs.Casts.{Cast}
use Rattle.grammar_core.specs.Scripts.{Command, Script}
use Rattle.grammar_core.specs.Words.{lines_of}
use Rattle.grammar_core.specs.Grammar.{Reading, script_of, with_line}
use Rattle.run_core.specs.Report.{after_commands, commands_of, commands_text, played, report_of}
use Rattle.grammar_core.specs.declared.fault.FaultKind.{FaultKind}

-- the limits; and, once the nodes are named, who may act, and the machine
pub record Prompt : Type 0 where
  pub limits : Limits
  pub cast : Option Cast
  pub machine : Option Machine

abbrev limits_code : Coded Limits
limits_code = code_by (ℕ × (ℕ × (ℕ × ℕ))) (coded× coded_ℕ (coded× coded_ℕ (coded× coded_ℕ coded_ℕ)))
    (λ l. (l.acts, (l.entries, (l.clock, l.messages)))) (λ t. record { acts = t.0; entries = t.1.0; clock = t.1.1.0; messages = t.1.1.1 })
    (λ _. refl)

abbrev cast_code : Coded Cast
cast_code =
    code_by (Texts × Texts) (coded× (coded_list (coded_list coded_ℕ)) (coded_list (coded_list coded_ℕ))) (λ c. (c.nodes, c.consoles))
    (λ t. record { nodes = t.0; consoles = t.1 }) (λ _. refl)

abbrev pub prompt_code : Coded Reply → Coded Prompt
prompt_code reply_code =
    code_by (Limits × (Option Cast × Option Machine)) (coded× limits_code (coded× (coded_option cast_code) (coded_option (machine_code reply_code))))
    (λ p. (p.limits, (p.cast, p.machine))) (λ t. record { limits = t.0; cast = t.1.0; machine = t.1.1 }) (λ _. refl)

-- a prompt before its first line
abbrev pub new_prompt : Limits → Prompt
new_prompt limits = record { limits = limits; cast = None; machine = None }

-- the machine, which is opened once the nodes are named
abbrev pub opened : Limits → Option Cast → Option Machine → Option Machine
opened limits cast (Some machine) = Some machine
opened limits (Some cast) None = Some (opening_machine cast.nodes limits)
opened limits None None = None

-- the prompt after these commands, and the text with what they print behind it; without a machine they do nothing
abbrev pub asked : Limits → Option Cast → Option Machine → List ℕ → List Command → Prompt × List ℕ
asked limits cast None text commands = (record { limits = limits; cast = cast; machine = None }, text)
asked limits cast (Some machine) text commands =
    (record { limits = limits; cast = cast; machine = Some (after_commands machine commands) }, text ++ commands_text machine commands)

-- the prompt and the text after what was read of a line; or the line's fault
abbrev pub carried_out : Prompt → List ℕ → Result Reading FaultKind → Result (Prompt × List ℕ) FaultKind
carried_out prompt text read =
    read >>= λ reading.
    Ok (asked prompt.limits reading.cast (opened prompt.limits reading.cast prompt.machine) text (commands_of reading.lines))

-- the prompt and the text after a line, which is read as a script's line is, with what was named before it; or the line's fault
unfoldable pub taken : Prompt → List ℕ → List ℕ → Result (Prompt × List ℕ) FaultKind
taken prompt text line = carried_out prompt text (with_line (record { cast = prompt.cast; lines = [] }) 0 line)

-- the prompt and the text after these lines, taken in order; or the first fault
unfoldable pub all_taken : Prompt → List ℕ → List (List ℕ) → Result (Prompt × List ℕ) FaultKind
all_taken prompt text [] = Ok (prompt, text)
all_taken prompt text (line ∷ lines) = do
  next ← taken prompt text line
  all_taken next.0 next.1 lines

-- the lines of a script without faults, taken one by one, print the report of the script, and leave the machine that it leaves
abbrev pub PromptLaw : Type 0
PromptLaw =
    (limits : Limits) (bytes : List ℕ) (script : Script) → script_of bytes ≡ Ok script
    → all_taken (new_prompt limits) [] (lines_of bytes)
    ≡ Ok (record { limits = limits; cast = Some script.cast; machine = Some (played limits script) }, report_of limits script)
