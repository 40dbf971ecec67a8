-- The signs of a prompt: the number of the next step, before each line that is read.
use Rattle.std.specs.Prelude.{◌≡◌, ℕ, ◌+◌, ◌==◌, Bool, true, false, List, [], ◌∷◌, ◌++◌, length, take, codes, decimal, if◌then◌else◌, ⊤, Option, Some, None}
use Rattle.std.specs.Io.{StartsWith}
use Rattle.std.specs.Io.KnownBytes.{Appends, Keeps}
use Rattle.bench_core.specs.Limits.{Limits}
use Rattle.bench_core.specs.Machine.{Machine, given}
use Rattle.grammar_core.specs.Words.{lines_of}
use Rattle.run_core.specs.Prompts.{Prompt, new_prompt}
use Rattle.prompt_core.specs.Responses.{response, is_quit}

-- the number that the next step will have
abbrev pub next_step : Option Machine → ℕ
next_step None = 1
next_step (Some m) = given m.state.history + 1

-- `N> `
unfoldable pub sign : Prompt → List ℕ
sign prompt = decimal (next_step prompt.machine) ++ codes "> "

-- if signs are shown, this one went out whole; or a beginning of it, and then no more are shown; if they aren't, nothing went out
abbrev pub ShowsSign : Bool → List ℕ → Bool → Option (List ℕ) → Option (List ℕ) → Type 0
ShowsSign false text shown old new = (shown ≡ false) × Keeps old new
ShowsSign true text true old new = Appends old new text
ShowsSign true text false old new = (count : ℕ) × Appends old new (take count text)

-- the lines that are read; after a last line feed there is none
abbrev pub read_lines : List (List ℕ) → List (List ℕ)
read_lines [] = []
read_lines (line ∷ []) = if length line == 0 then [] else line ∷ []
read_lines (line ∷ next ∷ lines) = line ∷ read_lines (next ∷ lines)

-- the sign before each of these lines and before the end of the input, up to the line that ends the prompt
unfoldable pub signs : List ℕ → Prompt → ℕ → List (List ℕ) → List ℕ
signs help prompt number [] = sign prompt
signs help prompt number (line ∷ lines) =
    sign prompt ++ (if is_quit line then [] else signs help (response help prompt number line).0 (number + 1) lines)

-- the signs for an input
abbrev pub signs_of : List ℕ → Limits → List ℕ → List ℕ
signs_of help limits input = signs help (new_prompt limits) 1 (read_lines (lines_of input))

-- if signs are shown and the input's bytes are known, a beginning of the signs for the input went out; if signs aren't shown, nothing went
-- out
abbrev pub Shows : Bool → List ℕ → Limits → Option (List ℕ) → Option (List ℕ) → Option (List ℕ) → Type 0
Shows false help limits input old new = Keeps old new
Shows true help limits None old new = ⊤
Shows true help limits (Some input) old new = (part : List ℕ) × Appends old new part × StartsWith (signs_of help limits input) part
