-- The acts among the lines of a script, one by one.
use Rattle.std.proofs.Common.{◌≡◌, ℕ, ◌+◌, ◌<◌, List, [], ◌∷◌, ◌++◌, length, get_or, drop, Result, Ok, Err, sym, ap, ◌∙◌}
use Rattle.std.proofs.lemmas.List.{at_drop_more}
use Rattle.payload_core.specs.Results.{◌>>=◌}
use Rattle.bench_core.specs.Acts.{Action}
use Rattle.grammar_core.specs.declared.fault.ScriptFault.{ScriptFault}
use Rattle.grammar_core.specs.declared.script.Line.{Line as DeclaredLine}
use Rattle.grammar_core.specs.Scripts.{plain_line, plain_lines}
use Rattle.grammar_core.specs.Grammar.{call_of, with_calls}

abbrev Calls : Type 0
Calls = List (ℕ × Action)

next_call : {X : Type 0} (lines : List (DeclaredLine X)) (i : ℕ) (d : DeclaredLine X) (calls : Calls) → i < length lines
    → with_calls calls (plain_lines (drop i lines)) ≡
    (call_of (plain_line (get_or lines i d)) >>= λ call. with_calls (calls ++ call ∷ []) (plain_lines (drop (i + 1) lines)))
unfolding with_calls
next_call lines i d calls within = at_drop_more (λ ls. with_calls calls (plain_lines ls)) lines i d within

-- the next line is an act
pub call_more : {X : Type 0} (lines : List (DeclaredLine X)) (i : ℕ) (d : DeclaredLine X) (calls : Calls) (call : ℕ × Action)
    (start : Result Calls ScriptFault) → i < length lines → call_of (plain_line (get_or lines i d)) ≡ Ok call
    → with_calls calls (plain_lines (drop i lines)) ≡ start → with_calls (calls ++ call ∷ []) (plain_lines (drop (i + 1) lines)) ≡ start
call_more lines i d calls call start within is so_far =
    sym (next_call lines i d calls within ∙ ap (λ r. r >>= λ call. with_calls (calls ++ call ∷ []) (plain_lines (drop (i + 1) lines))) is)
    ∙ so_far

-- the next line is none
pub call_fault : {X : Type 0} (lines : List (DeclaredLine X)) (i : ℕ) (d : DeclaredLine X) (calls : Calls) (fault : ScriptFault)
    (start : Result Calls ScriptFault) → i < length lines → call_of (plain_line (get_or lines i d)) ≡ Err fault
    → with_calls calls (plain_lines (drop i lines)) ≡ start → start ≡ Err fault
call_fault lines i d calls fault start within is so_far =
    sym so_far ∙ next_call lines i d calls within
    ∙ ap (λ r. r >>= λ call. with_calls (calls ++ call ∷ []) (plain_lines (drop (i + 1) lines))) is
