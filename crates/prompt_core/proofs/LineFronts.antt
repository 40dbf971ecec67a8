-- The front of a line has the line's response, and ends the prompt where the line does.
use Rattle.std.proofs.Common.{◌≡◌, ℕ, ◌<◌, ◌≤◌, ◌==◌, ◌&&◌, nat_lt, Bool, true, false, List, [], length, Err, refl, sym, ap, ◌∙◌, arith}
use Rattle.std.proofs.lemmas.Bool.{lt-leb, lt-ltb, ltb-false, ltb-true}
use Rattle.std.proofs.lemmas.List.{length-take-le, take_all}
use Rattle.grammar_core.specs.Grammar.{Reading, with_line}
use Rattle.grammar_core.specs.Words.{words_of}
use Rattle.run_core.specs.Prompts.{Prompt, carried_out, taken}
use Rattle.grammar_core.specs.declared.fault.FaultKind.TheVariants.{TooLong}
use Rattle.prompt_core.specs.declared.stepping.TheConstants.{LINE_FRONT}
use Rattle.prompt_core.specs.Responses.{response, response_by, are_quits, fault_line, is_quit, own_response}
use Rattle.stream_core.specs.NextLines.{line_front}

-- the response to a line that is too long

refused : (reading : Reading) (number : ℕ) (line : List ℕ) → 4096 < length line → with_line reading number line ≡ Err TooLong
unfolding with_line
refused reading number line long = rw (lt-ltb 4096 (length line) long) refl

not_taken : (prompt : Prompt) (line : List ℕ) → 4096 < length line → taken prompt [] line ≡ Err TooLong
unfolding taken
not_taken prompt line long = ap (carried_out prompt []) (refused (record { cast = prompt.cast; lines = [] }) 0 line long)

told : (help : List ℕ) (prompt : Prompt) (number : ℕ) (line : List ℕ) → own_response help prompt number line TooLong ≡ fault_line number TooLong
unfolding own_response
told help prompt number line = refl

long_response : (help : List ℕ) (prompt : Prompt) (number : ℕ) (line : List ℕ) → 4096 < length line →
    response help prompt number line ≡ (prompt, fault_line number TooLong)
unfolding response
long_response help prompt number line long =
    ap (response_by help prompt number line) (not_taken prompt line long) ∙ ap (λ (text : List ℕ). (prompt, text)) (told help prompt number line)

-- the front of a line that is too long is too long
long_front : (line : List ℕ) → 4096 < length line → 4096 < length (line_front LINE_FRONT line)
unfolding line_front
long_front line long = omega (arith, length-take-le LINE_FRONT line (omega arith))

short_front : (line : List ℕ) → length line ≤ 4096 → line_front LINE_FRONT line ≡ line
unfolding line_front
short_front line few = take_all LINE_FRONT line (omega arith)

pub front_response : (help : List ℕ) (prompt : Prompt) (number : ℕ) (line : List ℕ) →
    response help prompt number (line_front LINE_FRONT line) ≡ response help prompt number line
front_response help prompt number line = go (nat_lt 4096 (length line)) refl
  where
    go : (b : Bool) → nat_lt 4096 (length line) ≡ b → response help prompt number (line_front LINE_FRONT line) ≡ response help prompt number line
    go true is =
        let long = ltb-true 4096 (length line) is in
        long_response help prompt number (line_front LINE_FRONT line) (long_front line long) ∙ sym (long_response help prompt number line long)
    go false is = ap (response help prompt number) (short_front line (ltb-false 4096 (length line) is))

-- a line that is too long ends no prompt
long_on : (line : List ℕ) → 4096 < length line → is_quit line ≡ false
unfolding is_quit
long_on line long = ap (λ (b : Bool). b && (are_quits (words_of line) && (length (words_of line) == 1))) (lt-leb (length line) 4096 long)

pub front_quit : (line : List ℕ) → is_quit (line_front LINE_FRONT line) ≡ is_quit line
front_quit line = go (nat_lt 4096 (length line)) refl
  where
    go : (b : Bool) → nat_lt 4096 (length line) ≡ b → is_quit (line_front LINE_FRONT line) ≡ is_quit line
    go true is =
        let long = ltb-true 4096 (length line) is in
        long_on (line_front LINE_FRONT line) (long_front line long) ∙ sym (long_on line long)
    go false is = ap is_quit (short_front line (ltb-false 4096 (length line) is))
