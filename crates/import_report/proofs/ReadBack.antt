-- The lines of a script of events are read back.
use Rattle.std.proofs.Common.{◌≡◌, ℕ, zero, suc, ◌+◌, ◌<◌, ◌==◌, ◌&&◌, nat_lt, nat_le, Bool, true, false, not, if◌then◌else◌, List, [], ◌∷◌, ◌++◌, length, map, All}
use Rattle.std.proofs.Common.{Some, Ok, Err, refl, sym, ap, ◌∙◌, append_assoc, append-nil, true≢false, arith}
use Rattle.std.proofs.lemmas.List.{map-append}
use Rattle.std.proofs.lemmas.List.Splits.{slice_split_at}
use Rattle.std.proofs.lemmas.Bool.Decides.{nat_tests}
use Rattle.payload_core.specs.Results.{◌>>=◌}
use Rattle.node_core.specs.Operations.{Operation}
use Rattle.bench_core.specs.Acts.{Do}
use Rattle.bench_core.specs.NameList.{Texts}
use Rattle.grammar_core.specs.declared.fault.FaultKind.TheVariants as kinds
use Rattle.grammar_core.specs.Casts.{Cast}
use Rattle.grammar_core.specs.Scripts.{Command, Call, Line}
use Rattle.grammar_core.specs.Words.{lines_of, words_of, is_text}
use Rattle.grammar_core.specs.Grammar.{Reading, with_line, with_words, with_lines, at_line}
use Rattle.report_core.specs.StepText.{act_line}
use Rattle.run_core.specs.ReadSteps.{IsWritten, AreNodes}
use Rattle.run_core.proofs.ReadLines.{step_holds}
use Rattle.import_report.specs.Events.{ended}
use Rattle.import_report.specs.Scripts.{commands_of}

abbrev pub cast_of : Texts → Cast
cast_of names = record { nodes = names; consoles = [] }

abbrev pub reading : Texts → List Line → Reading
reading names lines = record { cast = Some (cast_of names); lines = lines }

abbrev pub numbered : ℕ → List Command → List Line
numbered number commands = map (λ command. record { number = number; command = command }) commands

-- wherever the line stands behind the nodes', it asks these commands
abbrev pub ReadsAs : Texts → List ℕ → List Command → Type 0
ReadsAs names line commands = (lines : List Line) (number : ℕ) →
    with_line (reading names lines) number line ≡ Ok (reading names (lines ++ numbered number commands))

-- wherever the text stands among whole lines behind the nodes', its lines ask these
abbrev pub ReadsText : Texts → List ℕ → List Command → Type 0
ReadsText names text commands = (rest : List ℕ) (lines : List Line) (number : ℕ) → (more : List Line) × (next : ℕ)
    × (with_lines (reading names lines) number (lines_of (text ++ rest)) ≡ with_lines (reading names (lines ++ more)) next (lines_of rest))
    × (commands_of more ≡ commands)

-- a line that is read is text, and has no line feed

pub text_if_read : (r : Reading) (number : ℕ) (line : List ℕ) (next : Reading) → with_line r number line ≡ Ok next → is_text line ≡ true
unfolding with_line
text_if_read r number line next e = go (nat_lt 4096 (length line)) (is_text line) refl e
  where
    go : (long text : Bool) → is_text line ≡ text →
        (if long then Err kinds.TooLong else (if not text then Err kinds.NotText else with_words r number (words_of line))) ≡ Ok next →
        is_text line ≡ true
    go true text is e = absurd (cc)
    go false false is e = absurd (cc)
    go false true is e = is

both : (a b : Bool) → (a && b) ≡ true → (a ≡ true) × (b ≡ true)
both true b e = (refl, e)
both false b e = absurd (true≢false (sym e))

no_feed : (line : List ℕ) → is_text line ≡ true → All (λ byte. (byte == 10) ≡ false) line
no_feed [] e k d within = absurd (omega arith)
no_feed (x ∷ xs) e zero d within = let h = (both (nat_le 32 x && nat_le x 126) (is_text xs) e).0 in grind (arith, nat_tests)
no_feed (x ∷ xs) e (suc k) d within = no_feed xs (both (nat_le 32 x && nat_le x 126) (is_text xs) e).1 k d (omega arith)

pub split_line : (line rest : List ℕ) → is_text line ≡ true → lines_of (ended line ++ rest) ≡ line ∷ lines_of rest
split_line line rest text =
    ap lines_of (append_assoc line (10 ∷ []) rest) ∙ slice_split_at (λ byte. byte == 10) line 10 rest (no_feed line text) refl

-- texts

commands-numbered : (number : ℕ) (commands : List Command) → commands_of (numbered number commands) ≡ commands
commands-numbered number [] = refl
commands-numbered number (c ∷ cs) = ap (λ l. c ∷ l) (commands-numbered number cs)

pub nothing_read : (names : Texts) → ReadsText names [] []
nothing_read names rest lines number =
    ([], number, ap (λ ls. with_lines (reading names ls) number (lines_of rest)) (sym (append-nil lines)), refl)

pub line_read : (names : Texts) (line : List ℕ) (commands : List Command) → ReadsAs names line commands → ReadsText names (ended line) commands
unfolding with_lines
line_read names line commands reads rest lines number =
    let read = reads lines number in
    let text = text_if_read (reading names lines) number line (reading names (lines ++ numbered number commands)) read in (
      numbered number commands,
      number + 1,
      ap (λ ls. with_lines (reading names lines) number ls) (split_line line rest text)
          ∙ ap (λ r. at_line number r >>= λ next. with_lines next (number + 1) (lines_of rest)) read,
      commands-numbered number commands,
    )

pub both_read : (names : Texts) (a b : List ℕ) (c d : List Command) → ReadsText names a c → ReadsText names b d → ReadsText names (a ++ b) (c ++ d)
both_read names a b c d first second rest lines number =
    let one = first (b ++ rest) lines number in
    let two = second rest (lines ++ one.0) one.1 in (
      one.0 ++ two.0,
      two.1,
      ap (λ t. with_lines (reading names lines) number (lines_of t)) (append_assoc a b rest) ∙ one.2 ∙ two.2
          ∙ ap (λ ls. with_lines (reading names ls) two.1 (lines_of rest)) (append_assoc lines one.0 two.0),
      map-append (λ line. line.command) one.0 two.0 ∙ ap (λ l. l ++ commands_of two.0) one.3 ∙ ap (λ l. c ++ l) two.3,
    )

-- behind all lines stands an empty one
pub empty_line : (r : Reading) (number : ℕ) → with_lines r number ([] ∷ []) ≡ Ok r
unfolding with_lines with_line with_words
empty_line r number = refl

-- the line of a step
pub step_read : (names : Texts) (node : ℕ) (operation : Operation) → AreNodes names → node < length names → IsWritten names operation →
    ReadsAs names (act_line names node operation) (Call node (Do operation) ∷ [])
step_read names node operation are within written lines number = step_holds (cast_of names) lines number node operation are within written
