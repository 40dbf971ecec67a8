use Rattle.std.proofs.Common.{◌≡◌, true, rules}
use Rattle.grammar_core.proofs.LineText.{IsUtf8-is_text}
use Rattle.grammar_core.specs.Words.{is_text}
use Rattle.hint_core.proofs.line_words.text_of.Goals as goal

-- text is ASCII, so it is UTF-8
pub returns-in-Err : goal.returns-in-Err
returns-in-Err c =
    let text : is_text c.args.line.now ≡ true = search rules in
    absurd (c.in-Err.ensures.cases.0 (IsUtf8-is_text c.args.line.now text))
