use Rattle.std.proofs.Common.{◌≡◌, true, rules, ◌∙◌}
use Rattle.grammar_core.proofs.LineText.{number-parse}
use Rattle.grammar_core.specs.Words.{is_numeral}
use Rattle.grammar_core.proofs.words.number_of.Goals as goal

pub returns : goal.returns
returns c =
    let numeral : is_numeral c.args.digits.now ≡ true = search rules in
    c.ok.ensures.value ∙ number-parse c.args.digits.now _ c.parse.ensures.value.0 numeral
