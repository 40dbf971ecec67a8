use Rattle.std.proofs.Common.{Some, sym, ap, ◌∙◌, rules}
use Rattle.std.specs.Prelude.{option_map}
use Rattle.serde_json.specs.Data.{number}
use Rattle.json_core.proofs.Reading.{number_read}
use Rattle.json_core.proofs.one_value.number_from.Goals as goal

pub returns-in-Some-clause-ok : goal.returns-in-Some-clause-ok
returns-in-Some-clause-ok c = ap (option_map number) c.in-Some.ensures ∙ ap Some (sym c.from.ensures)

pub returns-in-Ok-clause-ok : goal.returns-in-Ok-clause-ok
returns-in-Ok-clause-ok c = sym (number_read c.args.text.now c.requires) ∙ c.in-Ok.ensures.ok

pub returns-in-Err-2-clause-err : goal.returns-in-Err-2-clause-err
returns-in-Err-2-clause-err c refused = sym (number_read c.args.text.now c.requires) ∙ c.in-Err-2.ensures.err (search rules)
