use Rattle.json_core.proofs.Fronts.{stripped}
use Rattle.json_core.proofs.compact.after.Goals as goal

pub returns : goal.returns
returns c = stripped (λ rest. rest.now) c.args.front.now c.args.text.now _ c.strip_prefix.result c.strip_prefix.ensures.cases
