use Rattle.json_core.proofs.Fronts.{string_parts}
use Rattle.json_core.proofs.compact.plain_at.Goals as goal

pub returns : goal.returns
returns c = (
  string_parts c.args.text.now c.in_ok-after.field-0.now c.in_ok-string.string.now c.in_ok-string.quote.now c.in_ok-rest.rest.now
      c.in_ok-after.ensures c.in_ok-string.ensures.parts c.in_ok-rest.ensures c.in_ok-string.ensures.plain,
  tt,
)
