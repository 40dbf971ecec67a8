use Rattle.std.proofs.Common.{◌∙◌, sym, ap, take}
use Rattle.std.specs.List.{list_all}
use Rattle.json_core.specs.Compact.{is_plain}
use Rattle.json_core.proofs.Fronts.{plain_before}
use Rattle.json_core.proofs.compact.plain_run.Goals as goal

pub returns-clause-plain : goal.returns-clause-plain
returns-clause-plain c =
    ap (list_all is_plain) (c.in_ok-run.ensures.front ∙ ap (take c.in_ok-plain_length.field-0) (sym c.as_bytes.ensures.value))
    ∙ plain_before c.as_bytes.result.now c.in_ok-plain_length.field-0 (sym c.plain_length.ensures ∙ c.in_ok-plain_length.was)
