use Rattle.std.proofs.Common.{◌∙◌, sym, ap}
use Rattle.std.specs.Option.{option_copied}
use Rattle.journal_core.specs.Holdings.{kepts}
use Rattle.bench_core.proofs.SameSteps.{second_gone}
use Rattle.bench_core.proofs.swaps.is_same.Goals as goal

pub returns-in_default : goal.returns-in_default
returns-in_default g c =
    second_gone (kepts c.args.one.now.steps) (kepts c.args.other.now.steps) c.args.place c.args.second
    (sym c.at-2.ensures ∙ ap option_copied c.in_default.is-1)
