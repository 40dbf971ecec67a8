use Rattle.std.proofs.Common.{◌++◌, ap, ◌∙◌, take_all}
use Rattle.entry_core.specs.Lists.{live_ones}
use Rattle.entry_core.proofs.masked.push_copies.Goals as goal

pub returns : goal.returns
returns g c =
    c.loop-entry.invariant
    ∙ ap (λ es. c.args.list.now.items ++ live_ones c.args.mask es) (take_all c.loop-entry.entry-index c.args.entries.now c.loop-entry-test.false)
