use Rattle.std.proofs.Common.{◌++◌, ap, ◌∙◌, map, take_all}
use Rattle.entry_core.specs.Presences.{Entry}
use Rattle.entry_core.specs.Lists.{live_ones}
use Rattle.entry_core.proofs.masked.push_dots.Goals as goal

pub returns : goal.returns
returns g c =
    c.loop-entry.invariant
    ∙ ap (λ es. c.args.dots.now.items ++ map (λ (e : Entry). e.dot) (live_ones c.args.mask es))
    (take_all c.loop-entry.entry-index c.args.entries.now c.loop-entry-test.false)
