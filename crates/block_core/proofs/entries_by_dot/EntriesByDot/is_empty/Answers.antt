use Rattle.std.proofs.Common.{ap, arith, eqb-true, eq-eqb}
use Rattle.std.specs.FinMap as fin
use Rattle.dots_core.specs.Dots.{dot_cmp}
use Rattle.entry_core.specs.Presences.{Presence}
use Rattle.block_core.proofs.entries_by_dot.EntriesByDot.is_empty.Goals as goal

pub returns : goal.returns
returns g c =
    let known = c.len.ensures.len in (
      λ none. fin.empty_of_len c.args.self.now.map (omega (arith, eqb-true _ 0 none, known)),
      λ none. eq-eqb _ 0 (omega (arith, known, ap fin.len none, fin.len-empty dot_cmp Presence)),
    )
