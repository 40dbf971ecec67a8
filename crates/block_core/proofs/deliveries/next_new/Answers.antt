use Rattle.std.proofs.Common.{◌∙◌, ap, arith, sym}
use Rattle.std.specs.FinSet as set
use Rattle.std.specs.Option.{option_copied}
use Rattle.block_core.proofs.Passes.{seen_before}
use Rattle.block_core.proofs.deliveries.next_new.Goals as goal

pub returns-else-base-eq0-clause-passed : goal.returns-else-base-eq0-clause-passed
returns-else-base-eq0-clause-passed g c =
    let some = c.if-base-eq0.false in
    let base = c.base.ensures.base in
    seen_before (set.contains c.args.names) c.args.seen.now c.args.message.now c.args.at c.in-Some.block.now c.requires.are
    (sym c.block_at.ensures ∙ ap option_copied c.in-Some.is) c.name-name.result c.clock_of.result c.place_behind.result (sym c.name-name.ensures)
    (omega (arith, some, base)) c.clock_of.ensures c.place_behind.ensures.before
