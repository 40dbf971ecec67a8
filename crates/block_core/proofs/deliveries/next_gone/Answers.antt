use Rattle.std.proofs.Common.{◌+◌}
use Rattle.std.specs.FinSet as set
use Rattle.block_core.specs.Deliveries.{is_gone}
use Rattle.block_core.specs.Sets.{set_map}
use Rattle.block_core.proofs.Passes.{alike_pass, both_none}
use Rattle.block_core.proofs.deliveries.next_gone.Goals as goal

pub returns-clause-passed : goal.returns-clause-passed
returns-clause-passed g c =
    both_none (is_gone (set.contains c.args.names) c.args.seen.now (set_map c.args.message.now)) c.args.blocks.now c.args.at
    (c.args.at + c.count_alike.result) c.next_seen.result
    (alike_pass (set.contains c.args.names) c.args.seen.now c.args.message.now c.args.blocks.now c.args.at (c.args.at + c.count_alike.result)
    c.requires.ours c.count_alike.ensures.alike) (c.next_seen.ensures.passed (set_map c.args.message.now))
