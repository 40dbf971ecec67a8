use Rattle.std.proofs.Common.{ap, arith, length, take}
use Rattle.std.specs.FinMap as fin
use Rattle.std.proofs.lemmas.List.{length-append}
use Rattle.block_core.specs.Sets.{joined}
use Rattle.block_core.proofs.SetMaps.{joined_more, joined_within}
use Rattle.block_core.proofs.blocks.count_in.Goals as goal

pub overflow_add-count : goal.overflow_add-count
overflow_add-count g c =
    let most = c.len-count.ensures.most in
    let so_far = joined_within c.args.blocks.now c.loop-block.block-index in
    let all = c.requires in
    let is = c.loop-block.invariant in
    omega (arith, most, so_far, all, is)

pub loop-block-preserved : goal.loop-block-preserved
loop-block-preserved g c =
    let next = ap length (joined_more c.args.blocks.now c.loop-block.block-index c.block-item.result c.loop-block-test.true c.block-item.is) in
    let both = length-append (joined (take c.loop-block.block-index c.args.blocks.now)) (fin.entries c.block-item.result.map) in
    let len = fin.len-entries c.block-item.result.map in
    let is = c.loop-block.invariant in
    let known = c.len-count.ensures.len in
    omega (arith, next, both, len, is, known)
