use Rattle.store_core.proofs.MovedEntries.{next_out, rest_of}
use Rattle.store_core.proofs.entry_moves.discard_each.Goals as goal

pub loop-handle-preserved : goal.loop-handle-preserved
loop-handle-preserved g c =
    next_out c.args.handles.now c.loop-handle.handle-index c.handle-item.result c.loop-handle.entries.map c.discard.new.self.map
    (rest_of c.args.handles.now c.loop-handle.handle-index c.handle-item.result c.loop-handle-test.true c.handle-item.is) c.dot.result _
    c.dot.ensures c.discard.ensures.map c.loop-handle.invariant
