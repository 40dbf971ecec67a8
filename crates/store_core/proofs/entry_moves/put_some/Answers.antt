use Rattle.std.proofs.Common.{refl}
use Rattle.entry_core.specs.EntryLists.{pairs}
use Rattle.store_core.proofs.MovedEntries.{first_new, next_back, next_new, next_with, out_new, rest_of}
use Rattle.store_core.proofs.entry_moves.put_some.Goals as goal

pub loop-handle-init : goal.loop-handle-init
loop-handle-init g c = record { new = c.requires; rest = refl; back = out_new (pairs c.args.handles.now) c.args.entries.now.map c.requires }

pub put_shared-requires : goal.put_shared-requires
put_shared-requires g c =
    first_new c.args.handles.now c.loop-handle.handle-index c.handle-item.result c.loop-handle.entries.map c.loop-handle.entries.map
    (rest_of c.args.handles.now c.loop-handle.handle-index c.handle-item.result c.loop-handle-test.true c.handle-item.is) c.loop-handle.invariant.new

pub loop-handle-preserved : goal.loop-handle-preserved
loop-handle-preserved g c =
    let es = c.args.handles.now in
    let i = c.loop-handle.handle-index in
    let at = rest_of es i c.handle-item.result c.loop-handle-test.true c.handle-item.is in
    record {
      new = next_new es i c.handle-item.result c.loop-handle.entries.map _ at c.in_ok-put_shared.ensures.ok c.loop-handle.invariant.new;
      rest = next_with es i c.handle-item.result c.loop-handle.entries.map _ at _ c.in_ok-put_shared.ensures.ok c.loop-handle.invariant.rest;
      back = next_back es i c.handle-item.result c.loop-handle.entries.map _ at _ c.in_ok-put_shared.ensures.ok c.loop-handle.invariant.back;
    }
