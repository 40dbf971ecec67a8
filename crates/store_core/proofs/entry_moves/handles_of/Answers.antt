use Rattle.store_core.proofs.PutBack.{drop_next}
use Rattle.store_core.proofs.MovedEntries.{found_none, found_some}
use Rattle.store_core.proofs.entry_moves.handles_of.Goals as goal
use Rattle.store_core.proofs.entry_moves.handles_of.Goals.{in-Some+in_ok-push, in_default}

pub loop-dot-preserved : goal.loop-dot-preserved
loop-dot-preserved g c =
    let at = drop_next c.args.dots.now c.loop-dot.dot-index _ c.loop-dot-test.true in
    elim c.match-branch-3.branch [
      | in-Some+in_ok-push w ↦ rw w.handles-is
          (found_some c.args.dots.now c.loop-dot.dot-index _ c.args.entries.now.map at _ _ _ _ _ c.in_ok-handle.ensures w.in-Some.is
          w.in_ok-push.ensures.items c.loop-dot.invariant)
      | in_default w ↦ rw w.handles-is
          (found_none c.args.dots.now c.loop-dot.dot-index _ c.args.entries.now.map at _ _ _ c.in_ok-handle.ensures w.in_default.is c.loop-dot.invariant)
    ]
