use Rattle.std.proofs.Common.{◌∙◌, ap, filter, map, slice_get}
use Rattle.entry_core.specs.Presences.{Entry, is_tracked_as, presence_of}
use Rattle.block_core.proofs.Walks.{dots_walked}
use Rattle.block_core.proofs.entries_by_dot.EntriesByDot.first_tracked.Goals as goal

pub loop-entry-init : goal.loop-entry-init
loop-entry-init g c =
    let test = is_tracked_as c.args.pid c.args.topic.now c.args.key.now in
    ap (λ es. slice_get (map (λ (e : Entry). e.dot) (filter (λ (e : Entry). test (presence_of e)) es)) 0) c.walk_of-walk.ensures
    ∙ ap (λ ds. slice_get ds 0) (dots_walked c.args.name test c.args.self.now.map)
