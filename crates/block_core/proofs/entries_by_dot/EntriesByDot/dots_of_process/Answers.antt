use Rattle.std.proofs.Common.{◌==◌, ◌∙◌, ◌++◌, ap, filter, map}
use Rattle.entry_core.specs.Presences.{Entry, Presence}
use Rattle.block_core.proofs.Walks.{dots_walked}
use Rattle.block_core.proofs.entries_by_dot.EntriesByDot.dots_of_process.Goals as goal

pub loop-entry-init : goal.loop-entry-init
loop-entry-init g c =
    let test = λ (e : Entry). e.pid == c.args.pid in
    ap (λ ds. ds ++ map (λ (e : Entry). e.dot) (filter test c.walk_of-walk.result)) c.new-dots.ensures.items
    ∙ ap (λ es. map (λ (e : Entry). e.dot) (filter test es)) c.walk_of-walk.ensures
    ∙ dots_walked c.args.name (λ (p : Presence). p.pid == c.args.pid) c.args.self.now.map
