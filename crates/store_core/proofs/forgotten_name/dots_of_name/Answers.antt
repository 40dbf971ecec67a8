use Rattle.std.proofs.Common.{◌==◌, ◌∙◌, ◌++◌, ap, map}
use Rattle.entry_core.specs.Presences.{Entry, entries_of_names}
use Rattle.store_core.proofs.PutBack.{dots_listed}
use Rattle.store_core.proofs.forgotten_name.dots_of_name.Goals as goal

pub loop-entry-init : goal.loop-entry-init
loop-entry-init g c =
    ap (λ ds. ds ++ map (λ (e : Entry). e.dot) c.walk_of-walk.result) c.new-dots.ensures.items
    ∙ ap (λ es. map (λ (e : Entry). e.dot) es) c.walk_of-walk.ensures
    ∙ dots_listed (entries_of_names (λ n. n == c.args.name) c.args.entries.now.map)
