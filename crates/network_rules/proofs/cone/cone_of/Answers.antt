use Rattle.std.proofs.Common.{◌<◌, ◌∙◌, map, ap}
use Rattle.std.specs.FinSet as set
use Rattle.dots_core.specs.declared.dot.Dot.{Dot}
use Rattle.network_rules.specs.Tables.{names_at}
use Rattle.network_rules.proofs.Lookups.{all_get}
use Rattle.network_rules.proofs.NameSets.{below_has}
use Rattle.network_rules.proofs.WantedDots.{wanted_at}
use Rattle.network_rules.proofs.cone.cone_of.Goals as goal

pub returns-clause-asked : goal.returns-clause-asked
returns-clause-asked g c = λ n less there turn here d wanted.
    let at = wanted_at c.args.dots.items d wanted in
    let lt = all_get (λ (d : Dot). d.name < 32) c.args.dots.items at.0 d c.requires at.1 in
    ap (λ rows. set.contains (names_at (map (λ row. row.items) rows) n turn.recorded) d.name) c.new.ensures.items ∙ below_has 32 d.name lt
