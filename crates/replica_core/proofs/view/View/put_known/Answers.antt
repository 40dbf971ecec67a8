use Rattle.std.proofs.Common.{sym, ap, ◌∙◌}
use Rattle.std.specs.FinMap as fin
use Rattle.replica_core.specs.declared.status.Status.{Status}
use Rattle.replica_core.specs.declared.status.Status.TheVariants.{Up, Down}
use Rattle.replica_core.specs.Views.{View}
use Rattle.replica_core.proofs.Views.{inserted_known, insert_twice}
use Rattle.replica_core.proofs.view.View.put_known.Goals as goal

pub lower-requires-clause-known : goal.lower-requires-clause-known
lower-requires-clause-known c = ap (λ (v : View). fin.contains_key v c.args.name) c.raise-in-Down.ensures ∙ inserted_known c.args.self.now c.args.name Up

pub returns-in-Down : goal.returns-in-Down
returns-in-Down c =
    c.lower.ensures
    ∙ ap (λ (v : View). fin.insert v c.args.name Down) c.raise-in-Down.ensures
    ∙ insert_twice c.args.self.now c.args.name Up Down
    ∙ sym (ap (λ (s : Status). fin.insert c.args.self.now c.args.name s) c.in-Down.is)
