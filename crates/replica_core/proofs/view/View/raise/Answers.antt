use Rattle.std.proofs.Common.{ap, ◌∙◌}
use Rattle.std.specs.FinSet as set
use Rattle.std.specs.FinMap as fin
use Rattle.dots_core.specs.Names.{Names}
use Rattle.replica_core.specs.declared.status.Status.TheVariants.{Up}
use Rattle.replica_core.specs.Views.{View, view_of}
use Rattle.replica_core.proofs.Views.{up_known_raised, view-raised}
use Rattle.replica_core.proofs.view.View.raise.Goals as goal

pub invariant_of-self : goal.invariant_of-self
invariant_of-self c =
    rw (c.with-self-inside.ensures, c.with-self-inside-2.ensures) (up_known_raised c.self.inside.known c.self.inside.up c.self.invariant c.args.name)

pub returns : goal.returns
returns c =
    ap (λ (s : Names). view_of (set.items s) c.with-self-inside-2.result) c.with-self-inside.ensures
    ∙ ap (λ (s : Names). view_of (set.items (set.insert c.self.inside.known c.args.name)) s) c.with-self-inside-2.ensures
    ∙ view-raised c.self.inside.known c.self.inside.up c.args.name
    ∙ ap (λ (v : View). fin.insert v c.args.name Up) c.self.view_is
