use Rattle.std.proofs.Common.{ap, ◌∙◌}
use Rattle.std.specs.FinSet as set
use Rattle.std.specs.FinMap as fin
use Rattle.dots_core.specs.Names.{Names}
use Rattle.replica_core.specs.Views.{View, view_of}
use Rattle.replica_core.proofs.Views.{up_known_forgotten, view-forgotten}
use Rattle.replica_core.proofs.view.View.forget.Goals as goal

pub invariant_of-self : goal.invariant_of-self
invariant_of-self c =
    rw (c.without-self-inside.ensures, c.without-self-inside-2.ensures) (up_known_forgotten c.self.inside.known c.self.inside.up c.self.invariant c.args.name)

pub returns : goal.returns
returns c =
    ap (λ (s : Names). view_of (set.items s) c.without-self-inside-2.result) c.without-self-inside.ensures
    ∙ ap (λ (s : Names). view_of (set.items (set.remove c.self.inside.known c.args.name)) s) c.without-self-inside-2.ensures
    ∙ view-forgotten c.self.inside.known c.self.inside.up c.args.name
    ∙ ap (λ (v : View). fin.remove v c.args.name) c.self.view_is
