use Rattle.std.proofs.Common.{◌≡◌, true, ap, ◌∙◌}
use Rattle.std.specs.FinSet as set
use Rattle.std.specs.FinMap as fin
use Rattle.dots_core.specs.Names.{Names}
use Rattle.replica_core.specs.declared.status.Status.TheVariants.{Down}
use Rattle.replica_core.specs.Views.{View, view_of}
use Rattle.replica_core.proofs.Views.{up_known_lowered, view-lowered, known_names}
use Rattle.replica_core.proofs.view.View.lower.Goals as goal

pub invariant_of-self : goal.invariant_of-self
invariant_of-self c = rw c.without-self-inside.ensures (up_known_lowered c.self.inside.known c.self.inside.up c.self.invariant c.args.name)

pub returns : goal.returns
returns c =
    let known : set.contains c.self.inside.known c.args.name ≡ true = known_names c.self.inside.known c.self.inside.up c.args.name
    ∙ ap (λ (v : View). fin.contains_key v c.args.name) c.self.view_is ∙ c.requires.known in
    ap (λ (s : Names). view_of (set.items c.self.inside.known) s) c.without-self-inside.ensures
    ∙ view-lowered c.self.inside.known c.self.inside.up c.args.name known
    ∙ ap (λ (v : View). fin.insert v c.args.name Down) c.self.view_is
