use Rattle.std.proofs.Common.{◌≡◌, ap, ◌∙◌}
use Rattle.std.specs.FinSet as set
use Rattle.std.specs.FinMap as fin
use Rattle.dots_core.specs.Names.{Names}
use Rattle.replica_core.specs.declared.status.Status.TheVariants.{Up}
use Rattle.replica_core.specs.Views.{view_of}
use Rattle.replica_core.proofs.Views.{view-raised, view_of_none}
use Rattle.replica_core.proofs.view.View.opening.Goals as goal

pub returns : goal.returns
returns c =
    let own : c.with-own.result ≡ set.insert set.empty c.args.own = c.with-own.ensures ∙ ap (λ (s : Names). set.insert s c.args.own) c.empty.ensures in
    ap (λ (s : Names). view_of (set.items s) s) own ∙ view-raised set.empty set.empty c.args.own ∙ ap (λ v. fin.insert v c.args.own Up) (view_of_none set.empty)
