use Rattle.std.proofs.Common.{subst}
use Rattle.replica_core.specs.Views.{View, AreKnown}
use Rattle.replica_core.proofs.Views.{known_is, known_names}
use Rattle.replica_core.proofs.view.View.known.Goals as goal

pub returns-clause-known : goal.returns-clause-known
returns-clause-known c = subst (λ (v : View). AreKnown v c.self.inside.known) c.self.view_is (known_names c.self.inside.known c.self.inside.up)

pub returns-clause-names : goal.returns-clause-names
returns-clause-names c =
    known_is c.args.self.now c.self.inside.known
    (subst (λ (v : View). AreKnown v c.self.inside.known) c.self.view_is (known_names c.self.inside.known c.self.inside.up))
