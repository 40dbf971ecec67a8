use Rattle.std.proofs.Common.{subst, ◌∙◌, ap, rules}
use Rattle.replica_core.specs.Views.{AreKnown, known_of}
use Rattle.replica_core.specs.Replicas.{Replica}
use Rattle.replica_core.proofs.replica.Replica.known.Goals as goal

pub known-requires : goal.known-requires
known-requires g c = search rules

pub returns-clause-names : goal.returns-clause-names
returns-clause-names g c = c.known.ensures.names ∙ ap (λ (r : Replica). known_of r.view) c.self.view_is

pub returns-clause-known : goal.returns-clause-known
returns-clause-known g c = subst (λ (r : Replica). AreKnown r.view c.known.result) c.self.view_is c.known.ensures.known
