use Rattle.std.proofs.Common.{◌==◌, subst, sym, ◌∙◌}
use Rattle.payload_core.specs.Presences.{Presence, dots_of}
use Rattle.replica_core.specs.Leaves.{AreOwnSeen}
use Rattle.replica_core.proofs.Left.{own_dots_seen}
use Rattle.replica_core.proofs.replica.process_leaves.dots_of_process.Goals as goal

pub returns-clause-dots : goal.returns-clause-dots
returns-clause-dots g c =
    c.in_ok-leaving.ensures ∙ (λ i. dots_of (c.own.ensures i) (λ (p : Presence). p.pid == c.args.pid) (c.entries.ensures i))

pub returns-clause-own : goal.returns-clause-own
returns-clause-own g c =
    subst (λ ds. AreOwnSeen ds c.args.replica.now) (sym (returns-clause-dots g c))
    (own_dots_seen c.args.replica.now (λ (p : Presence). p.pid == c.args.pid) c.replica_law.ensures)

pub replica_law-requires : goal.replica_law-requires
replica_law-requires g c = search tt

pub entries-requires : goal.entries-requires
entries-requires g c = search tt

pub own-requires : goal.own-requires
own-requires g c = search tt
