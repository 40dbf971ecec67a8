use Rattle.std.specs.Option.{is_some}
use Rattle.std.proofs.Common.{slice_get, ◌∙◌, ap, rules}
use Rattle.payload_core.specs.Presences.{is_tracked_as, dots_of}
use Rattle.replica_core.proofs.Calls.{is_some_first}
use Rattle.replica_core.proofs.replica.Replica.is_tracked.Goals as goal

pub entries-requires : goal.entries-requires
entries-requires g c = search tt

pub own-requires : goal.own-requires
own-requires g c = search tt

pub find-requires : goal.find-requires
find-requires g c = search rules

pub is_some-requires : goal.is_some-requires
is_some-requires g c = search rules

pub returns : goal.returns
returns g c =
    c.is_some.ensures
    ∙ ap is_some (c.find.ensures
    ∙ (λ i. slice_get (dots_of (c.own.ensures i) (is_tracked_as c.args.pid c.args.topic.now c.args.key.now) (c.entries.ensures i)) 0))
    ∙ is_some_first _
