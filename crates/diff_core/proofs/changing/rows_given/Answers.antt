use Rattle.replica_core.specs.Changes.{plain_change}
use Rattle.diff_core.proofs.Told.{told_joined}
use Rattle.diff_core.proofs.changing.rows_given.Goals as goal

pub returns : goal.returns
returns g c =
    told_joined (plain_change c.args.change.now) c.args.after.now c.requires _ _ c.sort_unstable.ensures.permutation
    c.sort_unstable.ensures.sorted c.in_ok-rows.ensures

-- its own requirement is that of the call
pub given-requires : goal.given-requires
given-requires g c = search tt
