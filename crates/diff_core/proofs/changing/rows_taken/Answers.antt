use Rattle.replica_core.specs.Changes.{plain_change}
use Rattle.diff_core.proofs.Told.{told_left}
use Rattle.diff_core.proofs.changing.rows_taken.Goals as goal

pub returns : goal.returns
returns g c =
    told_left (plain_change c.args.change.now) c.args.after.now c.requires _ _ c.sort_unstable.ensures.permutation
    c.sort_unstable.ensures.sorted c.in_ok-rows.ensures

-- its own requirement is that of the call
pub taken-requires : goal.taken-requires
taken-requires g c = search tt
