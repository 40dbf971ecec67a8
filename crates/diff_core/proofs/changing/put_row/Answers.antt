use Rattle.diff_core.proofs.changing.put_row.Goals as goal

-- its own requirement is that of the call
pub online-requires : goal.online-requires
online-requires g c = search tt
