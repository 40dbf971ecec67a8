use Rattle.std.proofs.Common.{rules, sym, subst}
use Rattle.dots_core.specs.Dots.{AreValid}
use Rattle.replica_core.proofs.Sizes.{seen_fits}
use Rattle.report_core.proofs.dots_text.put_name.Goals as goal

pub clock_of-requires : goal.clock_of-requires
clock_of-requires g c = (search rules, (c.requires.name, subst AreValid (sym c.seen-seen.ensures) c.requires.valid))

pub cloud_of-requires : goal.cloud_of-requires
cloud_of-requires g c = (search rules, (c.requires.name, subst AreValid (sym c.seen-seen.ensures) c.requires.valid))

-- the dots that it saw fit in memory where the replica does
pub seen-seen-requires : goal.seen-seen-requires
seen-seen-requires g c = (search tt, seen_fits g.row.R g.R.Allocator (search tt))

-- its own requirement is that of the call
pub status-requires : goal.status-requires
status-requires g c = search tt
