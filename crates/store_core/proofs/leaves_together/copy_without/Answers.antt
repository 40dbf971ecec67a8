use Rattle.std.proofs.Common.{rules, ◌∙◌, ap, length}
use Rattle.store_core.specs.LeavesTogether.{dots_before_each, without_next}
use Rattle.store_core.proofs.leaves_together.copy_without.Goals as goal

pub unsee_each-requires : goal.unsee_each-requires
unsee_each-requires g c = (search rules, c.requires.valid)

pub returns : goal.returns
returns g c =
    c.in_ok-unsee_each.ensures
    ∙ ap (dots_before_each c.args.lefts.now) (c.in_ok-unsee_next.ensures.seen
    ∙ ap (without_next c.args.name c.args.clock (length c.args.lefts.now)) c.in_ok-copy.ensures)
