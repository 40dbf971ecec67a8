use Rattle.std.proofs.Common.{rules, ◌∙◌, ap, length}
use Rattle.store_core.specs.LeavesTogether.{with_dots, with_next}
use Rattle.store_core.proofs.leaves_together.copy_with.Goals as goal

pub see_each-requires : goal.see_each-requires
see_each-requires g c = (search rules, c.requires.valid)

pub returns : goal.returns
returns g c =
    c.in_ok-see_next.ensures.seen
    ∙ ap (with_next c.args.name c.args.clock (length c.args.dots.now)) (c.in_ok-see_each.ensures ∙ ap (with_dots c.args.dots.now) c.in_ok-copy.ensures)
