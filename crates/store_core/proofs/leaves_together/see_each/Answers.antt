use Rattle.std.proofs.Common.{◌∙◌, ◌+◌, List, ap, drop, rules, sym}
use Rattle.std.proofs.lemmas.List.{at_drop_all, at_drop_more}
use Rattle.dots_core.specs.declared.dot.Dot.{Dot}
use Rattle.store_core.specs.LeavesTogether.{with_dots}
use Rattle.store_core.proofs.leaves_together.see_each.Goals as goal

pub insert-requires : goal.insert-requires
insert-requires g c = (search rules, c.requires c.loop-dot.dot-index _ c.loop-dot-test.true)

pub loop-dot-preserved : goal.loop-dot-preserved
loop-dot-preserved g c =
    ap (with_dots (drop (c.loop-dot.dot-index + 1) c.args.dots.now)) c.in_ok-insert.ensures.ok
    ∙ sym (at_drop_more (λ (ds : List Dot). with_dots ds c.loop-dot.seen) c.args.dots.now c.loop-dot.dot-index _ c.loop-dot-test.true)
    ∙ c.loop-dot.invariant

pub returns : goal.returns
returns g c =
    sym (at_drop_all (λ (ds : List Dot). with_dots ds c.loop-dot.seen) c.args.dots.now c.loop-dot.dot-index c.loop-dot-test.false)
    ∙ c.loop-dot.invariant
