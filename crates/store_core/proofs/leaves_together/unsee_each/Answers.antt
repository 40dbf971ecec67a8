use Rattle.std.proofs.Common.{◌∙◌, ◌+◌, ◌∷◌, List, ap, drop, rules, subst, sym}
use Rattle.std.proofs.lemmas.List.{at_drop_all, at_drop_more}
use Rattle.dots_core.specs.Dots.{IsValid}
use Rattle.store_core.specs.LeftEntries.{Left}
use Rattle.store_core.specs.LeavesTogether.{dots_before_each}
use Rattle.store_core.proofs.leaves_together.unsee_each.Goals as goal

pub unsee-requires : goal.unsee-requires
unsee-requires g c = (
  search rules,
  subst (λ (l : Left). IsValid l.entry.dot) (sym c.left-item.is) (c.requires c.loop-left.left-index c.left-item.result c.loop-left-test.true),
)

pub loop-left-preserved : goal.loop-left-preserved
loop-left-preserved g c =
    let rest = drop (c.loop-left.left-index + 1) c.args.lefts.now in
    ap (dots_before_each rest) c.in_ok-unsee.ensures.ok
    ∙ ap (λ (l : Left). dots_before_each (l ∷ rest) c.loop-left.seen) c.left-item.is
    ∙ sym (at_drop_more (λ (ls : List Left). dots_before_each ls c.loop-left.seen) c.args.lefts.now c.loop-left.left-index _ c.loop-left-test.true)
    ∙ c.loop-left.invariant

pub returns : goal.returns
returns g c =
    sym (at_drop_all (λ (ls : List Left). dots_before_each ls c.loop-left.seen) c.args.lefts.now c.loop-left.left-index c.loop-left-test.false)
    ∙ c.loop-left.invariant
