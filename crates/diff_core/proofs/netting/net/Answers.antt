use Rattle.std.proofs.Common.{List, ◌∙◌, ap}
use Rattle.diff_core.specs.Rows.{Row}
use Rattle.diff_core.specs.NetChanges.{beyond}
use Rattle.diff_core.proofs.NetChanges.{net_alone, comes_back}
use Rattle.diff_core.proofs.netting.net.Goals as goal

pub returns-clause-left : goal.returns-clause-left
returns-clause-left g c before after order also comes =
    c.in_ok-rows_beyond.ensures
    ∙ ap (λ (ls : List Row). beyond ls c.deref-2.result.now) c.deref.ensures.value
    ∙ ap (beyond c.in_ok-left.left.items) c.deref-2.ensures.value
    ∙ net_alone before after c.args.left.now c.args.joined.now c.in_ok-left.left.items c.in_ok-joined.joined.items order also
    c.in_ok-left.ensures.all c.in_ok-left.ensures.sorted c.in_ok-joined.ensures.all c.in_ok-joined.ensures.sorted comes

pub returns-clause-joined : goal.returns-clause-joined
returns-clause-joined g c before after order also comes =
    c.in_ok-rows_beyond-2.ensures
    ∙ ap (λ (js : List Row). beyond js c.deref-4.result.now) c.deref-3.ensures.value
    ∙ ap (beyond c.in_ok-joined.joined.items) c.deref-4.ensures.value
    ∙ net_alone after before c.args.joined.now c.args.left.now c.in_ok-joined.joined.items c.in_ok-left.left.items also order
    c.in_ok-joined.ensures.all c.in_ok-joined.ensures.sorted c.in_ok-left.ensures.all c.in_ok-left.ensures.sorted
    (comes_back before after c.args.left.now c.args.joined.now comes)
