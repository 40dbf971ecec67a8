use Rattle.std.proofs.Common.{◌∙◌, ◌++◌, ap, add-one, sym}
use Rattle.bench_core.proofs.Places.{looked_up}
use Rattle.network_rules.specs.Queries.{queries_of_messages, sent_queries}
use Rattle.network_rules.proofs.KeyLoops.{asked_more, asked_none}
use Rattle.network_rules.proofs.Lookups.{read_at}
use Rattle.network_rules.proofs.key.put_messages.Goals as goal

pub loop-place-init : goal.loop-place-init
unfolding queries_of_messages
loop-place-init g c = asked_none c.args.state.now.cluster.now c.args.key.now.items

pub loop-place-preserved : goal.loop-place-preserved
unfolding queries_of_messages
loop-place-preserved g c =
    let t = c.args.cone.now in
    let p = c.loop-place.place in
    asked_more c.args.state.now.cluster.now c.args.key.now.items c.loop-place.key.items c.put_place.new.key.items (queries_of_messages t c.args.run.now.steps.now c.args.run.now.ranks.now c.args.state.now.counts.now p) _ _
    c.loop-place.invariant c.in_ok-put_place.ensures
    (ap (queries_of_messages t c.args.run.now.steps.now c.args.run.now.ranks.now c.args.state.now.counts.now) (add-one p) ∙ (λ i. queries_of_messages t c.args.run.now.steps.now c.args.run.now.ranks.now c.args.state.now.counts.now p ++ sent_queries t c.args.state.now.counts.now (read_at c.args.run.now.steps.now p c.index-steps-place.result c.loop-place-test.true c.index-steps-place.is i)
    (sym (looked_up c.get.result c.args.run.now.ranks.now p c.get.ensures.lookup.0 c.get.ensures.lookup.1) i)))
