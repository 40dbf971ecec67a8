use Rattle.std.proofs.Common.{◌∙◌, ◌++◌, ap, add-one}
use Rattle.dots_core.specs.declared.dot.Dot.{Dot}
use Rattle.network_rules.specs.Queries.{message_queries, message_query}
use Rattle.network_rules.proofs.KeyLoops.{asked_more}
use Rattle.network_rules.proofs.Lookups.{read_or}
use Rattle.network_rules.proofs.key.put_message.Goals as goal

abbrev none : Dot
none = record { name = 0; clock = 0 }

pub loop-place-preserved : goal.loop-place-preserved
loop-place-preserved g c =
    asked_more c.args.cluster.now c.args.key.now.items c.loop-place.key.items c.put_in_message.new.key.items (message_queries c.args.dots.now c.args.node c.args.number c.args.names c.loop-place.place) _ _
    c.loop-place.invariant c.in_ok-put_in_message.ensures
    (ap (message_queries c.args.dots.now c.args.node c.args.number c.args.names) (add-one c.loop-place.place)
    ∙ ap (λ o. message_queries c.args.dots.now c.args.node c.args.number c.args.names c.loop-place.place ++ message_query c.args.node c.args.number c.args.names o) (read_or c.args.dots.now c.loop-place.place none c.loop-place-test.true))
