use Rattle.std.proofs.Common.{◌∙◌, ap}
use Rattle.bench_core.specs.Acts.{Action, plain_act}
use Rattle.bench_core.specs.Histories.{note}
use Rattle.bench_core.proofs.history.History.record.Goals as goal

pub returns-clause-ok : goal.returns-clause-ok
returns-clause-ok g c =
    c.in_ok-push.ensures.items
    ∙ ap (λ (a : Action). note c.args.actor a c.args.reply c.self.inside.events.items) c.in_ok-act.ensures
    ∙ ap (note c.args.actor (plain_act c.args.act.now) c.args.reply) c.self.view_is
