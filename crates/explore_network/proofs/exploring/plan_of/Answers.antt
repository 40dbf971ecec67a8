use Rattle.std.proofs.Common.{◌∙◌, ap, refl}
use Rattle.explore_network.specs.Plans.{Plan}
use Rattle.explore_network.specs.Questions.{plain}
use Rattle.explore_network.specs.Turns.{ranks_of, turns_of}
use Rattle.explore_network.proofs.Starts.{plan_is}
use Rattle.explore_network.proofs.exploring.plan_of.Goals as goal

pub returns-in-Ok-clause-plan : goal.returns-in-Ok-clause-plan
returns-in-Ok-clause-plan g c = λ end run.
    let ts = c.in-Ok.parts.turns.items in
    let p : Plan = record { limits = c.args.limits; count = c.args.count; steps = c.args.steps.items; lost = c.args.bounds.lost; again = c.args.bounds.again; most = c.args.bounds.states; turns = ts; ranks = c.in-Ok.parts.ranks.items; tables = c.in-Ok.parts.cone } in
    plan_is p (plain c.args.question.now) c.deref.result.now c.deref.result.now ts c.in-Ok.parts.ranks.items c.in-Ok.parts.cone.dots end
    c.requires.few c.requires.limits (c.in-Ok.ensures.turns ∙ ap (λ j. turns_of j c.args.count) c.deref.ensures.value)
    (c.in-Ok.ensures.ranks ∙ ap (ranks_of ts) c.deref.ensures.value) c.requires.room c.deref.ensures.value refl c.in-Ok.ensures.closed
    refl c.in-Ok.ensures.asked c.deref.ensures.value c.in-Ok.ensures.dots refl run
