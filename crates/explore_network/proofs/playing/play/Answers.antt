use Rattle.std.proofs.Common.{◌≡◌, ◌∙◌, Some, ap, rules, slice_get, sym}
use Rattle.std.specs.Option.{option_copied}
use Rattle.bench_core.proofs.Places.{looked_up}
use Rattle.bench_core.specs.Clusters.{step}
use Rattle.explore_network.proofs.Played.{plays, plays_not}
use Rattle.explore_network.proofs.playing.play.Goals as goal

pub returns-in-Ok : goal.returns-in-Ok
returns-in-Ok g c = λ end run.
    let here : slice_get c.args.steps.now c.args.place ≡ Some c.in-Some.kept.now = sym (looked_up c.get.result c.args.steps.now c.args.place c.get.ensures.lookup.0 c.get.ensures.lookup.1) ∙ ap option_copied c.in-Some.is in
    plays c.args.steps.now c.args.place c.in-Some.kept.now c.args.cluster.now c.step.new.self end here
    ((λ i. step c.args.cluster.now (sym c.kept.view_is i).node (sym c.kept.view_is i).step) ∙ c.in-Ok.ensures.taken) run

pub returns-in-Err : goal.returns-in-Err
returns-in-Err g c = λ end run.
    let here : slice_get c.args.steps.now c.args.place ≡ Some c.in-Some.kept.now = sym (looked_up c.get.result c.args.steps.now c.args.place c.get.ensures.lookup.0 c.get.ensures.lookup.1) ∙ ap option_copied c.in-Some.is in
    absurd (plays_not c.args.steps.now c.args.place c.in-Some.kept.now c.args.cluster.now end c.in-Err.field-0 here
    ((λ i. step c.args.cluster.now (sym c.kept.view_is i).node (sym c.kept.view_is i).step) ∙ c.in-Err.ensures.refused (λ same. search rules)) run)
