use Rattle.std.proofs.Common.{◌≡◌, ◌∙◌, rules, Some, true, false, refl, sym, ap, subst, slice_get}
use Rattle.std.specs.Option.{option_copied}
use Rattle.bench_core.proofs.Places.{looked_up}
use Rattle.bench_core.specs.Benches.{LeadsClusterBack}
use Rattle.bench_core.specs.Clusters.{step, Cluster}
use Rattle.node_core.specs.Inverses.{plain_inverse}
use Rattle.journal_core.specs.Journals.{Kept}
use Rattle.change_core.specs.Ends.{reached}
use Rattle.change_core.specs.Walks.{Asks, Taken, Walk}
use Rattle.change_core.proofs.Played.{nothing_read}
use Rattle.change_core.proofs.Walks.{asks_nothing, asks_refused, asks_taken}
use Rattle.change_core.proofs.walk.Walk.ask_at.Goals as goal

pub returns-in_default : goal.returns-in_default
returns-in_default g c = asks_nothing c.args.steps.now c.args.place c.args.self.now (nothing_read c.args.steps.now c.args.place (sym c.in_default.ensures.lookup.0))

pub returns-in_ok-push-in-Ok : goal.returns-in_ok-push-in-Ok
returns-in_ok-push-in-Ok g c =
    let at : slice_get c.args.steps.now c.args.place ≡ Some c.in-Some.kept.now =
    sym (looked_up c.get.result c.args.steps.now c.args.place c.get.ensures.lookup.0 c.get.ensures.lookup.1) ∙ ap option_copied c.in-Some.is in
    let t : Taken = record { place = c.args.place; node = c.kept.inside.node; inverse = plain_inverse c.in-Ok.inverse } in
    let new : Walk = record { cluster = c.step.new.self; taken = c.push.new.self.items } in
    subst (λ (w : Walk). Asks c.args.steps.now c.args.place w new true) c.self.view_is
    (asks_taken c.args.steps.now c.in-Some.kept.now c.args.place (record { cluster = c.self.inside.cluster; taken = c.self.inside.taken.items }) new t at
    (ap (λ (k : Kept). reached (step c.self.inside.cluster k.node k.step)) (sym c.kept.view_is) ∙ ap reached c.in-Ok.ensures.taken)
    (subst (λ (k : Kept). LeadsClusterBack c.step.new.self k.node (plain_inverse c.in-Ok.inverse) c.self.inside.cluster) c.kept.view_is c.in-Ok.ensures.leads_back)
    refl (ap (λ (k : Kept). k.node) c.kept.view_is) c.in_ok-push-in-Ok.ensures.items)

pub returns-in-Err : goal.returns-in-Err
returns-in-Err g c =
    let at : slice_get c.args.steps.now c.args.place ≡ Some c.in-Some.kept.now =
    sym (looked_up c.get.result c.args.steps.now c.args.place c.get.ensures.lookup.0 c.get.ensures.lookup.1) ∙ ap option_copied c.in-Some.is in
    let new : Walk = record { cluster = c.step.new.self; taken = c.self.inside.taken.items } in
    subst (λ (w : Walk). Asks c.args.steps.now c.args.place w new false) c.self.view_is
    (asks_refused c.args.steps.now c.in-Some.kept.now c.args.place (record { cluster = c.self.inside.cluster; taken = c.self.inside.taken.items }) new at
    (ap (λ (k : Kept). reached (step c.self.inside.cluster k.node k.step)) (sym c.kept.view_is) ∙ ap reached (c.in-Err.ensures.refused (search rules)))
    (ap (λ (d : Cluster). record { cluster = d; taken = c.self.inside.taken.items }) c.in-Err.ensures.unchanged))
