use Rattle.std.proofs.Common.{true, false, refl, sym, ap, ◌∙◌}
use Rattle.std.specs.FinSet as set
use Rattle.std.specs.FinMap as fin
use Rattle.replica_core.specs.Views.{View}
use Rattle.replica_core.proofs.Views.{answered}
use Rattle.replica_core.proofs.view.View.status.Goals as goal

pub returns-then-not-has : goal.returns-then-not-has
returns-then-not-has c =
    let known = sym c.has.ensures ∙ c.if-not-has.true in
    sym (answered c.self.inside.known c.self.inside.up c.args.name false (set.contains c.self.inside.up c.args.name) known refl)
    ∙ ap (λ (v : View). fin.get v c.args.name) c.self.view_is

pub returns-then-has : goal.returns-then-has
returns-then-has c =
    let known = sym c.has.ensures ∙ c.if-not-has.false in
    let up = sym c.has-2.ensures ∙ c.if-has.true in
    sym (answered c.self.inside.known c.self.inside.up c.args.name true true known up) ∙ ap (λ (v : View). fin.get v c.args.name) c.self.view_is

pub returns-else-has : goal.returns-else-has
returns-else-has c =
    let known = sym c.has.ensures ∙ c.if-not-has.false in
    let up = sym c.has-2.ensures ∙ c.if-has.false in
    sym (answered c.self.inside.known c.self.inside.up c.args.name true false known up) ∙ ap (λ (v : View). fin.get v c.args.name) c.self.view_is
