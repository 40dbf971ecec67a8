use Rattle.std.proofs.Common.{◌++◌, ◌∷◌, [], List, sym, subst}
use Rattle.bench_core.specs.Benches.{LeadsNodeBack, NodeGoesBack}
use Rattle.change_core.specs.Walks.{IsWalk, Led, Taken, Walk}
use Rattle.change_core.proofs.Walks.{may_go_back, went_back}
use Rattle.change_core.proofs.walk.Walk.back.Goals as goal

pub give_back-requires : goal.give_back-requires
give_back-requires g c =
    let led : Led c.requires.0 c.requires.1 (c.pop.new.self.items ++ c.in-Some.taken ∷ []) c.self.inside.cluster =
    subst (λ (ts : List Taken). Led c.requires.0 c.requires.1 ts c.self.inside.cluster) c.in-Some.ensures.items
    (subst (λ (w : Walk). IsWalk c.requires.0 c.requires.1 w) (sym c.self.view_is) c.requires.2) in
    subst (λ (t : Taken). LeadsNodeBack c.self.inside.cluster t.node t.inverse) (sym c.taken.view_is)
    (may_go_back c.requires.0 c.requires.1 c.pop.new.self.items c.in-Some.taken c.self.inside.cluster led)

pub returns-clause-stays : goal.returns-clause-stays
returns-clause-stays g c = λ ks first h.
    let led : Led ks first (c.pop.new.self.items ++ c.in-Some.taken ∷ []) c.self.inside.cluster =
    subst (λ (ts : List Taken). Led ks first ts c.self.inside.cluster) c.in-Some.ensures.items (subst (λ (w : Walk). IsWalk ks first w) (sym c.self.view_is) h) in
    went_back ks first c.pop.new.self.items c.in-Some.taken c.self.inside.cluster c.give_back.new.self led
    (subst (λ (t : Taken). NodeGoesBack c.self.inside.cluster t.node t.inverse c.give_back.new.self) c.taken.view_is c.in_default-give_back.ensures.ok)
