use Rattle.std.proofs.Common.{◌∙◌, refl, sym, subst}
use Rattle.std.proofs.lemmas.Bool.{eq-eqb, eqb-true}
use Rattle.std.proofs.lemmas.Slice.Eq.{slice_eq-Decides}
use Rattle.explore_network.specs.Keys.{IsAmong}
use Rattle.explore_network.proofs.KnownKeys.{any_among}
use Rattle.explore_network.proofs.table.Table.has.Goals as goal

pub returns : goal.returns
returns g c = λ h. subst (IsAmong c.args.key.now.items) c.self.view_is
    (any_among _ (λ key. key.items) c.args.key.now.items c.self.inside.known.keys (λ v is. (slice_eq-Decides (λ a b. (eqb-true a b, eq-eqb a b)) c.args.key.now.items v.items _ refl).0 is) (sym c.contains.ensures ∙ h))
