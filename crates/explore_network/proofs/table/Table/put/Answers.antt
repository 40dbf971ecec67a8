use Rattle.std.proofs.Common.{◌≡◌, ◌⊎◌, ◌++◌, ◌∷◌, [], OnOk, map, refl, sym, subst}
use Rattle.std.proofs.lemmas.Bool.{eq-eqb, eqb-true}
use Rattle.std.proofs.lemmas.Slice.Eq.{slice_eq-Decides}
use Rattle.explore_network.specs.Keys.{IsAmong}
use Rattle.explore_network.proofs.KnownKeys.{put_cases}
use Rattle.explore_network.proofs.table.Table.put.Goals as goal
use Rattle.explore_network.proofs.table.Table.put.Goals.{in-Ok, in-Err}

pub returns : goal.returns
returns g c =
    let key = c.args.key.items in
    let new = map (λ key. key.items) c.insert.new.self.keys in
    elim c.match-insert.branch [
      | in-Ok w ↦ subst (λ r. OnOk r ((new ≡ c.args.self.now) ⊎ ((new ≡ c.args.self.now ++ key ∷ []) × (IsAmong key c.args.self.now → ⊥)))) (sym w.result-is)
          (subst (λ old. (new ≡ old) ⊎ ((new ≡ old ++ key ∷ []) × (IsAmong key old → ⊥))) c.self.view_is
          (put_cases _ (λ key. key.items) c.args.key c.self.inside.known.keys c.insert.new.self.keys w.in-Ok.ensures.keys
          (λ v e. (slice_eq-Decides (λ a b. (eqb-true a b, eq-eqb a b)) key v.items _ refl).1 (sym e))))
      | in-Err w ↦ subst (λ r. OnOk r ((new ≡ c.args.self.now) ⊎ ((new ≡ c.args.self.now ++ key ∷ []) × (IsAmong key c.args.self.now → ⊥)))) (sym w.result-is) tt
    ]
