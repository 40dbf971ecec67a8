use Rattle.std.proofs.Common.{◌≡◌, Bool, true, false, Option, None, Some, refl, ap, rules, arith, ◌∙◌}
use Rattle.std.specs.Option.{option_eq}
use Rattle.replica_core.specs.declared.status.Status.{Status}
use Rattle.replica_core.specs.declared.status.Status.TheVariants.{Up, Down}
use Rattle.replica_core.specs.Views.{is_some_up}
use Rattle.replica_core.specs.Replicas.{Replica, is_online}
use Rattle.replica_core.proofs.replica.Replica.online.Goals as goal

is_up_by : (eq : Status → Status → Bool) → eq Up Up ≡ true → eq Down Up ≡ false → (o : Option Status) → option_eq eq o (Some Up) ≡ is_some_up o
is_up_by eq up down None = refl
is_up_by eq up down (Some Up) = up
is_up_by eq up down (Some Down) = down

pub status-requires : goal.status-requires
status-requires g c = omega arith

pub eq-requires : goal.eq-requires
eq-requires g c = search rules

pub returns : goal.returns
returns g c =
    c.eq.ensures ∙ is_up_by _ refl refl _ ∙ ap is_some_up c.status.ensures ∙ ap (λ (r : Replica). is_online r c.args.name) c.self.view_is
