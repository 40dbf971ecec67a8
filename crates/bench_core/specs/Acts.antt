-- What a bench is asked, without the memory that the words lie in.
use Rattle.std.specs.Prelude.{◌≡◌, ℕ, zero, suc, List, map, refl}
use Rattle.std.specs.Coded.{Coded, code_by, coded×, coded_ℕ}
use Rattle.node_core.specs.Operations.{Operation, Broadcast, operation_code, plain}
use Rattle.bench_core.specs.declared.act.Act.{Act}
use Rattle.bench_core.specs.declared.act.Act.TheVariants as acts

-- a step of the node that asks, the undo of the step of a number, or the undo of the last step of a node
pub data Action : Type 0 where
  Do : (operation : Operation) → Action
  Undo : (number : ℕ) → Action
  Back : (node : ℕ) → Action

abbrev pub plain_act : {X : Type 0} → Act X → Action
plain_act (acts.Do step) = Do (plain step)
plain_act (acts.Undo number) = Undo number
plain_act (acts.Back node) = Back node

-- a list of calls, each with its actor
abbrev pub calls_of : {X : Type 0} → List (ℕ × Act X) → List (ℕ × Action)
calls_of calls = map (λ call. (call.0, plain_act call.1)) calls

-- an action is stored as the number of its kind with an operation and a number, as far as the kind uses them
abbrev stored : Action → ℕ × (Operation × ℕ)
stored (Do operation) = (0, (operation, 0))
stored (Undo number) = (1, (Broadcast, number))
stored (Back node) = (2, (Broadcast, node))

abbrev of_kind : ℕ → Operation → ℕ → Action
of_kind zero operation number = Do operation
of_kind (suc zero) operation number = Undo number
of_kind (suc (suc kind)) operation number = Back number

abbrev of_kind-stored : (a : Action) → of_kind (stored a).0 (stored a).1.0 (stored a).1.1 ≡ a
of_kind-stored (Do operation) = refl
of_kind-stored (Undo number) = refl
of_kind-stored (Back node) = refl

abbrev pub action_code : Coded Action
action_code =
    code_by (ℕ × (Operation × ℕ)) (coded× coded_ℕ (coded× operation_code coded_ℕ)) stored (λ t. of_kind t.0 t.1.0 t.1.1) of_kind-stored
