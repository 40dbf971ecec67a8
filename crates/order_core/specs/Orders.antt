-- What each node did, in its order, and the orders in which all of it can have come.
use Rattle.std.specs.Prelude.{◌≡◌, ℕ, Bool, true, List, [], ◌∷◌, ◌++◌, map, Option}
use Rattle.node_core.specs.Operations.{Operation, delivers, sends}
use Rattle.journal_core.specs.Journals.{Kept, own_steps}
use Rattle.order_core.specs.Turns as turns
use Rattle.order_core.specs.Turns.{Reads}

abbrev pub of_step : Reads Kept
of_step = record { node = λ k. k.node; delivers = λ k. delivers k.step; sends = λ k. sends k.step }

-- the steps of a node in their order, without their numbers
abbrev pub own : List Kept → ℕ → List Operation
own ks n = map (λ k. k.step) (own_steps ks n)

-- each node did the same in both, in the same order
abbrev pub SameOwn : List Kept → List Kept → Type 0
SameOwn ks js = (n : ℕ) → own ks n ≡ own js n

-- whether these steps sent the message; true if there is no message
abbrev pub is_there : List Kept → Option (ℕ × ℕ) → Bool
is_there first message = turns.is_there of_step first message

-- each delivery and each answer among these steps comes after the send of its message, be that one of these steps or
-- one of the steps `first`, which came before them
abbrev pub AreBehind : List Kept → List Kept → Type 0
AreBehind first [] = Unit {0}
AreBehind first (k ∷ ks) = (is_there first (delivers k.step) ≡ true) × (AreBehind (first ++ k ∷ []) ks)

-- an order of what the nodes did: each node does the same, and no message comes before it is sent
pub record IsOrderOf (ks js : List Kept) : Type 0 where
  pub own : SameOwn ks js
  pub behind : AreBehind [] js

-- an order of what the nodes did in these steps: at each turn the first step that can come next; None if steps are left and none
-- can
abbrev pub order_of : List Kept → Option (List Kept)
order_of ks = turns.order_of of_step ks
