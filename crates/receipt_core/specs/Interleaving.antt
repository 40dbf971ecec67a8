-- A list that is made of the lists of several actors, each in its order.
use Rattle.std.specs.Prelude.{◌≡◌, ℕ, ◌+◌, ◌<◌, eqb, List, [], ◌∷◌, length, map}
use Rattle.std.specs.List.{filter, AllByRecursion}
use Rattle.bench_core.specs.Machine.{Event}
use Rattle.receipt_core.specs.Receipts.{Receipt, event_of}

-- the events of receipts
abbrev pub told : List Receipt → List Event
told rs = map event_of rs

-- the events of receipts, list by list
abbrev pub all_told : List (List Receipt) → List (List Event)
all_told lists = map told lists

-- the events of the actor, in their order
abbrev pub part : ℕ → List Event → List Event
part actor es = filter (λ e. eqb e.actor actor) es

-- the lists are the parts of the actors from `actor` on
abbrev pub AreParts : List Event → ℕ → List (List Event) → Type 0
AreParts es actor [] = Unit {0}
AreParts es actor (l ∷ lists) = (part actor es ≡ l) × AreParts es (actor + 1) lists

-- the part of each actor is its list, and there are no other events
pub record IsInterleaving (es : List Event) (lists : List (List Event)) : Type 0 where
  pub parts : AreParts es 0 lists
  pub no_other : AllByRecursion (λ e. e.actor < length lists) es
