-- An order of steps: at each turn the first step that can come next.
use Rattle.std.specs.Prelude.{ℕ, zero, suc, ◌==◌, ◌&&◌, not, Bool, true, if◌then◌else◌, List, [], ◌∷◌, ◌++◌, length, filter, Option, Some, None, is_some}
use Rattle.std.specs.List.{list_any}
use Rattle.std.specs.Option.{option_and_then}
use Rattle.payload_core.specs.Messages.{numbered}

-- what an order needs to know of a step: its node, the message that it delivers or answers, by sender and number, and whether it
-- sends one
pub record Reads (K : Type 0) : Type 0 where
  pub node : K → ℕ
  pub delivers : K → Option (ℕ × ℕ)
  pub sends : K → Bool

-- the sending steps of a node
abbrev pub sent_by : {K : Type 0} → Reads K → List K → ℕ → List K
sent_by r ks node = filter (λ k. (r.node k == node) && r.sends k) ks

-- whether these steps sent the message: a message's number counts the sending steps of its sender; true if there is no
-- message
abbrev pub is_there : {K : Type 0} → Reads K → List K → Option (ℕ × ℕ) → Bool
is_there r first None = true
is_there r first (Some m) = is_some (numbered (sent_by r first m.0) m.1)

-- whether the step can come next after the first ones, before the steps that stand before it in the list: none of these
-- is of its node, and the message that it delivers or answers was sent, if there is one
abbrev pub can_come : {K : Type 0} → Reads K → List K → List K → K → Bool
can_come r first before k = not (list_any (λ x. r.node x == r.node k) before) && is_there r first (r.delivers k)

-- the first step that can come next, and the steps that are left then; None if no step can
abbrev pub next : {K : Type 0} → Reads K → List K → List K → List K → Option (K × List K)
next r first before [] = None
next r first before (k ∷ ks) = if can_come r first before k then Some (k, before ++ ks) else next r first (before ++ k ∷ []) ks

-- the first steps, and after them this many of the others, each time the first that can come next; None if at some turn
-- none can
abbrev pub order_after : {K : Type 0} → Reads K → ℕ → List K → List K → Option (List K)
order_after r zero first rest = Some first
order_after r (suc turns) first rest = option_and_then (λ t. order_after r turns (first ++ t.0 ∷ []) t.1) (next r first [] rest)

-- an order of these steps: at each turn the first step that can come next; None if steps are left and none can
unfoldable pub order_of : {K : Type 0} → Reads K → List K → Option (List K)
order_of r ks = order_after r (length ks) [] ks
