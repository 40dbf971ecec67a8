-- Where the nodes stand on the way to an order, for the code's own use alone.
use Rattle.std.specs.Prelude.{◌≡◌, ℕ, ◌+◌, ◌<◌, ◌≤◌, ◌==◌, ◌&&◌, nat_lt, nat_le, Bool, true, false, if◌then◌else◌, List, [], ◌∷◌, length, slice_get, Option, Some, None, option_map, unwrap_or}
use Rattle.order_core.specs.declared.mark.Mark.{Mark}
use Rattle.order_core.specs.declared.ordering.Stand.{Stand}
use Rattle.order_core.specs.Turns.{sent_by}
use Rattle.order_core.specs.Marks.{of_mark}

-- the place of the node's first step among these, which stand from a place on; past the last if there is none
abbrev pub first_of : ℕ → ℕ → List Mark → ℕ
first_of node place [] = place
first_of node place (m ∷ ms) = if m.node == node then place else first_of node (place + 1) ms

abbrev pub is_sent : Option Stand → ℕ → Bool
is_sent None number = false
is_sent (Some s) number = nat_lt 0 number && nat_le number s.sent

-- whether the message was sent; true if there is no message
abbrev pub was_sent : List Stand → Option (ℕ × ℕ) → Bool
was_sent ss None = true
was_sent ss (Some m) = is_sent (slice_get ss m.0) m.1

-- whether there is a step, and the message that it delivers or answers was sent, if there is one
abbrev pub is_ready : List Stand → Option Mark → Bool
is_ready ss None = false
is_ready ss (Some m) = was_sent ss m.delivers

-- the place of the next step of node n, as the node's stand has it; past the last if the node has no stand
abbrev pub next_at : List Mark → List Stand → ℕ → ℕ
next_at ks ss n = unwrap_or (option_map (λ s. s.next) (slice_get ss n)) (length ks)

-- how many messages node n sent, as the node's stand has it; 0 if the node has no stand
abbrev pub sent_at : List Stand → ℕ → ℕ
sent_at ss n = unwrap_or (option_map (λ s. s.sent) (slice_get ss n)) 0

-- the steps that are left of these, which stand from a place on: those not before the next step of their node
abbrev pub left : (ℕ → ℕ) → ℕ → List Mark → List Mark
left next place [] = []
left next place (m ∷ ms) = if nat_lt place (next m.node) then left next (place + 1) ms else m ∷ left next (place + 1) ms

-- what the stands tell after the steps `first`: what stands at the place of a node's next step, if anything, is a step
-- of that node; and a node sent as many messages as it has sending steps among `first`
pub record AreStands (ks first : List Mark) (ss : List Stand) : Type 0 where
  pub own : (n : ℕ) (m : Mark) → slice_get ks (next_at ks ss n) ≡ Some m → m.node ≡ n
  pub sent : (n : ℕ) → sent_at ss n ≡ length (sent_by of_mark first n)

-- the next step of some node stands at this place, and can come
abbrev pub IsReadyAt : List Mark → List Stand → ℕ → Type 0
IsReadyAt ks ss place = (n : ℕ) × (s : Stand) × (slice_get ss n ≡ Some s) × (s.next ≡ place) × (is_ready ss (slice_get ks place) ≡ true)

-- the least place of a next step that can come; past the last if there is none
pub record IsFirstReady (ks : List Mark) (ss : List Stand) (place : ℕ) : Type 0 where
  pub within : place ≤ length ks
  pub ready : place < length ks → IsReadyAt ks ss place
  pub others : (n : ℕ) (s : Stand) → slice_get ss n ≡ Some s → s.next < place → is_ready ss (slice_get ks s.next) ≡ false
