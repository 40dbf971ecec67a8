-- What a swap needs to know of a step, noted beside the step's place in its journal.
use Rattle.std.specs.Prelude.{◌≡◌, ℕ, ◌+◌, ◌<◌, ◌==◌, ◌&&◌, not, Bool, false, if◌then◌else◌, List, [], ◌∷◌, ◌++◌, length, slice_get, Option, Some, None}
use Rattle.std.specs.List.{AllByRecursion}
use Rattle.node_core.specs.Operations.{delivers, sends}
use Rattle.journal_core.specs.Journals.{Kept, sent_by}
use Rattle.bench_core.specs.declared.movable.Movable.{Movable}

-- the sender and the number of the message that the step sends, if it sends one, when it comes after these
abbrev pub sent_after : List Kept → Kept → Option (ℕ × ℕ)
sent_after first k = if sends k.step then Some (k.node, length (sent_by first k.node) + 1) else None

-- the note of the step that stands after these
abbrev pub movable_after : List Kept → Kept → Movable
movable_after first k = record { place = length first; node = k.node; delivers = delivers k.step; sends = sent_after first k }

-- the notes of these steps, which stand after the first ones
abbrev pub movables_after : List Kept → List Kept → List Movable
movables_after first [] = []
movables_after first (k ∷ ks) = movable_after first k ∷ movables_after (first ++ k ∷ []) ks

-- whether there are both a sent and a delivered message, and they are the same
abbrev pub is_message : Option (ℕ × ℕ) → Option (ℕ × ℕ) → Bool
is_message None delivered = false
is_message (Some sent) None = false
is_message (Some sent) (Some delivered) = (sent.0 == delivered.0) && (sent.1 == delivered.1)

-- whether the steps are of different nodes, and neither delivers what the other sends
abbrev pub may_swap : Movable → Movable → Bool
may_swap x y = not (x.node == y.node) && (not (is_message y.sends x.delivers) && not (is_message x.sends y.delivers))

-- for each node below the count, how many messages it sent in these steps
abbrev pub CountSent : ℕ → List Kept → List ℕ → Type 0
CountSent count ks counts = (node : ℕ) → node < count → slice_get counts node ≡ Some (length (sent_by ks node))

-- each step is of a node below the count
abbrev pub AreOfNodes : ℕ → List Kept → Type 0
AreOfNodes count ks = AllByRecursion (λ (k : Kept). k.node < count) ks

-- the step at this place of one journal is the step at another place of the other, whatever their numbers
pub record IsSameAt (ks : List Kept) (place : ℕ) (js : List Kept) (second : ℕ) : Type 0 where
  pub one : Kept
  pub other : Kept
  pub at : slice_get ks place ≡ Some one
  pub second_at : slice_get js second ≡ Some other
  pub node : one.node ≡ other.node
  pub step : one.step ≡ other.step

-- the steps of one journal at the places of these notes, in the order of the notes, are those of the other, whatever their numbers
pub record AreStepsOf (ks : List Kept) (ms : List Movable) (js : List Kept) : Type 0 where
  pub count : length ms ≡ length js
  pub each : (i : ℕ) (m : Movable) → slice_get ms i ≡ Some m → IsSameAt ks m.place js i
