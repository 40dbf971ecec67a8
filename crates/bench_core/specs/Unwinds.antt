-- What an undo of a step waits for, and the undo of a step with all that follows from it.
use Rattle.std.specs.Prelude.{◌≡◌, ◌≢◌, ℕ, List, [], ◌∷◌, ◌++◌, map, slice_get, Some, None, Ok}
use Rattle.bench_core.specs.declared.reply.Reply.TheVariants.{Undone, Refused}
use Rattle.bench_core.specs.declared.fault.Fault.{Fault}
use Rattle.bench_core.specs.declared.fault.Fault.TheVariants.{OutOfMemory}
use Rattle.bench_core.specs.declared.unwound.Unwound.{Unwound}
use Rattle.bench_core.specs.declared.unwound.Unwound.TheVariants as unwound
use Rattle.journal_core.specs.Journals.{Kept, find_number}
use Rattle.journal_core.specs.Futures.{Follows, IsFuture, without_all}
use Rattle.journal_core.specs.Gathering.{gathered_numbers}
use Rattle.bench_core.specs.Acts.{Action, Undo}
use Rattle.bench_core.specs.Clusters.{Cluster}
use Rattle.bench_core.specs.Machine.{Event, Config, State, Machine, with_state, config_of, undo_reply, now, calls, replies_of}
use Rattle.bench_core.specs.Headline.{IsReached}

-- step n remains, and these are its number and those of all that follows from it, greatest first
pub record Explains (s : State) (n : ℕ) (numbers : List ℕ) : Type 0 where
  pub remains : (k : Kept) × (find_number s.remaining n ≡ Some k)
  pub future : IsFuture s.remaining n numbers

-- why the future of step n isn't given: the step doesn't remain, and its undo is refused with this fault; or the step remains, and memory
-- was refused
pub data Unexplained (s : State) (n : ℕ) : Fault → Type 0 where
  Gone : (fault : Fault) → find_number s.remaining n ≡ None → undo_reply s n ≡ Refused fault → Unexplained s n fault
  Unmade : (k : Kept) → find_number s.remaining n ≡ Some k → Unexplained s n OutOfMemory

-- the calls of an actor that undo these steps in turn
abbrev pub undos : ℕ → List ℕ → List (ℕ × Action)
undos actor numbers = map (λ n. (actor, Undo n)) numbers

abbrev pub undone_event : ℕ → ℕ → Event
undone_event actor n = record { actor = actor; act = Undo n; reply = Undone n }

-- the undos of the future of a step, in turn, are all made, whoever asks for them
abbrev pub UndoneInTurnLaw : Type 0
UndoneInTurnLaw =
    (c : Config) (s : State) (actor n : ℕ) (numbers : List ℕ) → IsReached c s → IsFuture s.remaining n numbers →
    replies_of c s (undos actor numbers) ≡ map Undone numbers

-- if the reply to each of some calls, whoever asks, is that a step was undone, and step n is gone after them, then all that follows from
-- step n is gone too
abbrev pub LeastLaw : Type 0
LeastLaw =
    (c : Config) (s : State) (n : ℕ) (asked : List (ℕ × Action)) (undone : List ℕ) → IsReached c s →
    replies_of c s asked ≡ map Undone undone →
    find_number (calls c s asked).remaining n ≡ None → (j : ℕ) → Follows s.remaining n j →
    find_number (calls c s asked).remaining j ≡ None

-- none of these steps is of this node
abbrev pub HasNoneOf : List Kept → ℕ → List ℕ → Type 0
HasNoneOf ks node [] = Unit {0}
HasNoneOf ks node (n ∷ numbers) = ((k : Kept) → find_number ks n ≡ Some k → k.node ≢ node) × HasNoneOf ks node numbers

-- the undos of steps of other nodes don't change a node
abbrev pub OthersLaw : Type 0
OthersLaw =
    (c : Config) (s : State) (actor node : ℕ) (numbers : List ℕ) (old : Cluster) → IsReached c s → now c s ≡ Ok old →
    replies_of c s (undos actor numbers) ≡ map Undone numbers → HasNoneOf s.remaining node numbers →
    (new : Cluster) × (now c (calls c s (undos actor numbers)) ≡ Ok new) × (slice_get new node ≡ slice_get old node)

-- the undos of these steps, in this order, are all made, whoever asks for them
abbrev pub CanBeUndone : Machine → List ℕ → Type 0
CanBeUndone m numbers = (actor : ℕ) → replies_of (config_of m) m.state (undos actor numbers) ≡ map Undone numbers

-- an actor asked for the undos of these steps, in this order, and nothing else happened
pub record AreUndone (old : Machine) (actor : ℕ) (numbers : List ℕ) (new : Machine) : Type 0 where
  -- each undo was made
  pub replies : replies_of (config_of old) old.state (undos actor numbers) ≡ map Undone numbers
  -- these calls bring the machine to this state
  pub state : new ≡ with_state old (calls (config_of old) old.state (undos actor numbers))
  -- the history has these undos at its end
  pub history : new.state.history ≡ old.state.history ++ map (undone_event actor) numbers
  -- these steps are gone, and the others unchanged
  pub remaining : new.state.remaining ≡ without_all old.state.remaining numbers

-- the numbers of the steps that were undone, in the order of their undos
abbrev pub undone_by : {X : Type 0} → Unwound X → List ℕ
undone_by (unwound.Done numbers) = numbers.items
undone_by (unwound.Refused fault) = []
undone_by (unwound.Partial numbers) = numbers.items

-- the whole future of step n was undone; or none of it, as the step doesn't remain, or memory was refused; or only a first part of that
-- future, and not all
abbrev pub IsUnwound : {X : Type 0} → State → ℕ → Unwound X → Type 0
IsUnwound s n (unwound.Done numbers) = Explains s n numbers.items
IsUnwound s n (unwound.Refused fault) = Unexplained s n fault
IsUnwound s n (unwound.Partial numbers) = (rest : List ℕ) × (rest ≢ []) × Explains s n (numbers.items ++ rest)

-- if the whole future was undone, it is the one that is gathered from the step on
abbrev pub IsWhole : {X : Type 0} → State → ℕ → Unwound X → Type 0
IsWhole s n (unwound.Done numbers) = numbers.items ≡ gathered_numbers s.remaining n
IsWhole s n (unwound.Refused fault) = Unit {0}
IsWhole s n (unwound.Partial numbers) = Unit {0}
