-- The single changes of a run: a delivery is lost, is moved or comes again; a notice is never made, or is moved; or a
-- send is moved.
use Rattle.std.specs.Prelude.{ℕ, zero, suc, ◌+◌, ◌-◌, ◌==◌, ◌&&◌, ◌||◌, not, nat_lt, Bool, true, false, if◌then◌else◌, List, [], ◌∷◌, ◌++◌, length, slice_get, slice_range, Option, Some, None}
use Rattle.std.specs.List.{flat_map, list_any}
use Rattle.node_core.specs.Operations.{Operation, Deliver, Up, Down, Permdown, sends}
use Rattle.journal_core.specs.Journals.{Kept}
use Rattle.change_core.specs.declared.change.Change.{Change}
use Rattle.change_core.specs.declared.change.Kind.{Kind}
use Rattle.change_core.specs.declared.change.Kind.TheVariants.{Lost, Never, Before, Behind, Again}

-- the order of the kinds
abbrev pub rank : Kind → ℕ
rank Lost = 0
rank Never = 1
rank Before = 2
rank Behind = 3
rank Again = 4

-- whether a step is a delivery; an answer is none
abbrev pub is_delivery : Operation → Bool
is_delivery (Deliver sender number) = true
is_delivery _ = false

-- whether a step is a notice: an up, a down or a permanently down
abbrev pub is_notice : Operation → Bool
is_notice (Up name) = true
is_notice (Down name) = true
is_notice (Permdown name) = true
is_notice _ = false

-- whether a send of this node is among the steps
abbrev pub has_send : List Kept → ℕ → Bool
has_send ks node = list_any (λ k. (k.node == node) && sends k.step) ks

-- whether the step may be moved past these: a delivery, a notice, or a send; but a send past no other send of its node
abbrev pub may_pass : List Kept → Kept → Bool
may_pass ks k = is_delivery k.step || (is_notice k.step || (sends k.step && not (has_send ks k.node)))

-- whether there is this change of step k, at place i, beside step x, at place j
abbrev pub may : List Kept → Kind → ℕ → ℕ → Kept → Kept → Bool
may ks Lost i j k x = (i == j) && is_delivery k.step
may ks Never i j k x = (i == j) && is_notice k.step
may ks Before i j k x = (k.node == x.node) && (nat_lt j i && may_pass (slice_range ks j i) k)
may ks Behind i j k x = (k.node == x.node) && (nat_lt i j && may_pass (slice_range ks (i + 1) (j + 1)) k)
may ks Again i j k x = (k.node == x.node) && (nat_lt i j && is_delivery k.step)

abbrev pub may_at : List Kept → Change → Option Kept → Option Kept → Bool
may_at ks c None x = false
may_at ks c (Some k) None = false
may_at ks c (Some k) (Some x) = may ks c.kind c.place c.beside k x

-- whether the run has this change: there are steps at both of its places, and there is a change of its kind of the
-- first beside the second
unfoldable pub is_change : List Kept → Change → Bool
is_change ks c = may_at ks c (slice_get ks c.place) (slice_get ks c.beside)

-- which places of a run of n steps come in turn: each pair has the places from its first up to its second, without the second
abbrev pub pieces : ℕ → Kind → ℕ → ℕ → List (ℕ × ℕ)
-- all but the step at place i
pieces n Lost i j = (0, i) ∷ (i + 1, n) ∷ []
pieces n Never i j = (0, i) ∷ (i + 1, n) ∷ []
-- the step at place i right before that at j
pieces n Before i j = (0, j) ∷ (i, i + 1) ∷ (j, i) ∷ (i + 1, n) ∷ []
-- the step at place i right behind that at j
pieces n Behind i j = (0, i) ∷ (i + 1, j + 1) ∷ (i, i + 1) ∷ (j + 1, n) ∷ []
-- the step at place i once more, right behind that at j
pieces n Again i j = (0, j + 1) ∷ (i, i + 1) ∷ (j + 1, n) ∷ []

abbrev pub piece : List Kept → ℕ × ℕ → List Kept
piece ks p = slice_range ks p.0 p.1

-- what the nodes did with this change, each in its order; how steps of different nodes stand to each other doesn't matter
unfoldable pub changed : List Kept → Change → List Kept
changed ks c = flat_map (piece ks) (pieces (length ks) c.kind c.place c.beside)

-- All changes, in order: by step, by kind, the nearest first.

-- all distances from place i at which there can be a change of this kind, in a run of n steps, are smaller than this
-- number
abbrev pub reach : ℕ → Kind → ℕ → ℕ
reach n Before i = i + 1
reach n _ i = n - i

-- the place at distance d from place i: in front of it for a move before another step, and behind it for the other
-- kinds
abbrev pub off : Kind → ℕ → ℕ → ℕ
off Before i d = i - d
off _ i d = i + d

abbrev pub change_at : Kind → ℕ → ℕ → Change
change_at kind i d = record { kind = kind; place = i; beside = off kind i d }

abbrev pub if_change : List Kept → Change → List Change
if_change ks c = if is_change ks c then c ∷ [] else []

-- the changes at a smaller distance than this
unfoldable pub changes_within : List Kept → Kind → ℕ → ℕ → List Change
changes_within ks kind i zero = []
changes_within ks kind i (suc d) = changes_within ks kind i d ++ if_change ks (change_at kind i d)

abbrev pub changes_by : List Kept → Kind → ℕ → List Change
changes_by ks kind i = changes_within ks kind i (reach (length ks) kind i)

-- the changes of the step at place i
unfoldable pub changes_of : List Kept → ℕ → List Change
changes_of ks i =
    changes_by ks Lost i ++ (changes_by ks Never i ++ (changes_by ks Before i ++ (changes_by ks Behind i ++ changes_by ks Again i)))

-- the changes of the first steps
unfoldable pub changes_to : List Kept → ℕ → List Change
changes_to ks zero = []
changes_to ks (suc i) = changes_to ks i ++ changes_of ks i

-- all changes of the run
unfoldable pub changes : List Kept → List Change
changes ks = changes_to ks (length ks)
