-- The steps that made presences of a topic and key, each with the presence's dot.
use Rattle.std.specs.Prelude.{ℕ, ◌&&◌, if◌then◌else◌, List, [], ◌∷◌, ◌++◌, slice_get, Option, Some, None}
use Rattle.std.specs.Str.{bytes_eq}
use Rattle.dots_core.specs.declared.dot.Dot.{Dot}
use Rattle.payload_core.specs.Presences.{Presence, dots_of, is_tracked_as}
use Rattle.node_core.specs.Nodes.{Node}
use Rattle.node_core.specs.Operations.{Operation, Join, Update}
use Rattle.journal_core.specs.Journals.{Kept}
use Rattle.bench_core.specs.Machine.{Machine}
use Rattle.report_core.specs.Shown.{node_of}
use Rattle.explain_core.specs.Tracks.{after_step, opened}
use Rattle.explain_core.specs.declared.making.Making.{Making}

-- what a step tracks from then on
abbrev pub tracked_by : Operation → Option Presence
tracked_by (Join p) = Some p
tracked_by (Update p) = Some p
tracked_by _ = None

abbrev pub dot_among : Option Node → ℕ → Presence → Option Dot
dot_among None name p = None
dot_among (Some node) name p = slice_get (dots_of name (is_tracked_as p.pid p.topic p.key) node.replica.store.entries) 0

-- the dot under which the node tracks the presence's process, topic and key, if it does
unfoldable pub tracked_dot : Machine → ℕ → Presence → Option Dot
tracked_dot m node p = dot_among (node_of m node) node p

abbrev pub made_by : ℕ → Option Dot → List Making
made_by number None = []
made_by number (Some d) = record { number = number; dot = d } ∷ []

abbrev pub makes : Machine → List ℕ → List ℕ → Kept → Option Presence → List Making
makes asked topic key k None = []
makes asked topic key k (Some p) =
    if bytes_eq p.topic topic && bytes_eq p.key key then made_by k.number (tracked_dot asked k.node p) else []

-- the presence of this topic and key that a step made, if it made one, on the machine after the step
unfoldable pub making_of : Machine → List ℕ → List ℕ → Kept → List Making
making_of asked topic key k = makes asked topic key k (tracked_by k.step)

unfoldable pub makings_from : List ℕ → List ℕ → Machine → List Kept → List Making
makings_from topic key asked [] = []
makings_from topic key asked (k ∷ ks) =
    making_of (after_step asked k) topic key k ++ makings_from topic key (after_step asked k) ks

-- the presences of this topic and key that the remaining steps made, in the order of these steps
unfoldable pub makings_of : Machine → List ℕ → List ℕ → List Making
makings_of m topic key = makings_from topic key (opened m) m.state.remaining
