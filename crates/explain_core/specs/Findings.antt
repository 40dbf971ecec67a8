-- Why a presence is online at a node, or why not.
use Rattle.std.specs.Prelude.{◌≡◌, ℕ, ◌<◌, ◌==◌, ◌&&◌, ◌||◌, not, Bool, true, false, if◌then◌else◌, List, [], ◌∷◌, ◌++◌, length, map, filter, reverse, slice_get, Option, Some, None}
use Rattle.dots_core.specs.declared.dot.Dot.{Dot}
use Rattle.node_core.specs.Nodes.{Node}
use Rattle.node_core.specs.Operations.{Operation, Up, Down, Permdown}
use Rattle.replica_core.specs.Replicas.{is_online}
use Rattle.journal_core.specs.Journals.{Kept, is_number}
use Rattle.bench_core.specs.Machine.{Machine}
use Rattle.report_core.specs.Shown.{node_of}
use Rattle.explain_core.specs.Standings.{is_above, is_same, standing_at}
use Rattle.explain_core.specs.Tracks.{Track, is_sent, stand_at}
use Rattle.explain_core.specs.declared.finding.Verdict.{Verdict}
use Rattle.explain_core.specs.declared.finding.Verdict.TheVariants.{Online, Down as Hidden, Removed, Left, Forgotten, Missed, Undelivered, Unsent}
use Rattle.explain_core.specs.declared.hop.Hop.{Hop}
use Rattle.explain_core.specs.declared.hop.Kind.{Kind}
use Rattle.explain_core.specs.declared.hop.Kind.TheVariants as kinds
use Rattle.explain_core.specs.declared.standing.Standing.{Standing}
use Rattle.explain_core.specs.declared.standing.Standing.TheVariants.{Unseen, Live, Gone}

-- a verdict with the steps that it rests on
pub record Finding : Type 0 where
  pub verdict : Verdict
  pub steps : List ℕ

abbrev pub is_came : Kind → Bool
is_came kinds.Came = true
is_came _ = false

abbrev pub is_missed : Kind → Bool
is_missed kinds.Missed = true
is_missed _ = false

abbrev pub is_forgotten : Kind → Bool
is_forgotten kinds.Forgot = true
is_forgotten _ = false

-- whether the hop's step sent or delivered the dot, and is the step that is looked for
abbrev pub is_link : Option ℕ → Hop → Bool
is_link target h = (is_sent h.kind || is_came h.kind) && is_number target h.number

-- a chain that goes back, so far: the step that is looked for, and the numbers found, the newest first
abbrev pub Back : Type 0
Back = Option ℕ × List ℕ

abbrev pub one_back : Back → Hop → Back
one_back back h = if is_link back.0 h then (h.reads, back.1 ++ h.number ∷ []) else back

-- the chain, followed further from the newest of these hops on
unfoldable pub backwards : Back → List Hop → Back
backwards back [] = back
backwards back (h ∷ hops) = one_back (backwards back hops) h

-- the sends and deliveries that brought the dot to step `by`, in their order: that step comes last, if it sent or delivered the dot, before
-- it the one that it read, if that did so, too, and so on
abbrev pub chain : List Hop → Option ℕ → List ℕ
chain hops by = reverse (backwards (by, []) hops).1

abbrev pub is_of : ℕ → Standing → Hop → Bool
is_of node wanted h = (h.node == node) && is_same h.standing wanted

-- whether the step made the node forget the dot, which stood there as `wanted` or above
abbrev pub is_forgotten_at : ℕ → Standing → Hop → Bool
is_forgotten_at node wanted h = is_forgotten h.kind && ((h.node == node) && not (is_above wanted h.standing))

abbrev pub is_missed_at : ℕ → Standing → Hop → Bool
is_missed_at node wanted h = is_missed h.kind && is_of node wanted h

abbrev pub is_sent_as : Standing → Hop → Bool
is_sent_as wanted h = is_sent h.kind && is_same h.standing wanted

-- whether the step is a reason of this kind why the dot doesn't stand as `wanted` at the node: it forgot the dot, missed it, or sent it as
-- `wanted`; the kind `Came` asks the same as `Sent`
abbrev pub is_why : Kind → ℕ → Standing → Hop → Bool
is_why kinds.Forgot node wanted h = is_forgotten_at node wanted h
is_why kinds.Missed node wanted h = is_missed_at node wanted h
is_why kinds.Sent node wanted h = is_sent_as wanted h
is_why kinds.Came node wanted h = is_sent_as wanted h

abbrev pub numbers_of : (Hop → Bool) → List Hop → List ℕ
numbers_of test hops = map (λ h. h.number) (filter test hops)

abbrev pub found : Verdict → List ℕ → Finding
found verdict steps = record { verdict = verdict; steps = steps }

-- undelivered with the steps that sent the dot, if there are any; else unsent
abbrev pub sent_or_not : List ℕ → Finding
sent_or_not [] = found Unsent []
sent_or_not (n ∷ ns) = found Undelivered (n ∷ ns)

-- missed with the steps that missed the dot, if there are any; else the other finding
abbrev pub missed_or : List ℕ → Finding → Finding
missed_or [] other = other
missed_or (n ∷ ns) other = found Missed (n ∷ ns)

-- forgotten with the steps that forgot the dot, if there are any; else the other finding
abbrev pub forgotten_or : List ℕ → Finding → Finding
forgotten_or [] other = other
forgotten_or (n ∷ ns) other = found Forgotten (n ∷ ns)

-- why the dot doesn't stand as `wanted` at the node, by the first of these that holds: it was forgotten there, where it stood so or above;
-- it was missed there; it was sent so, which is told as undelivered; or it is unsent
unfoldable pub missing : List Hop → ℕ → Standing → Finding
missing hops node wanted =
    forgotten_or (numbers_of (is_forgotten_at node wanted) hops)
    (missed_or (numbers_of (is_missed_at node wanted) hops) (sent_or_not (numbers_of (is_sent_as wanted) hops)))

abbrev pub is_shown : Option Node → ℕ → Bool
is_shown None name = false
is_shown (Some node) name = is_online node.replica name

-- whether the node knows the name and has it up
unfoldable pub is_up_at : Machine → ℕ → ℕ → Bool
is_up_at m node name = is_shown (node_of m node) name

-- whether the dot has left at its own node
abbrev pub has_left : Machine → Dot → Bool
has_left m d = is_same (standing_at m d.name d) Gone

abbrev pub found_as : Machine → ℕ → Dot → Track → Standing → Finding
found_as m node d t Live = found (if is_up_at m node d.name then Online else Hidden) (chain t.hops (stand_at t.stands node).by)
found_as m node d t Gone = found Removed (chain t.hops (stand_at t.stands node).by)
found_as m node d t Unseen = if has_left m d then found Left [] else missing t.hops node Live

-- how the dot stands at the node, and why
unfoldable pub finding_of : Machine → ℕ → Dot → Track → Finding
finding_of m node d t = found_as m node d t (standing_at m node d)

-- whether the step is an up, a down or a permanently down of this name
abbrev pub is_status_of : ℕ → Operation → Bool
is_status_of name (Up other) = other == name
is_status_of name (Down other) = other == name
is_status_of name (Permdown other) = other == name
is_status_of name _ = false

-- the last status step of the node about the name among these, or else o
unfoldable pub last_status : Option ℕ → List Kept → ℕ → ℕ → Option ℕ
last_status o [] node name = o
last_status o (k ∷ ks) node name =
    last_status (if (k.node == node) && is_status_of name k.step then Some k.number else o) ks node name

-- these are, for each of the first names, the number of the last status step of the node about that name, or none
abbrev pub AreStatuses : List Kept → ℕ → List (Option ℕ) → Type 0
AreStatuses ks node statuses = (name : ℕ) → name < length statuses → slice_get statuses name ≡ Some (last_status None ks node name)
