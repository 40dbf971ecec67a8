-- How a dot came to stand as it does at each node: the remaining steps, asked again of a fresh bench.
use Rattle.std.specs.Prelude.{ℕ, ◌==◌, ◌&&◌, Bool, true, false, not, if◌then◌else◌, List, [], ◌∷◌, ◌++◌, find, length, replicate, slice_get, slice_set}
use Rattle.std.specs.Prelude.{unwrap_or, Option, Some, None, option_map}
use Rattle.dots_core.specs.declared.dot.Dot.{Dot}
use Rattle.node_core.specs.Operations.{Operation, Join, Leave, LeaveAll, Update, Permdown, delivers, sends}
use Rattle.journal_core.specs.Journals.{Kept}
use Rattle.bench_core.specs.Acts.{Do}
use Rattle.bench_core.specs.Machine.{Machine, opening_machine}
use Rattle.report_core.specs.ActTexts.{after_act}
use Rattle.explain_core.specs.Standings.{is_above, is_same, last_message, standing_at, standing_sent}
use Rattle.explain_core.specs.declared.hop.Hop.{Hop}
use Rattle.explain_core.specs.declared.hop.Kind.{Kind}
use Rattle.explain_core.specs.declared.hop.Kind.TheVariants.{Sent, Came, Missed, Forgot}
use Rattle.explain_core.specs.declared.hop.Stand.{Stand}
use Rattle.explain_core.specs.declared.standing.Standing.{Standing}
use Rattle.explain_core.specs.declared.standing.Standing.TheVariants.{Unseen, Live, Gone}

-- how the dot stands at each node, and since which of the node's steps; and the steps that sent, delivered, missed or forgot it
pub record Track : Type 0 where
  pub stands : List Stand
  pub hops : List Hop

abbrev pub never_seen : Stand
never_seen = record { standing = Unseen; by = None }

abbrev pub stand_at : List Stand → ℕ → Stand
stand_at stands node = unwrap_or (slice_get stands node) never_seen

abbrev pub is_sent : Kind → Bool
is_sent Sent = true
is_sent _ = false

-- whether the step sent message p of the node, and the dot is in it
abbrev pub is_sender : ℕ → ℕ → Hop → Bool
is_sender node p h = is_sent h.kind && ((h.node == node) && (h.message == p))

-- the step that sent this message, if the dot is in it
abbrev pub sender_among : List Hop → ℕ → ℕ → Option ℕ
sender_among hops node p = option_map (λ h. h.number) (find (is_sender node p) hops)

abbrev pub hop_of : Kept → Kind → Standing → ℕ → Option ℕ → Hop
hop_of k kind standing message reads =
    record { kind = kind; number = k.number; node = k.node; standing = standing; message = message; reads = reads }

-- what a send did: nothing if the message doesn't have the dot; else it reads the step since which the dot stands at the node as
-- it does
abbrev pub sent_hop : Kept → Stand → ℕ → Standing → Option Hop
sent_hop k before message Unseen = None
sent_hop k before message Live = Some (hop_of k Sent Live message before.by)
sent_hop k before message Gone = Some (hop_of k Sent Gone message before.by)

-- what a delivery did, of a message that step `reads` sent: if the dot stands otherwise after it than before, the dot came; if it stands as
-- before, and below what the message tells, it was missed; else nothing
abbrev pub delivered_hop : Kept → Stand → Standing → Standing → Option ℕ → Option Hop
delivered_hop k before told now reads =
    if is_same before.standing now then (if is_above told now then Some (hop_of k Missed told 0 reads) else None)
    else Some (hop_of k Came now 0 reads)

-- what another step did: it forgot the dot, if the dot was live or gone before the step and is unseen after it; else nothing
abbrev pub other_hop : Kept → Stand → Standing → Option Hop
other_hop k before now = if is_same now Unseen && is_above before.standing Unseen then Some (hop_of k Forgot before.standing 0 before.by) else None

abbrev pub received_hop : Dot → Machine → Kept → List Hop → Stand → Standing → Option (ℕ × ℕ) → Option Hop
received_hop d asked k hops before now None = other_hop k before now
received_hop d asked k hops before now (Some m) = delivered_hop k before (standing_sent asked m.0 m.1 d) now (sender_among hops m.0 m.1)

-- what a step did to the dot, on the machine after it
unfoldable pub hop_at : Dot → Machine → Kept → List Hop → Stand → Option Hop
hop_at d asked k hops before =
    if sends k.step then sent_hop k before (last_message asked k.node) (standing_sent asked k.node (last_message asked k.node) d)
    else received_hop d asked k hops before (standing_at asked k.node d) (delivers k.step)

abbrev pub with_hop : List Hop → Option Hop → List Hop
with_hop hops None = hops
with_hop hops (Some h) = hops ++ h ∷ []

-- the stands after step k: at its node the dot stands as `now`, since this step if it stood otherwise before; the others stay
abbrev pub with_stand : List Stand → Kept → Standing → List Stand
with_stand stands k now =
    if is_same (stand_at stands k.node).standing now then stands else slice_set stands k.node (record { standing = now; by = Some k.number })

-- the track after a step, on the machine after it
unfoldable pub followed : Dot → Machine → Kept → Track → Track
followed d asked k t =
    record {
      stands = with_stand t.stands k (standing_at asked k.node d);
      hops = with_hop t.hops (hop_at d asked k t.hops (stand_at t.stands k.node));
    }

-- the machine after it has taken this step
unfoldable pub after_step : Machine → Kept → Machine
after_step asked k = after_act asked k.node (Do k.step)

unfoldable pub track_from : Dot → Machine → List Kept → Track → Track
track_from d asked [] t = t
track_from d asked (k ∷ ks) t = track_from d (after_step asked k) ks (followed d (after_step asked k) k t)

abbrev pub opened : Machine → Machine
opened m = opening_machine m.names m.limits

abbrev pub no_track : ℕ → Track
no_track nodes = record { stands = replicate nodes never_seen; hops = [] }

-- the track of a dot
unfoldable pub track_of : Machine → Dot → Track
track_of m d = track_from d (opened m) m.state.remaining (no_track (length m.names))

-- whether message p of the node has the dot, live or gone
abbrev pub is_told : Machine → ℕ → ℕ → Dot → Bool
is_told asked node p d = not (is_same (standing_sent asked node p d) Unseen)

-- whether the step is a join, a leave, a leave all or an update, and `name` is that of its node; or whether it takes `name` permanently
-- down
abbrev pub is_changed : Operation → ℕ → ℕ → Bool
is_changed (Join p) node name = name == node
is_changed (Leave pid topic key) node name = name == node
is_changed (LeaveAll pid) node name = name == node
is_changed (Update p) node name = name == node
is_changed (Permdown other) node name = name == other
is_changed _ node name = false

abbrev pub reaches_by : Machine → Kept → Dot → Option (ℕ × ℕ) → Bool
reaches_by asked k d None = is_changed k.step k.node d.name
reaches_by asked k d (Some m) = is_told asked m.0 m.1 d

-- whether a step reaches a dot, on the machine after it: the message that the step sent has the dot; or, of a step that sends none, the
-- message that it delivered has it; or, of a step with neither, it is a join, a leave, a leave all or an update of the node with the dot's
-- name, or took that name permanently down
unfoldable pub reaches : Machine → Kept → Dot → Bool
reaches asked k d = if sends k.step then is_told asked k.node (last_message asked k.node) d else reaches_by asked k d (delivers k.step)
