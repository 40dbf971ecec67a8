-- The `hops` and `from` of deliveries give the tracks that `explain` follows, without the steps that missed or forgot the dot.
use Rattle.std.proofs.Common.{◌≡◌, ℕ, ◌+◌, ◌*◌, ◌<◌, ◌≤◌, ◌==◌, ◌&&◌, Bool, true, false, cond, if◌then◌else◌, List, [], ◌∷◌, ◌++◌, filter, length}
use Rattle.std.proofs.Common.{slice_get, Option, Some, None, is_some, option_map, Ok, refl, sym, ap, ap₂, ◌∙◌, subst, append-nil, append_assoc, arith, length-append, reverse}
use Rattle.std.proofs.lemmas.Bool.{and_left}
use Rattle.std.proofs.lemmas.List.Elements.{filter-append}
use Rattle.std.specs.FinMap as fin
use Rattle.std.specs.FinSet as set
use Rattle.dots_core.specs.declared.dot.Dot.{Dot}
use Rattle.dots_core.specs.Dots.{Dots}
use Rattle.payload_core.specs.Messages.{AreSeen}
use Rattle.payload_core.specs.Presences.{Entries, Presence}
use Rattle.store_core.specs.Stores.{standing}
use Rattle.replica_core.specs.Deliveries.{merged}
use Rattle.replica_core.specs.Replicas.{Replica}
use Rattle.node_core.specs.Nodes.{Node, take, with_replica}
use Rattle.node_core.specs.Operations.{Operation, Deliver, delivers, sends}
use Rattle.journal_core.specs.Journals.{Kept, NumbersRise, sender_of, source_at, source_of}
use Rattle.bench_core.specs.Clusters.{Cluster, message_for, opening_of, step}
use Rattle.bench_core.specs.Limits.{node_limits}
use Rattle.bench_core.specs.Machine.{Machine, cluster_of, config_of}
use Rattle.bench_core.specs.Runs.{then_runs}
use Rattle.bench_core.proofs.Clusters.{Stepped, get-set_same, stepped}
use Rattle.bench_core.proofs.OneEntry.{Fine, fine_run, read_from}
use Rattle.bench_core.proofs.Reached.{given_holds}
use Rattle.bench_core.proofs.Runs.{message_stays_at, run_one}
use Rattle.bench_core.proofs.Taken.{deliver_ok}
use Rattle.report_core.specs.Shown.{node_in, node_of}
use Rattle.explain_core.specs.Findings.{Back, backwards, chain, one_back}
use Rattle.explain_core.specs.Standings.{is_above, is_same, last_message, outbox_of, standing_at, standing_by, standing_in, standing_of, standing_sent}
use Rattle.explain_core.specs.Tracks.{Track, after_step, delivered_hop, followed, hop_at, hop_of, no_track, opened, sender_among}
use Rattle.explain_core.specs.Tracks.{sent_hop, stand_at, track_from, track_of, with_hop, with_stand}
use Rattle.explain_core.specs.Tracks.{received_hop}
use Rattle.explain_core.specs.declared.hop.Hop.{Hop}
use Rattle.explain_core.specs.declared.hop.Kind.TheVariants.{Came, Forgot, Missed}
use Rattle.explain_core.specs.declared.hop.Stand.{Stand}
use Rattle.explain_core.specs.declared.standing.Standing.{Standing}
use Rattle.explain_core.specs.declared.standing.Standing.TheVariants.{Unseen, Live, Gone}
use Rattle.explain_core.proofs.Along.{outbox_at, sender_stays, told_in}
use Rattle.explain_core.proofs.Asked.{fewer_remain, node_there}
use Rattle.explain_core.proofs.Changes.{came, delivery_brings, is_delivery, sent_stays}
use Rattle.explain_core.proofs.Followed.{Along, SentAs, With, Without, along_more}
use Rattle.explain_core.proofs.Tracked.{at_start}
use Rattle.page_data.specs.Carried.{hops_at, message_in}
use Rattle.page_data.specs.Chains.{AreSentValid, TrackLaw, by_hops, came_hop, is_move, number_of, received_by, told_after, told_followed, told_from, told_hop, told_received, told_track, with_number}
use Rattle.page_data.specs.Laws.{stands_by}
use Rattle.page_data.proofs.Hopped.{hops_hold}

-- standings and their numbers

number_back : (s : Standing) → with_number (number_of s) ≡ s
number_back Unseen = refl
number_back Live = refl
number_back Gone = refl

number_in : (seen : Dots) (entries : Entries) (d : Dot) → number_of (standing_in seen entries d) ≡ standing (record { seen = seen; entries = entries }) d
number_in seen entries d = go (fin.get entries d) (set.contains seen d)
  where
    go : (o : Option Presence) (b : Bool) → number_of (standing_by o b) ≡ (if is_some o then 1 else (if b then 2 else 0))
    go (Some p) b = refl
    go None true = refl
    go None false = refl

pub message_same : (o : Option Node) (p : ℕ) → message_in o p ≡ outbox_of o p
message_same None p = refl
message_same (Some node) p = refl

-- a chain goes by steps that sent the dot or brought it

backwards_moves : (back : Back) (hops : List Hop) → backwards back (filter is_move hops) ≡ backwards back hops
unfolding backwards
backwards_moves back [] = refl
backwards_moves back (h ∷ hops) = go (is_move h) refl (backwards_moves back hops)
  where
    go : (b : Bool) → is_move h ≡ b → backwards back (filter is_move hops) ≡ backwards back hops →
        backwards back (cond b (h ∷ filter is_move hops) (filter is_move hops)) ≡ one_back (backwards back hops) h
    go true is same = ap (λ (b : Back). one_back b h) same
    go false is same =
        same
        ∙ sym (ap (λ (b : Bool). if b then (h.reads, (backwards back hops).1 ++ h.number ∷ []) else backwards back hops) (and_left (is_move h) _ is))

abbrev only_move : Option Hop → Option Hop
only_move None = None
only_move (Some h) = if is_move h then Some h else None

with_move : (hops : List Hop) (o : Option Hop) → with_hop (filter is_move hops) (only_move o) ≡ filter is_move (with_hop hops o)
with_move hops None = refl
with_move hops (Some h) = go (is_move h) ∙ sym (filter-append is_move hops (h ∷ []))
  where
    go : (b : Bool) → with_hop (filter is_move hops) (if b then Some h else None) ≡ filter is_move hops ++ cond b (h ∷ []) []
    go true = refl
    go false = sym (append-nil (filter is_move hops))

sent_moves : (k : Kept) (before : Stand) (message : ℕ) (s : Standing) → sent_hop k before message s ≡ only_move (sent_hop k before message s)
sent_moves k before message Unseen = refl
sent_moves k before message Live = refl
sent_moves k before message Gone = refl

-- one step

module _ (m : Machine) (d : Dot) (named : d.name < length m.names) (valid : AreSentValid m) (last : Cluster) (ends : cluster_of m ≡ Ok last)
    (first rest : List Kept) (k : Kept) (c next : Cluster) (asked : Machine) (t : Track) (whole : m.state.remaining ≡ first ++ k ∷ rest)
    (rises : NumbersRise 0 (first ++ k ∷ rest)) (room : 2 * length first + 2 ≤ m.limits.acts) (taken : step c k.node k.step ≡ Ok next)
    (run : then_runs (Ok next) rest ≡ Ok last) (old : Along m d first c asked t) where
  abbrev before : Stand
  before = stand_at t.stands k.node

  abbrev now : Machine
  now = after_step asked k

  abbrev s : Stepped c k.node k.step next
  s = stepped c k.node k.step next taken

  pub more : Along m d (first ++ k ∷ []) next now (followed d now k t)
  more = along_more m d first rest k c next asked t rises room taken old

  fine : Fine c
  fine = fine_run (node_limits m.limits) (length m.names) first c old.run

  at_node : standing_at now k.node d ≡ standing_of (slice_get next k.node) d
  unfolding standing_at
  at_node = ap (λ (o : Option Node). standing_of o d) (node_there m (length (first ++ k ∷ [])) next now k.node more.in_step)

  at_last : (n : ℕ) → node_of m n ≡ slice_get last n
  unfolding node_of
  at_last n = ap (λ r. node_in r n) ends

  delivered : (p : ℕ × ℕ) → sends k.step ≡ false → delivers k.step ≡ Some p → by_hops asked k.node p d before.standing ≡ standing_at now k.node d
  delivered p silent at =
      let took : take s.from (Deliver p.0 p.1) (message_for c (Deliver p.0 p.1)) ≡ Ok s.to =
      subst (λ (o : Operation). take s.from o (message_for c o) ≡ Ok s.to) (is_delivery k.step p silent at) s.taken in
      let read = deliver_ok (p.0 == s.from.replica.own) s.from (message_for c (Deliver p.0 p.1)) s.to took in
      let sent = read_from c (Some p) read.0 read.1 in
      let seen : AreSeen read.0.seen read.0.entries = (fine.each sent.0 sent.2 sent.3).messages sent.1 read.0 sent.4 in
      let r : Replica = s.from.replica in
      let here : node_of asked k.node ≡ Some s.from = node_there m (length first) c asked k.node old.in_step ∙ s.at in
      let message : message_in (node_of asked p.0) p.1 ≡ Some read.0 =
      ap (λ (o : Option Node). message_in o p.1) (node_there m (length first) c asked p.0 old.in_step)
      ∙ message_same (slice_get c p.0) p.1 ∙ outbox_at (slice_get c p.0) p.1 ∙ read.1 in
      let there : message_in (node_of m p.0) p.1 ≡ Some read.0 =
      ap (λ (o : Option Node). message_in o p.1) (at_last p.0) ∙ message_same (slice_get last p.0) p.1 ∙ outbox_at (slice_get last p.0) p.1
      ∙ message_stays_at c last (k ∷ rest) (Some p) read.0 (ap (λ r. then_runs r rest) taken ∙ run) read.1 in
      let number : number_of before.standing ≡ standing r.store d =
      ap number_of (old.stands k.node ∙ ap (λ (o : Option Node). standing_of o d) s.at) ∙ number_in r.store.seen r.store.entries d in
      let gives : slice_get next k.node ≡ Some (with_replica s.from (merged read.0 r)) =
      ap (λ (d : Cluster). slice_get d k.node) s.gives ∙ get-set_same c k.node s.from s.to s.at ∙ ap Some read.2 in
      (λ i. with_number (stands_by (hops_at (here i) (message i) (length (old.in_step.names i))) d (number i)))
      ∙ ap with_number (hops_hold r read.0 (length m.names) d (fine.each k.node s.from s.at).sound.live seen (valid p.0 p.1 read.0 there) named)
      ∙ ap with_number (sym (number_in (merged read.0 r).store.seen (merged read.0 r).store.entries d))
      ∙ number_back (standing_in (merged read.0 r).store.seen (merged read.0 r).store.entries d)
      ∙ sym (at_node ∙ ap (λ (o : Option Node). standing_of o d) gives)

  now_is : told_after asked now k d before.standing ≡ standing_at now k.node d
  now_is = go (sends k.step) refl (delivers k.step) refl
    where
      go : (b : Bool) → sends k.step ≡ b → (o : Option (ℕ × ℕ)) → delivers k.step ≡ o →
          (if b then before.standing else received_by asked now k d before.standing o) ≡ standing_at now k.node d
      go true sending o at = old.stands k.node ∙ sym (at_node ∙ sent_stays c next k d fine taken sending)
      go false silent None at = refl
      go false silent (Some p) at = delivered p silent at

  -- a delivery by which the dot came to stand otherwise reads the step that sent the message
  reads : (p : ℕ × ℕ) → sends k.step ≡ false → delivers k.step ≡ Some p → is_same before.standing (standing_at now k.node d) ≡ false →
      source_of m.state.remaining k.step ≡ sender_among t.hops p.0 p.1
  reads p silent at changed = go (old.senders p.0 p.1)
    where
      other : is_same (standing_of (slice_get c k.node) d) (standing_of (slice_get next k.node) d) ≡ false
      other = ap₂ is_same (sym (old.stands k.node)) (sym at_node) ∙ changed

      go : SentAs d first c t.hops p.0 p.1 → source_of m.state.remaining k.step ≡ sender_among t.hops p.0 p.1
      go (Without was none) =
          let by = came (standing_of (slice_get c k.node) d) (told_in c p.0 p.1 d) (standing_of (slice_get next k.node) d)
          (delivery_brings c next k d fine taken p silent at) other in
          absurd (by.1 (sym by.0 ∙ was))
      go (With h found sent was seen) =
          ap (source_at m.state.remaining) at ∙ ap (λ (ks : List Kept). sender_of ks p.0 p.1) whole
          ∙ sender_stays first (k ∷ rest) p.0 p.1 h.number sent ∙ sym (ap (option_map (λ (h : Hop). h.number)) found)

  came_moves : (p : ℕ × ℕ) → sends k.step ≡ false → delivers k.step ≡ Some p →
      came_hop k before (standing_at now k.node d) (source_of m.state.remaining k.step)
      ≡ only_move (delivered_hop k before (standing_sent now p.0 p.1 d) (standing_at now k.node d) (sender_among t.hops p.0 p.1))
  came_moves p silent at = go (is_same before.standing (standing_at now k.node d)) refl
    where
      none : (b : Bool) → None ≡ only_move (if b then Some (hop_of k Missed (standing_sent now p.0 p.1 d) 0 (sender_among t.hops p.0 p.1)) else None)
      none true = refl
      none false = refl

      go : (b : Bool) → is_same before.standing (standing_at now k.node d) ≡ b →
          (if b then None else Some (hop_of k Came (standing_at now k.node d) 0 (source_of m.state.remaining k.step)))
          ≡ only_move (if b then (if is_above (standing_sent now p.0 p.1 d) (standing_at now k.node d)
          then Some (hop_of k Missed (standing_sent now p.0 p.1 d) 0 (sender_among t.hops p.0 p.1)) else None)
          else Some (hop_of k Came (standing_at now k.node d) 0 (sender_among t.hops p.0 p.1)))
      go true same = none (is_above (standing_sent now p.0 p.1 d) (standing_at now k.node d))
      go false changed = ap (λ (o : Option ℕ). Some (hop_of k Came (standing_at now k.node d) 0 o)) (reads p silent at changed)

  hop_is : told_hop m asked now k d before ≡ only_move (hop_at d now k t.hops before)
  unfolding hop_at
  hop_is = go (sends k.step) refl (delivers k.step) refl
    where
      forgot : (b : Bool) → None ≡ only_move (if b then Some (hop_of k Forgot before.standing 0 before.by) else None)
      forgot true = refl
      forgot false = refl

      go : (b : Bool) → sends k.step ≡ b → (o : Option (ℕ × ℕ)) → delivers k.step ≡ o →
          (if b then sent_hop k before (last_message now k.node) (standing_sent now k.node (last_message now k.node) d)
          else told_received m asked k d before o)
          ≡ only_move (if b then sent_hop k before (last_message now k.node) (standing_sent now k.node (last_message now k.node) d)
          else received_hop d now k t.hops before (standing_at now k.node d) o)
      go true sending o at = sent_moves k before (last_message now k.node) (standing_sent now k.node (last_message now k.node) d)
      go false silent None at = forgot (is_same (standing_at now k.node d) Unseen && is_above before.standing Unseen)
      go false silent (Some p) at =
          ap (λ (s : Standing). came_hop k before s (source_of m.state.remaining k.step)) (delivered p silent at) ∙ came_moves p silent at

-- all steps

record Told (t told : Track) : Type 0 where
  stands : told.stands ≡ t.stands
  hops : told.hops ≡ filter is_move t.hops

module _ (m : Machine) (d : Dot) (named : d.name < length m.names) (valid : AreSentValid m) (last : Cluster) (ends : cluster_of m ≡ Ok last)
    (rises : NumbersRise 0 m.state.remaining) (room : 2 * length m.state.remaining ≤ m.limits.acts) where
  follow : (first rest : List Kept) (c : Cluster) (asked : Machine) (t told : Track) → m.state.remaining ≡ first ++ rest →
      then_runs (Ok c) rest ≡ Ok last → Along m d first c asked t → Told t told → Told (track_from d asked rest t) (told_from m d asked rest told)
  unfolding track_from told_from followed told_followed
  follow first [] c asked t told whole run along so_far = so_far
  follow first (k ∷ rest) c asked t told whole run along so_far =
      let one = run_one c last k rest run in
      let parts = ap length whole ∙ length-append first (k ∷ rest) in
      let rise = subst (NumbersRise 0) whole rises in
      let few : 2 * length first + 2 ≤ m.limits.acts = omega (arith, parts, room) in
      follow (first ++ k ∷ []) rest one.0 (after_step asked k) (followed d (after_step asked k) k t) (told_followed m asked k d told)
      (whole ∙ sym (append_assoc first (k ∷ []) rest)) one.2
      (more m d named valid last ends first rest k c one.0 asked t whole rise few one.1 one.2 along)
      (next_told (now_is m d named valid last ends first rest k c one.0 asked t whole rise few one.1 one.2 along)
      (hop_is m d named valid last ends first rest k c one.0 asked t whole rise few one.1 one.2 along))
    where
      next_told : told_after asked (after_step asked k) k d (stand_at t.stands k.node).standing ≡ standing_at (after_step asked k) k.node d →
          told_hop m asked (after_step asked k) k d (stand_at t.stands k.node)
          ≡ only_move (hop_at d (after_step asked k) k t.hops (stand_at t.stands k.node)) →
          Told (followed d (after_step asked k) k t) (told_followed m asked k d told)
      next_told stands hop = record {
        stands =
            ap (λ (l : List Stand). with_stand l k (told_after asked (after_step asked k) k d (stand_at l k.node).standing)) so_far.stands
            ∙ ap (with_stand t.stands k) stands;
        hops =
            ap₂ (λ (hs : List Hop) (l : List Stand). with_hop hs (told_hop m asked (after_step asked k) k d (stand_at l k.node))) so_far.hops so_far.stands
            ∙ ap (with_hop (filter is_move t.hops)) hop
            ∙ with_move t.hops (hop_at d (after_step asked k) k t.hops (stand_at t.stands k.node));
      }

pub track_holds : TrackLaw
unfolding track_of told_track
track_holds m d reached valid named =
    let given = given_holds (config_of m) m.state reached in
    let few = fewer_remain (config_of m) m.state reached in
    let fits = given.fits in
    let told = follow m d named valid given.runs.0 given.runs.1 given.rises (omega (arith, few, fits)) [] m.state.remaining
    (opening_of (node_limits m.limits) (length m.names)) (opened m) (no_track (length m.names)) (no_track (length m.names)) refl given.runs.1 (at_start m d)
    (record { stands = refl; hops = refl }) in
    record {
      stands = told.stands;
      hops = told.hops;
      chains = λ by.
          ap (λ (hops : List Hop). chain hops by) told.hops
          ∙ ap (λ (b : Back). reverse b.1) (backwards_moves (by, []) (track_from d (opened m) m.state.remaining (no_track (length m.names))).hops);
    }
