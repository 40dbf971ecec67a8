-- The track of a dot over all remaining steps, and what it says.
use Rattle.std.proofs.Common.{◌≡◌, ℕ, zero, suc, ◌+◌, ◌*◌, ◌≤◌, List, [], ◌∷◌, ◌++◌, length, replicate}
use Rattle.std.proofs.Common.{slice_get, Option, Some, None, Ok, refl, sym, ap, ◌∙◌, subst, arith, length-append, append_assoc, append-nil}
use Rattle.std.proofs.lemmas.List.Elements.{All-nil}
use Rattle.std.specs.FinMap as fin
use Rattle.std.specs.FinSet as set
use Rattle.dots_core.specs.declared.dot.Dot.{Dot}
use Rattle.dots_core.specs.Dots.{dot_cmp}
use Rattle.payload_core.specs.Presences.{Presence}
use Rattle.node_core.specs.Nodes.{Node, opening_node}
use Rattle.replica_core.specs.declared.node_limits.NodeLimits.{NodeLimits}
use Rattle.journal_core.specs.Journals.{Kept, NumbersRise}
use Rattle.bench_core.specs.Clusters.{Cluster, opening_from, opening_of}
use Rattle.bench_core.specs.Headline.{IsReached}
use Rattle.bench_core.specs.Limits.{node_limits}
use Rattle.bench_core.specs.Machine.{Machine, config_of}
use Rattle.bench_core.specs.Runs.{then_runs}
use Rattle.bench_core.proofs.Reached.{given_holds}
use Rattle.bench_core.proofs.Runs.{opening_at, run_one}
use Rattle.explain_core.specs.Standings.{outbox_of, standing_by, standing_of, standing_told}
use Rattle.explain_core.specs.Tracks.{Track, after_step, followed, never_seen, no_track, opened, stand_at, track_from, track_of}
use Rattle.explain_core.specs.declared.hop.Stand.{Stand}
use Rattle.explain_core.specs.declared.standing.Standing.TheVariants.{Unseen}
use Rattle.explain_core.proofs.Along.{told_in}
use Rattle.explain_core.proofs.Asked.{fewer_remain, opened_in_step}
use Rattle.explain_core.proofs.Chains.{no_element}
use Rattle.explain_core.proofs.Followed.{Along, Without, along_more}

-- what all steps leave
pub record Whole (m : Machine) (d : Dot) (t : Track) : Type 0 where
  pub cluster : Cluster
  pub asked : Machine
  pub along : Along m d m.state.remaining cluster asked t

module _ (m : Machine) (d : Dot) (rises : NumbersRise 0 m.state.remaining) (room : 2 * length m.state.remaining ≤ m.limits.acts) where
  follow : (first rest : List Kept) (c last : Cluster) (asked : Machine) (t : Track) → m.state.remaining ≡ first ++ rest →
      then_runs (Ok c) rest ≡ Ok last → Along m d first c asked t → Whole m d (track_from d asked rest t)
  unfolding track_from
  follow first [] c last asked t whole run along =
      let same : first ≡ m.state.remaining = sym (whole ∙ append-nil first) in
      record { cluster = c; asked = asked; along = subst (λ (ks : List Kept). Along m d ks c asked t) same along }
  follow first (k ∷ rest) c last asked t whole run along =
      let one = run_one c last k rest run in
      let parts = ap length whole ∙ length-append first (k ∷ rest) in
      let more = along_more m d first rest k c one.0 asked t (subst (NumbersRise 0) whole rises) (omega (arith, parts, room)) one.1 along in
      follow (first ++ k ∷ []) rest one.0 last (after_step asked k) (followed d (after_step asked k) k t)
      (whole ∙ sym (append_assoc first (k ∷ []) rest)) one.2 more

-- before the first step

stand_none : (count n : ℕ) → stand_at (replicate count never_seen) n ≡ never_seen
stand_none zero n = refl
stand_none (suc count) zero = refl
stand_none (suc count) (suc n) = stand_none count n

many_none : (count : ℕ) → length (replicate {A = Stand} count never_seen) ≡ count
many_none zero = refl
many_none (suc count) = let more = many_none count in omega (arith, more)

opening_size : (l : NodeLimits) (first count : ℕ) → length (opening_from l first count) ≡ count
opening_size l first zero = refl
opening_size l first (suc count) = let more = opening_size l (first + 1) count in omega (arith, more)

standing_nowhere : (l : NodeLimits) (count n : ℕ) (d : Dot) → standing_of (slice_get (opening_of l count) n) d ≡ Unseen
standing_nowhere l count n d = go (slice_get (opening_of l count) n) refl
  where
    go : (o : Option Node) → slice_get (opening_of l count) n ≡ o → standing_of o d ≡ Unseen
    go None is = refl
    go (Some node) is =
        ap (λ (o : Option Node). standing_of o d) (ap Some (opening_at l count n node is))
        ∙ ap (λ o. standing_by o (set.contains {R = dot_cmp} set.empty d)) (fin.get-empty {X = Presence} dot_cmp d)
        ∙ ap (standing_by None) (set.contains-empty dot_cmp d)

told_nowhere : (l : NodeLimits) (count n p : ℕ) (d : Dot) → told_in (opening_of l count) n p d ≡ Unseen
told_nowhere l count n p d = go (slice_get (opening_of l count) n) refl
  where
    empty : (p : ℕ) → outbox_of (Some (opening_node n l)) p ≡ None
    empty zero = refl
    empty (suc p) = refl

    go : (o : Option Node) → slice_get (opening_of l count) n ≡ o → standing_told (outbox_of o p) d ≡ Unseen
    go None is = refl
    go (Some node) is =
        ap (λ (x : Node). standing_told (outbox_of (Some x) p) d) (opening_at l count n node is)
        ∙ ap (λ o. standing_told o d) (empty p)

pub at_start : (m : Machine) (d : Dot) → Along m d [] (opening_of (node_limits m.limits) (length m.names)) (opened m) (no_track (length m.names))
at_start m d = record {
  run = refl;
  in_step = opened_in_step m;
  size = opening_size (node_limits m.limits) 0 (length m.names);
  many = many_none (length m.names);
  stands = λ n. ap (λ (s : Stand). s.standing) (stand_none (length m.names) n) ∙ sym (standing_nowhere (node_limits m.limits) (length m.names) n d);
  since = λ n number by. absurd (cc (ap (λ (s : Stand). s.by) (stand_none (length m.names) n), by));
  ordered = tt;
  steps = All-nil _;
  senders = λ n p. Without (told_nowhere (node_limits m.limits) (length m.names) n p d) refl;
  deliveries = λ j among. absurd (no_element j among);
}

pub tracked : (m : Machine) (d : Dot) → IsReached (config_of m) m.state → Whole m d (track_of m d)
unfolding track_of
tracked m d reached =
    let given = given_holds (config_of m) m.state reached in
    let few = fewer_remain (config_of m) m.state reached in
    let fits = given.fits in
    follow m d given.rises (omega (arith, few, fits)) [] m.state.remaining (opening_of (node_limits m.limits) (length m.names)) given.runs.0
    (opened m) (no_track (length m.names)) refl given.runs.1 (at_start m d)
