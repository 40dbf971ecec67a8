-- A call changes one node at most. Calls lead on from a machine that calls lead to.
use Rattle.std.proofs.Common.{◌≡◌, ◌≢◌, ℕ, List, [], ◌∷◌, Option, None, Some, option_map, unwrap_or, slice_get, slice_set, refl, sym, ap, ◌∙◌, length}
use Rattle.bench_core.specs.declared.reply.Reply.{Reply}
use Rattle.bench_core.specs.declared.reply.Reply.TheVariants.{Taken, Undone, Refused}
use Rattle.bench_core.specs.declared.fault.Fault.{Fault}
use Rattle.bench_core.specs.Acts.{Action}
use Rattle.bench_core.specs.Clusters.{Cluster}
use Rattle.bench_core.specs.Headline.{IsReached}
use Rattle.bench_core.specs.Laws.{with_node_of}
use Rattle.bench_core.specs.Limits.{node_limits}
use Rattle.bench_core.specs.Machine.{Event, Machine, config_of, remaining_after, reply_to}
use Rattle.bench_core.specs.Runs.{runs}
use Rattle.bench_core.proofs.Clusters.{get-set_other}
use Rattle.bench_core.proofs.InTurn.{undo_of, undone_parts}
use Rattle.bench_core.proofs.Invariant.{reached_after}
use Rattle.bench_core.proofs.Middle.{middle_holds}
use Rattle.bench_core.proofs.Reached.{IsKept, kept_reached}
use Rattle.journal_core.specs.Journals.{Kept, find_number, first_consequence, without}
use Rattle.node_core.specs.Nodes.{Node}
use Rattle.report_core.specs.ActRows.{changed_by}
use Rattle.report_core.specs.ActTexts.{after_act, reply_of}
use Rattle.report_core.specs.Shown.{changed, node_in, node_of, node_of_step}
use Rattle.report_core.proofs.StepDiffs.{newest}
use Rattle.page_data.specs.Laws.{after_calls}

-- of a cluster that has another node at one place the others are the same
with_node : (n node : ℕ) (old c : Cluster) → n ≢ node → slice_get (with_node_of node old c) n ≡ slice_get c n
with_node n node old c other = go (slice_get old node)
  where
    go : (o : Option Node) → slice_get (unwrap_or (option_map (slice_set c node) o) c) n ≡ slice_get c n
    go None = refl
    go (Some x) = get-set_other c node n x other

-- where a step is left out from which nothing follows, its node changes alone
left_alone : (m : Machine) (s : List Kept) (k n : ℕ) (x : Kept) → s ≡ m.state.remaining → IsReached (config_of m) m.state → find_number s k ≡ Some x →
    first_consequence s k ≡ None → n ≢ x.node →
    node_in (runs (node_limits m.limits) (length m.names) (without s k)) n ≡ node_of m n
unfolding node_of
left_alone m s k n x is reached found free other =
    let kept : IsKept (config_of m) m.state = kept_reached (config_of m) m.state reached in
    let here = ap (λ (ks : List Kept). runs (node_limits m.limits) (length m.names) ks) is ∙ kept.is_now in
    let left = middle_holds (node_limits m.limits) (length m.names) k m.state.remaining x kept.cluster kept.rises kept.is_now
    (ap (λ ks. find_number ks k) (sym is) ∙ found) (ap (λ ks. first_consequence ks k) (sym is) ∙ free) in
    ap (λ ks. node_in (runs (node_limits m.limits) (length m.names) (without ks k)) n) is
    ∙ ap (λ r. node_in r n) left.2 ∙ with_node n x.node left.0 kept.cluster other
    ∙ sym (ap (λ r. node_in r n) kept.is_now)

-- calls lead on from a machine that calls lead to

pub reached_call : (m : Machine) (actor : ℕ) (act : Action) → IsReached (config_of m) m.state →
    IsReached (config_of (after_act m actor act)) (after_act m actor act).state
unfolding after_act
reached_call m actor act reached = reached_after (config_of m) m.state actor act (reply_to (config_of m) m.state actor act) reached refl

pub reached_calls : (m : Machine) (events : List Event) → IsReached (config_of m) m.state →
    IsReached (config_of (after_calls m events)) (after_calls m events).state
unfolding after_calls
reached_calls m [] reached = reached
reached_calls m (e ∷ events) reached = reached_calls (after_act m e.actor e.act) events (reached_call m e.actor e.act reached)

module _ (m : Machine) (actor : ℕ) (act : Action) (node : ℕ) (reached : IsReached (config_of m) m.state)
    (other : changed_by m actor act ≢ Some node) where
  abbrev new : Machine
  new = after_act m actor act

  taken_stays : (k : ℕ) → reply_of m actor act ≡ Taken k → node_of new node ≡ node_of m node
  unfolding node_of after_act changed
  taken_stays k took =
      let now = newest m new actor act k reached took refl in
      let apart : node ≢ now.step.node = λ same. other (ap (changed m.state.remaining actor) took ∙ ap Some (sym now.of ∙ sym same)) in
      sym (left_alone new new.state.remaining k node now.step refl (reached_call m actor act reached) now.found now.free apart)
      ∙ ap (λ ks. node_in (runs (node_limits m.limits) (length m.names) ks) node) now.out

  undone_stays : (k : ℕ) → reply_of m actor act ≡ Undone k → node_of new node ≡ node_of m node
  unfolding node_of after_act changed node_of_step reply_of
  undone_stays k made =
      let parts = undone_parts m.state k (undo_of (config_of m) m.state actor act k made) in
      let apart : node ≢ parts.0.0.node =
      λ same. other (ap (changed m.state.remaining actor) made ∙ ap (option_map (λ (k : Kept). k.node)) parts.0.1 ∙ ap Some (sym same)) in
      ap (λ ks. node_in (runs (node_limits m.limits) (length m.names) ks) node) (ap (remaining_after m.state.remaining actor act) made)
      ∙ left_alone m m.state.remaining k node parts.0.0 refl reached parts.0.1 parts.1 apart

  refused_stays : (fault : Fault) → reply_of m actor act ≡ Refused fault → node_of new node ≡ node_of m node
  unfolding node_of after_act reply_of
  refused_stays fault made =
      ap (λ ks. node_in (runs (node_limits m.limits) (length m.names) ks) node) (ap (remaining_after m.state.remaining actor act) made)

  -- the node is as it was
  pub node_stays : node_of new node ≡ node_of m node
  node_stays = go (reply_of m actor act) refl
    where
      go : (r : Reply) → reply_of m actor act ≡ r → node_of new node ≡ node_of m node
      go (Taken k) is = taken_stays k is
      go (Undone k) is = undone_stays k is
      go (Refused fault) is = refused_stays fault is
