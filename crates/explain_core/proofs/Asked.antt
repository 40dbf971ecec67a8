-- The remaining steps, asked again of a machine that was asked nothing, are all taken, and lead through the clusters of their run.
use Rattle.std.proofs.Common.{◌≡◌, ℕ, ◌+◌, ◌*◌, ◌≤◌, ◌==◌, not, nat_lt, Bool, true, false, if◌then◌else◌, List, [], ◌∷◌, ◌++◌, length}
use Rattle.std.proofs.Common.{Result, Ok, refl, sym, ap, ◌∙◌, subst, arith, length-append}
use Rattle.std.proofs.lemmas.Bool.{and_from, lt-ltb, le-ltb}
use Rattle.std.proofs.lemmas.List.Sums.{count_by-le-length, length-filter}
use Rattle.std.proofs.lemmas.Option.{slice_get_within}
use Rattle.std.specs.List.{list_all}
use Rattle.std.specs.Prelude.{slice_get}
use Rattle.payload_core.specs.Results.{◌>>=◌}
use Rattle.node_core.specs.Operations.{named_in}
use Rattle.journal_core.specs.Journals.{Kept, without}
use Rattle.bench_core.specs.Acts.{Action, Do, Undo, Back}
use Rattle.bench_core.specs.Clusters.{Cluster, opening_of, step}
use Rattle.bench_core.specs.Headline.{IsReached}
use Rattle.bench_core.specs.Limits.{node_limits}
use Rattle.bench_core.specs.Machine.{Config, Event, Machine, State, after, call, calls, cluster_of, config_of, free_places, given, is_recorded, knows}
use Rattle.bench_core.specs.Machine.{now, opening_state, reply_to, step_reply, with_state}
use Rattle.bench_core.specs.Runs.{then_runs}
use Rattle.bench_core.specs.declared.fault.Fault.{Fault}
use Rattle.bench_core.specs.declared.fault.Fault.TheVariants.{HistoryFull, UnknownNode}
use Rattle.bench_core.specs.declared.reply.Reply.{Reply}
use Rattle.bench_core.specs.declared.reply.Reply.TheVariants.{Taken, Undone, Refused}
use Rattle.bench_core.proofs.Clusters.{stepped}
use Rattle.bench_core.proofs.Runs.{runs_append}
use Rattle.report_core.specs.ActTexts.{after_act}
use Rattle.report_core.specs.Shown.{node_in, node_of}
use Rattle.explain_core.specs.Tracks.{after_step, opened}

-- the machine was asked so many steps, all were taken, and they lead to this cluster
pub record InStep (m : Machine) (count : ℕ) (c : Cluster) (asked : Machine) : Type 0 where
  pub names : asked.names ≡ m.names
  pub limits : asked.limits ≡ m.limits
  pub gives : cluster_of asked ≡ Ok c
  pub history : length asked.state.history ≡ count
  pub remaining : length asked.state.remaining ≡ count

pub opened_in_step : (m : Machine) → InStep m 0 (opening_of (node_limits m.limits) (length m.names)) (opened m)
opened_in_step m = record { names = refl; limits = refl; gives = refl; history = refl; remaining = refl }

-- its nodes are those of the cluster
pub node_there : (m : Machine) (count : ℕ) (c : Cluster) (asked : Machine) (n : ℕ) → InStep m count c asked → node_of asked n ≡ slice_get c n
unfolding node_of
node_there m count c asked n at = ap (λ r. node_in r n) at.gives

module _ (m : Machine) (count : ℕ) (c next : Cluster) (asked : Machine) (k : Kept) (size : length c ≡ length m.names)
    (room : 2 * count + 2 ≤ m.limits.acts) (at : InStep m count c asked) (taken : step c k.node k.step ≡ Ok next) where
  abbrev config : Config
  config = config_of asked

  abbrev number : ℕ
  number = given asked.state.history + 1

  abbrev event : Event
  event = record { actor = k.node; act = Do k.step; reply = Taken number }

  abbrev kept : Kept
  kept = record { number = number; node = k.node; step = k.step }

  known : knows config k.node k.step ≡ true
  known =
      let s = stepped c k.node k.step next taken in
      let same : length c ≡ length asked.names = size ∙ ap length (sym at.names) in
      let within = slice_get_within c k.node s.from s.at in
      and_from _ _ (lt-ltb k.node (length asked.names) (omega (arith, within, same)))
      (subst (λ n. list_all (λ k. nat_lt k n) (named_in k.step) ≡ true) same s.named)

  free : nat_lt (free_places config asked.state) 2 ≡ false
  free =
      let acts = ap (λ l. l.acts) at.limits in
      let history = at.history in
      let remaining = at.remaining in
      le-ltb (free_places config asked.state) 2 (omega (arith, acts, history, remaining, room))

  reply : reply_to config asked.state k.node (Do k.step) ≡ Taken number
  reply =
      ap (λ b. if not b then Refused UnknownNode else if nat_lt (free_places config asked.state) 2 then Refused HistoryFull
      else step_reply number (now config asked.state >>= λ cluster. step cluster k.node k.step)) known
      ∙ ap (λ b. if b then Refused HistoryFull else step_reply number (now config asked.state >>= λ cluster. step cluster k.node k.step)) free
      ∙ ap (λ (r : Result Cluster Fault). step_reply number (r >>= λ cluster. step cluster k.node k.step)) at.gives
      ∙ ap (step_reply number) taken

  after_taken : InStep m (count + 1) next (with_state asked (after config asked.state k.node (Do k.step) (Taken number)))
  after_taken =
      let longer = length-append asked.state.history (event ∷ []) in
      let more = length-append asked.state.remaining (kept ∷ []) in
      let history = at.history in
      let remaining = at.remaining in
      record {
        names = at.names;
        limits = at.limits;
        gives =
            runs_append (Ok (opening_of (node_limits asked.limits) (length asked.names))) asked.state.remaining (kept ∷ [])
            ∙ ap (λ (r : Result Cluster Fault). then_runs r (kept ∷ [])) at.gives
            ∙ ap (λ (r : Result Cluster Fault). then_runs r []) taken;
        history = omega (arith, longer, history);
        remaining = omega (arith, more, remaining);
      }

  -- one more step
  pub next_in_step : InStep m (count + 1) next (after_step asked k)
  unfolding after_step after_act
  next_in_step =
      subst (λ (s : State). InStep m (count + 1) next (with_state asked s))
      (ap (after config asked.state k.node (Do k.step)) (sym reply)) after_taken

-- of a reached machine no more steps remain than calls were recorded

fewer_refused : (c : Config) (s : State) (actor : ℕ) (act : Action) (b : Bool) (r : Reply) → length s.remaining ≤ length s.history →
    length s.remaining ≤ length (if b then s.history ++ record { actor = actor; act = act; reply = r } ∷ [] else s.history)
fewer_refused c s actor act true r few =
    let longer = length-append s.history (record { actor = actor; act = act; reply = r } ∷ []) in omega (arith, longer)
fewer_refused c s actor act false r few = few

fewer_without : (ks : List Kept) (n : ℕ) → length (without ks n) ≤ length ks
fewer_without ks n =
    let kept = length-filter (λ (k : Kept). not (k.number == n)) ks in
    let bound = count_by-le-length (λ (k : Kept). not (k.number == n)) ks in
    omega (arith, kept, bound)

fewer_after : (c : Config) (s : State) (actor : ℕ) (act : Action) (r : Reply) → length s.remaining ≤ length s.history →
    length (after c s actor act r).remaining ≤ length (after c s actor act r).history
fewer_after c s actor (Do operation) (Taken n) few =
    let longer = length-append s.history (record { actor = actor; act = Do operation; reply = Taken n } ∷ []) in
    let more = length-append s.remaining (record { number = n; node = actor; step = operation } ∷ []) in
    omega (arith, longer, more)
fewer_after c s actor (Undo k) (Taken n) few =
    let longer = length-append s.history (record { actor = actor; act = Undo k; reply = Taken n } ∷ []) in omega (arith, longer)
fewer_after c s actor (Back node) (Taken n) few =
    let longer = length-append s.history (record { actor = actor; act = Back node; reply = Taken n } ∷ []) in omega (arith, longer)
fewer_after c s actor act (Undone n) few =
    let longer = length-append s.history (record { actor = actor; act = act; reply = Undone n } ∷ []) in
    let fewer = fewer_without s.remaining n in
    omega (arith, longer, fewer)
fewer_after c s actor act (Refused fault) few = fewer_refused c s actor act (is_recorded c s (Refused fault)) (Refused fault) few

fewer_calls : (c : Config) (s : State) (asked : List (ℕ × Action)) → length s.remaining ≤ length s.history →
    length (calls c s asked).remaining ≤ length (calls c s asked).history
fewer_calls c s [] few = few
fewer_calls c s (a ∷ asked) few =
    fewer_calls c (call c s a.0 a.1) asked (fewer_after c s a.0 a.1 (reply_to c s a.0 a.1) few)

pub fewer_remain : (c : Config) (s : State) → IsReached c s → length s.remaining ≤ length s.history
fewer_remain c s reached =
    subst (λ (s : State). length s.remaining ≤ length s.history) (sym reached.1) (fewer_calls c opening_state reached.0 (omega arith))
