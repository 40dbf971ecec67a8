-- A step that remains was told, when it was recorded, as it is told if the remaining steps are asked again.
use Rattle.std.proofs.Common.{◌≡◌, ◌≢◌, ◌⊎◌, inl, inr, ℕ, ◌+◌, ◌*◌, ◌<◌, ◌≤◌, ◌==◌, not, Bool, true, false, cond, if◌then◌else◌, List, [], ◌∷◌, ◌++◌, length}
use Rattle.std.proofs.Common.{slice_get, set, Option, Some, None, Result, Ok, Err, refl, sym, ap, ◌∙◌, subst, append_assoc, arith, length-append, length-set}
use Rattle.std.proofs.lemmas.Bool.{cases_eq, ne_eqb}
use Rattle.std.proofs.lemmas.List.Elements.{filter-append}
use Rattle.std.specs.List.{AllByRecursion as Each}
use Rattle.replica_core.specs.declared.node_limits.NodeLimits.{NodeLimits}
use Rattle.payload_core.specs.Messages.{Message}
use Rattle.node_core.specs.Nodes.{Node}
use Rattle.node_core.specs.Operations.{Operation, Deliver, delivers}
use Rattle.journal_core.specs.Journals.{AreBelow, Kept, NumbersRise, find_number, first_consequence, is_consequence, last_of, source_of, steps_before, without}
use Rattle.journal_core.proofs.Each.{NoneOf, each_rest, finds_all, none_follows}
use Rattle.journal_core.proofs.InTurn.{find-without, find_out}
use Rattle.journal_core.proofs.Rising.{below_part}
use Rattle.journal_core.proofs.Split.{Split, split, split_at}
use Rattle.bench_core.specs.declared.fault.Fault.{Fault}
use Rattle.bench_core.specs.declared.reply.Reply.{Reply}
use Rattle.bench_core.specs.declared.reply.Reply.TheVariants.{Taken, Undone, Refused}
use Rattle.bench_core.specs.Acts.{Action, Do}
use Rattle.bench_core.specs.Clusters.{Cluster, message_at, message_for, opening_of, step}
use Rattle.bench_core.specs.Headline.{IsReached}
use Rattle.bench_core.specs.Limits.{node_limits}
use Rattle.bench_core.specs.Machine.{Event, Machine, cluster_of, config_of, given, is_recorded, remaining_after, reply_to}
use Rattle.bench_core.specs.Runs.{runs, then_runs}
use Rattle.bench_core.proofs.Clusters.{get-set_other, get-set_same, message-set, stepped}
use Rattle.bench_core.proofs.InTurn.{undo_of, undone_parts}
use Rattle.bench_core.proofs.Middle.{left_out, stands_apart}
use Rattle.bench_core.proofs.Openings.{opening_length}
use Rattle.bench_core.proofs.Reached.{IsKept, count_push, given_holds, kept_reached, taken_by_do}
use Rattle.bench_core.proofs.Runs.{Apart, HasNode, run_one, runs_split, step_has}
use Rattle.report_core.specs.ActTexts.{after_act, reply_of}
use Rattle.report_core.specs.Shown.{node_in, node_of}
use Rattle.report_core.proofs.StepDiffs.{newest}
use Rattle.explain_core.specs.Tracks.{after_step, opened}
use Rattle.explain_core.proofs.Along.{outbox_at}
use Rattle.explain_core.proofs.Asked.{InStep, fewer_remain, next_in_step, node_there, opened_in_step}
use Rattle.page_data.specs.Carried.{message_in}
use Rattle.page_data.specs.Chains.{IsToldAlike, RecordedLaw, after_steps, before_step}
use Rattle.page_data.specs.Laws.{after_calls}
use Rattle.page_data.specs.PageData.{arrival_keys, delivery_keys}
use Rattle.page_data.proofs.Chained.{message_same}
use Rattle.page_data.proofs.Pasts.{before_it, last_same, source_same, taken_number}
use Rattle.page_data.proofs.Stays.{reached_call, reached_calls}

-- steps that stand apart

apart_front : (n : ℕ) (x y : Node) (first rest : List Kept) → Apart n x y (first ++ rest) → Apart n x y first
apart_front n x y [] rest apart = tt
apart_front n x y (k ∷ first) rest apart = (apart.0, (apart.1.0, apart_front n x y first rest apart.1.1))

apart_behind : (n : ℕ) (x y : Node) (first rest : List Kept) → Apart n x y (first ++ rest) → Apart n x y rest
apart_behind n x y [] rest apart = apart
apart_behind n x y (k ∷ first) rest apart = apart_behind n x y first rest apart.1.1

still_has : (r : Result Cluster Fault) (n : ℕ) (x y : Node) (ks : List Kept) → HasNode n x r → Apart n x y ks → HasNode n x (then_runs r ks)
still_has (Err e) n x y ks has apart = has
still_has (Ok c) n x y [] has apart = has
still_has (Ok c) n x y (k ∷ ks) has apart = still_has (step c k.node k.step) n x y ks (step_has c k n x apart.0 has) apart.1.1

-- a step among the first ones

before_front : (first rest : List Kept) (u : ℕ) (y : Kept) → find_number first u ≡ Some y → steps_before (first ++ rest) u ≡ steps_before first u
before_front [] rest u y found = absurd (cc)
before_front (k ∷ first) rest u y found = go (k.number == u) found (before_front first rest u y)
  where
    go : (b : Bool) → (if b then Some k else find_number first u) ≡ Some y →
        (find_number first u ≡ Some y → steps_before (first ++ rest) u ≡ steps_before first u) →
        (if b then [] else k ∷ steps_before (first ++ rest) u) ≡ (if b then [] else k ∷ steps_before first u)
    go true found more = refl
    go false found more = ap (λ (l : List Kept). k ∷ l) (more found)

find_cases : (first rest : List Kept) (u : ℕ) (y : Kept) → find_number (first ++ rest) u ≡ Some y →
    (find_number first u ≡ Some y) ⊎ ((find_number first u ≡ None) × (find_number rest u ≡ Some y))
find_cases [] rest u y found = inr (refl, found)
find_cases (k ∷ first) rest u y found = go (k.number == u) found (find_cases first rest u y)
  where
    go : (b : Bool) → (if b then Some k else find_number (first ++ rest) u) ≡ Some y →
        (find_number (first ++ rest) u ≡ Some y → (find_number first u ≡ Some y) ⊎ ((find_number first u ≡ None) × (find_number rest u ≡ Some y))) →
        ((if b then Some k else find_number first u) ≡ Some y) ⊎ (((if b then Some k else find_number first u) ≡ None) × (find_number rest u ≡ Some y))
    go true found more = inl found
    go false found more = more found

without_none : (ks : List Kept) (u : ℕ) → find_number ks u ≡ None → without ks u ≡ ks
without_none [] u none = refl
without_none (k ∷ ks) u none = go (k.number == u) none (without_none ks u)
  where
    go : (b : Bool) → (if b then Some k else find_number ks u) ≡ None → (find_number ks u ≡ None → without ks u ≡ ks) →
        cond (not b) (k ∷ without ks u) (without ks u) ≡ k ∷ ks
    go true none more = absurd (cc)
    go false none more = ap (λ (l : List Kept). k ∷ l) (more none)

rises_front : (a : ℕ) (first rest : List Kept) → NumbersRise a (first ++ rest) → NumbersRise a first
rises_front a [] rest rises = tt
rises_front a (k ∷ first) rest rises = (rises.0, rises_front k.number first rest rises.1)

-- of a step: what its node is before it, the message that it delivers, the step that sent the message, and the node's step before
record Read : Type 0 where
  own : Option Node
  message : Option Message
  source : Option ℕ
  last : Option ℕ

module _ (limits : NodeLimits) (count : ℕ) (x : Kept) (was : Read) where
  -- the step x stands in the journal, and reads this
  record Stands (ks : List Kept) : Type 0 where
    first : List Kept
    behind : List Kept
    whole : ks ≡ first ++ x ∷ behind
    cluster : Cluster
    run : runs limits count first ≡ Ok cluster
    there : slice_get cluster x.node ≡ was.own
    read : message_for cluster x.step ≡ was.message
    sent : source_of ks x.step ≡ was.source
    prev : last_of (steps_before ks x.number) x.node ≡ was.last

  found_in : (ks first behind : List Kept) → ks ≡ first ++ x ∷ behind → NumbersRise 0 ks → find_number ks x.number ≡ Some x
  found_in ks first behind whole rises =
      (each_rest _ first (x ∷ behind)
      (subst (Each (λ (j : Kept). (0 < j.number) × (find_number ks j.number ≡ Some j))) whole (finds_all 0 ks rises))).0.1

  free_of : (ks first behind : List Kept) (u : ℕ) (y : Kept) → ks ≡ first ++ x ∷ behind → find_number ks u ≡ Some y →
      first_consequence ks u ≡ None → is_consequence ks y x ≡ false
  free_of ks first behind u y whole found free =
      (each_rest _ first (x ∷ behind) (subst (NoneOf (is_consequence ks y)) whole (none_follows ks u y found free))).0

  -- x delivers from the same step, with and without a step from which nothing follows
  source_alike : (ks first behind : List Kept) (u : ℕ) (y : Kept) → ks ≡ first ++ x ∷ behind → NumbersRise 0 ks → find_number ks u ≡ Some y →
      first_consequence ks u ≡ None → source_of (without ks u) x.step ≡ source_of ks x.step
  source_alike ks first behind u y whole rises found free =
      source_same ks u y rises found (none_follows ks u y found free) x (free_of ks first behind u y whole found free)

  -- a further step
  one_more : (ks all : List Kept) (k y : Kept) → all ≡ ks ++ k ∷ [] → NumbersRise 0 all → find_number all k.number ≡ Some y →
      first_consequence all k.number ≡ None → without all k.number ≡ ks → Stands ks → Stands all
  one_more ks all k y grown rises found free out old =
      let whole : all ≡ old.first ++ x ∷ (old.behind ++ k ∷ []) =
      grown ∙ ap (λ (l : List Kept). l ++ k ∷ []) old.whole ∙ append_assoc old.first (x ∷ old.behind) (k ∷ []) in
      let here : find_number ks x.number ≡ Some x =
      found_in ks old.first old.behind old.whole (rises_front 0 ks (k ∷ []) (subst (NumbersRise 0) grown rises)) in
      record {
        first = old.first;
        behind = old.behind ++ k ∷ [];
        whole = whole;
        cluster = old.cluster;
        run = old.run;
        there = old.there;
        read = old.read;
        sent =
            sym (source_alike all old.first (old.behind ++ k ∷ []) k.number y whole rises found free) ∙ ap (λ (l : List Kept). source_of l x.step) out
            ∙ old.sent;
        prev =
            ap (λ (l : List Kept). last_of (steps_before l x.number) x.node) grown
            ∙ ap (λ (l : List Kept). last_of l x.node) (before_front ks (k ∷ []) x.number x here) ∙ old.prev;
      }

  -- another step is taken out, which has no consequences
  module _ (ks : List Kept) (u : ℕ) (y : Kept) (rises : NumbersRise 0 ks) (found : find_number ks u ≡ Some y)
      (free : first_consequence ks u ≡ None) (other : x.number ≢ u) (old : Stands ks) where
    still_sent : source_of (without ks u) x.step ≡ was.source
    still_sent = source_alike ks old.first old.behind u y old.whole rises found free ∙ old.sent

    still_prev : last_of (steps_before (without ks u) x.number) x.node ≡ was.last
    still_prev =
        last_same ks u y rises found (none_follows ks u y found free) x (found_in ks old.first old.behind old.whole rises)
        (free_of ks old.first old.behind u y old.whole found free) (λ e. other (sym e))
        ∙ old.prev

    apart_out : without ks u ≡ without old.first u ++ x ∷ without old.behind u
    apart_out =
        ap (λ (l : List Kept). without l u) old.whole
        ∙ filter-append (λ (j : Kept). not (j.number == u)) old.first (x ∷ old.behind)
        ∙ ap (λ b. without old.first u ++ cond (not b) (x ∷ without old.behind u) (without old.behind u)) (ne_eqb x.number u other)

    -- behind x
    later_out : find_number old.first u ≡ None → Stands (without ks u)
    later_out none = record {
      first = old.first;
      behind = without old.behind u;
      whole = apart_out ∙ ap (λ (l : List Kept). l ++ x ∷ without old.behind u) (without_none old.first u none);
      cluster = old.cluster;
      run = old.run;
      there = old.there;
      read = old.read;
      sent = still_sent;
      prev = still_prev;
    }

    -- before x
    earlier_out : find_number old.first u ≡ Some y → Stands (without ks u)
    earlier_out there =
        let rise : NumbersRise 0 (old.first ++ x ∷ old.behind) = subst (NumbersRise 0) old.whole rises in
        let here = split 0 old.first u y (rises_front 0 old.first (x ∷ old.behind) rise) there in
        let before : steps_before ks u ≡ steps_before old.first u =
        ap (λ (l : List Kept). steps_before l u) old.whole ∙ before_front old.first (x ∷ old.behind) u y there in
        let all : ks ≡ steps_before ks u ++ y ∷ (here.rest ++ x ∷ old.behind) =
        old.whole ∙ ap (λ (l : List Kept). l ++ x ∷ old.behind) here.whole
        ∙ append_assoc (steps_before old.first u) (y ∷ here.rest) (x ∷ old.behind)
        ∙ ap (λ (l : List Kept). l ++ y ∷ (here.rest ++ x ∷ old.behind)) (sym before) in
        let whole_split : Split ks u y = split_at 0 ks (here.rest ++ x ∷ old.behind) u y rises found all in
        let parts = runs_split (Ok (opening_of limits count)) (steps_before old.first u) (y ∷ here.rest) old.cluster
        (ap (λ (l : List Kept). runs limits count l) (sym here.whole) ∙ old.run) in
        let one = run_one parts.0 old.cluster y here.rest parts.2 in
        let at = stepped parts.0 y.node y.step one.0 one.1 in
        let far = stands_apart limits count u ks y parts.0 one.0 whole_split (ap (λ (l : List Kept). runs limits count l) before ∙ parts.1) at (none_follows ks u y found free) in
        let front = apart_front y.node at.to at.from here.rest (x ∷ old.behind) far in
        let own = apart_behind y.node at.to at.from here.rest (x ∷ old.behind) far in
        let has : HasNode y.node at.to (Ok one.0) =
        ap (λ (d : Cluster). slice_get d y.node) at.gives ∙ get-set_same parts.0 y.node at.from at.to at.at in
        let has_still : slice_get old.cluster y.node ≡ Some at.to = subst (HasNode y.node at.to) one.2 (still_has (Ok one.0) y.node at.to at.from here.rest has front) in
        record {
          first = without old.first u;
          behind = without old.behind u;
          whole = apart_out;
          cluster = set old.cluster y.node at.from;
          run = left_out limits count u old.first y parts.0 one.0 old.cluster here parts.1 at one.2 front;
          there = get-set_other old.cluster y.node x.node at.from own.0 ∙ old.there;
          read = message-set old.cluster y.node at.to at.from x.step has_still own.1.0 ∙ old.read;
          sent = still_sent;
          prev = still_prev;
        }

    taken_out : Stands (without ks u)
    taken_out = go (find_cases old.first (x ∷ old.behind) u y (ap (λ (l : List Kept). find_number l u) (sym old.whole) ∙ found))
      where
        go : (find_number old.first u ≡ Some y) ⊎ ((find_number old.first u ≡ None) × (find_number (x ∷ old.behind) u ≡ Some y)) → Stands (without ks u)
        go (inl there) = earlier_out there
        go (inr there) = later_out there.0

-- calls

abbrev StandsIn : Machine → Kept → Read → Type 0
StandsIn m x was = Stands (node_limits m.limits) (length m.names) x was m.state.remaining

module _ (m : Machine) (actor : ℕ) (act : Action) (reached : IsReached (config_of m) m.state) where
  abbrev new : Machine
  new = after_act m actor act

  more_given : given m.state.history ≤ given new.state.history
  unfolding after_act
  more_given = go (is_recorded (config_of m) m.state (reply_to (config_of m) m.state actor act))
    where
      event : Event
      event = record { actor = actor; act = act; reply = reply_to (config_of m) m.state actor act }

      go : (b : Bool) → given m.state.history ≤ given (if b then m.state.history ++ event ∷ [] else m.state.history)
      go true = let more = count_push m.state.history event in omega (arith, more)
      go false = omega arith

  -- the journal behind the call

  undone_out : (k : ℕ) → reply_of m actor act ≡ Undone k → new.state.remaining ≡ without m.state.remaining k
  unfolding after_act reply_of
  undone_out k made = ap (remaining_after m.state.remaining actor act) made

  refused_same : (fault : Fault) → reply_of m actor act ≡ Refused fault → new.state.remaining ≡ m.state.remaining
  unfolding after_act reply_of
  refused_same fault is = ap (remaining_after m.state.remaining actor act) is

  record Grown (k : ℕ) : Type 0 where
    operation : Operation
    number : k ≡ given m.state.history + 1
    grown : new.state.remaining ≡ m.state.remaining ++ record { number = k; node = actor; step = operation } ∷ []

  taken_grown : (k : ℕ) → reply_of m actor act ≡ Taken k → Grown k
  unfolding after_act reply_of
  taken_grown k took =
      let t = taken_by_do (config_of m) m.state actor act k took in
      record {
        operation = t.0;
        number = taken_number (config_of m) m.state actor t.0 k (ap (reply_to (config_of m) m.state actor) (sym t.1) ∙ took);
        grown = ap (remaining_after m.state.remaining actor act) took ∙ ap (λ a. remaining_after m.state.remaining actor a (Taken k)) t.1;
      }

  -- a step that is gone stays gone
  gone_call : (n : ℕ) → n ≤ given m.state.history → find_number m.state.remaining n ≡ None → find_number new.state.remaining n ≡ None
  gone_call n low none = go (reply_of m actor act) refl
    where
      out : (k : ℕ) → (n ≡ k) ⊎ (n ≢ k) → find_number (without m.state.remaining k) n ≡ None
      out k (inl same) = ap (find_number (without m.state.remaining k)) same ∙ find_out m.state.remaining k
      out k (inr other) = find-without m.state.remaining k n other ∙ none

      go : (r : Reply) → reply_of m actor act ≡ r → find_number new.state.remaining n ≡ None
      go (Taken k) took =
          let number = (taken_grown k took).number in
          sym (find-without new.state.remaining k n (λ e. omega (arith, e, number, low)))
          ∙ ap (λ ks. find_number ks n) (newest m new actor act k reached took refl).out ∙ none
      go (Undone k) made = ap (λ ks. find_number ks n) (undone_out k made) ∙ out k (cases_eq n k)
      go (Refused fault) is = ap (λ ks. find_number ks n) (refused_same fault is) ∙ none

gone_calls : (m : Machine) (later : List Event) (n : ℕ) → IsReached (config_of m) m.state → n ≤ given m.state.history →
    find_number m.state.remaining n ≡ None → find_number (after_calls m later).state.remaining n ≡ None
unfolding after_calls
gone_calls m [] n reached low none = none
gone_calls m (e ∷ later) n reached low none =
    let more = more_given m e.actor e.act reached in
    gone_calls (after_act m e.actor e.act) later n (reached_call m e.actor e.act reached) (omega (arith, low, more))
    (gone_call m e.actor e.act reached n low none)

module _ (m : Machine) (actor : ℕ) (act : Action) (reached : IsReached (config_of m) m.state) (x : Kept) (was : Read) (old : StandsIn m x was) where
  abbrev next : Machine
  next = after_act m actor act

  abbrev StandsThen : List Kept → Type 0
  StandsThen ks = Stands (node_limits m.limits) (length m.names) x was ks

  kept : IsKept (config_of m) m.state
  kept = kept_reached (config_of m) m.state reached

  still_taken : (k : ℕ) → reply_of m actor act ≡ Taken k → StandsThen next.state.remaining
  still_taken k took =
      let one = taken_grown m actor act reached k took in
      let last = newest m next actor act k reached took refl in
      let rises = (kept_reached (config_of next) next.state (reached_call m actor act reached)).rises in
      one_more (node_limits m.limits) (length m.names) x was m.state.remaining next.state.remaining
      (record { number = k; node = actor; step = one.operation }) last.step one.grown rises last.found last.free last.out old

  still_undone : (k : ℕ) → reply_of m actor act ≡ Undone k → x.number ≢ k → StandsThen next.state.remaining
  unfolding reply_of
  still_undone k made other =
      let parts = undone_parts m.state k (undo_of (config_of m) m.state actor act k made) in
      subst StandsThen (sym (undone_out m actor act reached k made))
      (taken_out (node_limits m.limits) (length m.names) x was m.state.remaining k parts.0.0 kept.rises parts.0.1 parts.1 other old)

  -- as long as it remains
  still : (later : List Event) → find_number (after_calls next later).state.remaining x.number ≢ None → StandsThen next.state.remaining
  still later remains = go (reply_of m actor act) refl
    where
      low : x.number ≤ given next.state.history
      low =
          let below = (each_rest _ old.first (x ∷ old.behind) (subst (AreBelow (given m.state.history + 1)) old.whole kept.numbered)).0 in
          let more = more_given m actor act reached in
          omega (arith, below, more)

      go : (r : Reply) → reply_of m actor act ≡ r → StandsThen next.state.remaining
      go (Taken k) took = still_taken k took
      go (Undone k) made =
          still_undone k made
          (λ same. remains (gone_calls next later x.number (reached_call m actor act reached) low
          (ap (λ ks. find_number ks x.number) (undone_out m actor act reached k made) ∙ ap (find_number (without m.state.remaining k)) same
          ∙ find_out m.state.remaining k)))
      go (Refused fault) is = subst StandsThen (sym (refused_same m actor act reached fault is)) old

along_calls : (m : Machine) (later : List Event) (x : Kept) (was : Read) → IsReached (config_of m) m.state → StandsIn m x was →
    find_number (after_calls m later).state.remaining x.number ≢ None → StandsIn (after_calls m later) x was
unfolding after_calls after_act
along_calls m [] x was reached old remains = old
along_calls m (e ∷ later) x was reached old remains =
    along_calls (after_act m e.actor e.act) later x was (reached_call m e.actor e.act reached)
    (still m e.actor e.act reached x was old later remains) remains

names_stay : (m : Machine) (events : List Event) → (after_calls m events).names ≡ m.names
unfolding after_calls after_act
names_stay m [] = refl
names_stay m (e ∷ events) = names_stay (after_act m e.actor e.act) events

-- the remaining steps, asked again

replay : (m : Machine) (ks : List Kept) (count : ℕ) (c d : Cluster) (asked : Machine) → then_runs (Ok c) ks ≡ Ok d → length c ≡ length m.names →
    2 * count + 2 * length ks ≤ m.limits.acts → InStep m count c asked → (all : ℕ) × InStep m all d (after_steps asked ks)
unfolding after_steps
replay m [] count c d asked run size room at = let same : c ≡ d = cc in (count, subst (λ (c : Cluster). InStep m count c asked) same at)
replay m (k ∷ ks) count c d asked run size room at =
    let one = run_one c d k ks run in
    let s = stepped c k.node k.step one.0 one.1 in
    replay m ks (count + 1) one.0 d (after_step asked k) one.2 (ap length s.gives ∙ length-set c k.node s.to ∙ size) (omega (arith, room))
    (next_in_step m count c one.0 asked k size (omega (arith, room)) at one.1)

-- on a machine whose nodes are those of a cluster, a message is what the cluster has
message_there : (c : Cluster) (m : Machine) (sender number : ℕ) → ((n : ℕ) → node_of m n ≡ slice_get c n) →
    message_in (node_of m sender) number ≡ message_at c (Some (sender, number))
message_there c m sender number nodes =
    ap (λ (o : Option Node). message_in o number) (nodes sender) ∙ message_same (slice_get c sender) number ∙ outbox_at (slice_get c sender) number

-- what the data tells of a delivery
arrival_alike : (a b : Machine) (node : ℕ) (operation : Operation) → node_of a node ≡ node_of b node → a.names ≡ b.names →
    ((p : ℕ × ℕ) → delivers operation ≡ Some p → message_in (node_of a p.0) p.1 ≡ message_in (node_of b p.0) p.1) →
    arrival_keys a node operation ≡ arrival_keys b node operation
arrival_alike a b node (Deliver sender number) own names message =
    let same : message_in (node_of a sender) number ≡ message_in (node_of b sender) number = message (sender, number) refl in
    λ i. delivery_keys (own i) (same i) (length (names i))
arrival_alike a b node _ own names message = refl

module _ (m : Machine) (x : Kept) (recorded : Machine) (was : Cluster) (last : Option ℕ) (reached : IsReached (config_of m) m.state)
    (names : recorded.names ≡ m.names) (nodes : (n : ℕ) → node_of recorded n ≡ slice_get was n) (before : last_of recorded.state.remaining x.node ≡ last)
    (at : StandsIn m x
    (record { own = slice_get was x.node; message = message_for was x.step; source = source_of recorded.state.remaining x.step; last = last })) where
  abbrev again : Machine
  again = before_step m x.number

  record Again : Type 0 where
    all : ℕ
    in_step : InStep m all at.cluster again

  asked_again : Again
  asked_again =
      let given_there = given_holds (config_of m) m.state reached in
      let rises : NumbersRise 0 (at.first ++ x ∷ at.behind) = subst (NumbersRise 0) at.whole given_there.rises in
      let first : steps_before m.state.remaining x.number ≡ at.first =
      ap (λ (l : List Kept). steps_before l x.number) at.whole
      ∙ before_it at.first at.behind x x.number refl (below_part 0 at.first at.behind x rises).1 in
      let few = fewer_remain (config_of m) m.state reached in
      let fits = given_there.fits in
      let long = ap length at.whole ∙ length-append at.first (x ∷ at.behind) in
      let last_step = replay m at.first 0 (opening_of (node_limits m.limits) (length m.names)) at.cluster (opened m) at.run
      (opening_length (node_limits m.limits) (length m.names)) (omega (arith, few, fits, long)) (opened_in_step m) in
      record {
        all = last_step.0;
        in_step = subst (λ (l : List Kept). InStep m last_step.0 at.cluster (after_steps (opened m) l)) (sym first) last_step.1;
      }

  told_alike : IsToldAlike recorded m x
  told_alike =
      let a = asked_again in
      let nodes_again : (n : ℕ) → node_of again n ≡ slice_get at.cluster n = λ n. node_there m a.all at.cluster again n a.in_step in
      let own : node_of recorded x.node ≡ node_of again x.node = nodes x.node ∙ sym at.there ∙ sym (nodes_again x.node) in
      let message : (p : ℕ × ℕ) → delivers x.step ≡ Some p → message_in (node_of recorded p.0) p.1 ≡ message_in (node_of again p.0) p.1 =
      λ p delivering.
      message_there was recorded p.0 p.1 nodes ∙ sym (ap (message_at was) delivering) ∙ sym at.read ∙ ap (message_at at.cluster) delivering
      ∙ sym (message_there at.cluster again p.0 p.1 nodes_again) in
      record {
        own = own;
        message = message;
        arrival = arrival_alike recorded again x.node x.step own (names ∙ sym a.in_step.names) message;
        prev = before ∙ sym at.prev;
        from = sym at.sent;
      }

-- the recorded call itself

recorded_grown : (m : Machine) (actor n : ℕ) (operation : Operation) → reply_of m actor (Do operation) ≡ Taken n →
    (after_act m actor (Do operation)).state.remaining ≡ m.state.remaining ++ record { number = n; node = actor; step = operation } ∷ []
unfolding after_act reply_of
recorded_grown m actor n operation took = ap (remaining_after m.state.remaining actor (Do operation)) took

at_first : (m : Machine) (actor n : ℕ) (operation : Operation) (c : Cluster) → IsReached (config_of m) m.state → reply_of m actor (Do operation) ≡ Taken n →
    cluster_of m ≡ Ok c →
    StandsIn (after_act m actor (Do operation)) (record { number = n; node = actor; step = operation })
    (record {
      own = slice_get c actor;
      message = message_for c operation;
      source = source_of m.state.remaining operation;
      last = last_of m.state.remaining actor;
    })
unfolding after_act
at_first m actor n operation c reached took run =
    let recorded = after_act m actor (Do operation) in
    let x : Kept = record { number = n; node = actor; step = operation } in
    let last = newest m recorded actor (Do operation) n reached took refl in
    let grown = recorded_grown m actor n operation took in
    let rises : NumbersRise 0 recorded.state.remaining =
    (kept_reached (config_of recorded) recorded.state (reached_call m actor (Do operation) reached)).rises in
    let low = (below_part 0 m.state.remaining [] x (subst (NumbersRise 0) grown rises)).1 in
    record {
      first = m.state.remaining;
      behind = [];
      whole = grown;
      cluster = c;
      run = run;
      there = refl;
      read = refl;
      sent =
          sym (source_alike (node_limits m.limits) (length m.names) x (record {
            own = slice_get c actor;
            message = message_for c operation;
            source = source_of m.state.remaining operation;
            last = last_of m.state.remaining actor;
          }) recorded.state.remaining m.state.remaining [] n last.step grown rises last.found last.free)
          ∙ ap (λ (l : List Kept). source_of l operation) last.out;
      prev =
          ap (λ (l : List Kept). last_of (steps_before l n) actor) grown
          ∙ ap (λ (l : List Kept). last_of l actor) (before_it m.state.remaining [] x n refl low);
    }

pub recorded_holds : RecordedLaw
unfolding node_of after_act
recorded_holds m later actor n operation k reached took remains =
    let now : Machine = after_act m actor (Do operation) in
    let end : Machine = after_calls now later in
    let reached_now : IsReached (config_of now) now.state = reached_call m actor (Do operation) reached in
    let reached_end : IsReached (config_of end) end.state = reached_calls now later reached_now in
    let kept : IsKept (config_of m) m.state = kept_reached (config_of m) m.state reached in
    let x : Kept = record { number = n; node = actor; step = operation } in
    let was : Read = record {
      own = slice_get kept.cluster actor;
      message = message_for kept.cluster operation;
      source = source_of m.state.remaining operation;
      last = last_of m.state.remaining actor;
    } in
    let here = at_first m actor n operation kept.cluster reached took kept.is_now in
    let there = along_calls now later x was reached_now here (λ none. cc (remains, none)) in
    let found : find_number end.state.remaining n ≡ Some x =
    found_in (node_limits end.limits) (length end.names) x was end.state.remaining there.first there.behind there.whole
    (given_holds (config_of end) end.state reached_end).rises in
    let same : k ≡ x = cc (remains, found) in
    let told : IsToldAlike m end x =
    told_alike end x m kept.cluster (last_of m.state.remaining actor) reached_end (sym (names_stay now later))
    (λ j. ap (λ r. node_in r j) kept.is_now) refl there in
    (same, subst (IsToldAlike m end) (sym same) told)
