-- What the inverse of a step tells of the rows that an act changes.
use Rattle.std.proofs.Common.{◌≡◌, ◌==◌, ◌||◌, ℕ, ◌+◌, Bool, true, false, nat_lt, if◌then◌else◌, List, [], ◌∷◌, ◌++◌, length, slice_get, Option, Some, None}
use Rattle.std.proofs.Common.{Result, Ok, Err, IfOk, refl, sym, ap, ap₂, ◌∙◌, subst, subst₂, not, option_map}
use Rattle.std.proofs.lemmas.Bool.{eq-eqb}
use Rattle.bench_core.specs.declared.fault.Fault.{Fault}
use Rattle.bench_core.specs.declared.fault.Fault.TheVariants.{UnknownNode, HistoryFull, NoSuchStep}
use Rattle.bench_core.specs.declared.reply.Reply.{Reply}
use Rattle.bench_core.specs.declared.reply.Reply.TheVariants.{Taken, Undone, Refused}
use Rattle.node_core.specs.Nodes.{Node}
use Rattle.node_core.specs.Inverses.{Inverse, LeadsBack, LeadsSomewhere, change_of}
use Rattle.node_core.specs.Laws.{ChangeOfLaw}
use Rattle.journal_core.specs.Journals.{Kept, find_number, first_consequence, last_of, without}
use Rattle.journal_core.proofs.InTurn.{find_out}
use Rattle.payload_core.specs.Results.{◌>>=◌}
use Rattle.bench_core.specs.Acts.{Action, Do, Undo, Back}
use Rattle.bench_core.specs.Limits.{node_limits}
use Rattle.bench_core.specs.Clusters.{Cluster, step}
use Rattle.bench_core.specs.Runs.{runs}
use Rattle.bench_core.specs.Machine.{Machine, State, config_of, cluster_of, given, knows, free_places, now, step_reply, undo_reply, undo_found, unheld}
use Rattle.bench_core.specs.Machine.{back_reply, reply_to, with_state, call, remaining_after}
use Rattle.bench_core.specs.Headline.{IsReached}
use Rattle.bench_core.specs.WaysBack.{LeadsOut, IsWayBack}
use Rattle.bench_core.proofs.Clusters.{get-set_same}
use Rattle.bench_core.proofs.InTurn.{undone_parts}
use Rattle.bench_core.proofs.Others.{undo_made}
use Rattle.bench_core.proofs.Reached.{taken_by_do, back_holds}
use Rattle.replica_core.specs.Replicas.{Replica}
use Rattle.replica_core.specs.Changes.{Change, ChangeLeadsBack, ChangeLeadsSomewhere, BackLaw, back}
use Rattle.diff_core.specs.Rows.{Row}
use Rattle.diff_core.specs.Diffs.{alone}
use Rattle.diff_core.specs.Sorting.{online_of}
use Rattle.diff_core.specs.Laws.{DiffLaw, OneListLaw, OnlineLaw}
use Rattle.report_core.specs.Rows.{diff_text}
use Rattle.report_core.specs.Shown.{changed, node_in, node_of, node_of_step, rows_in, rows_at, rows_of}
use Rattle.report_core.specs.ActRows.{acted_text, changed_by, left_by, joined_by}
use Rattle.report_core.specs.ActTexts.{reply_of, after_act, act_text, change_text}
use Rattle.report_core.specs.StepDiffs.{Differ, without_step, TellsInverse, TellsStep, asked_undo, TellsUndo}

-- an inverse

pub tells_change : (law : BackLaw) (of : ChangeOfLaw) (inverse : Inverse) (change : Change) (b : Node) (r : Replica) (left joined : List Row) →
    Some change ≡ change_of inverse → r ≡ b.replica →
    left ≡ alone (online_of (back change r)) (online_of r) → joined ≡ alone (online_of r) (online_of (back change r)) →
    TellsInverse inverse b left joined
tells_change law of inverse change b r left joined is here left_is joined_is a leads =
    let led : ChangeLeadsBack change b.replica a.replica = of.some inverse change b a leads (sym is) in
    let same : back change r ≡ a.replica = ap (back change) here ∙ law change b.replica a.replica led in record {
      left_is = left_is ∙ ap₂ (λ x y. alone (online_of x) (online_of y)) same here;
      joined_is = joined_is ∙ ap₂ (λ x y. alone (online_of y) (online_of x)) same here;
    }

-- what holds of an answer by two clauses
pub both : {X E : Type 0} (r : Result X E) (P Q R : X → Type 0) → ((x : X) → P x → Q x → R x) → IfOk r P → IfOk r Q → IfOk r R
both (Ok x) P Q R gives p q = gives x p q
both (Err e) P Q R gives p q = tt

-- the change of a step leads back, since its inverse does
pub change_leads : (of : ChangeOfLaw) (inverse : Inverse) (change : Change) (b : Node) (r : Replica) → Some change ≡ change_of inverse →
    r ≡ b.replica → LeadsSomewhere inverse b → ChangeLeadsSomewhere change r
change_leads of inverse change b r is same leads =
    let led = of.some inverse change b leads.0 leads.1 (sym is) in
    (leads.0.replica, subst (λ r. ChangeLeadsBack change r leads.0.replica) (sym same) led)

-- replicas with the same entries and statuses differ in no row
no_change : (law : DiffLaw) (one : OneListLaw) (online : OnlineLaw) (a b : Replica) → a.store.entries ≡ b.store.entries → a.view ≡ b.view
    → Differ (online_of a) (online_of b) [] []
no_change law one online a b entries view =
    let same : online_of a ≡ online_of b =
    one a b (online_of a) (online_of b) entries view ((online a (online_of a)).1 refl) ((online b (online_of b)).1 refl) in record {
      left_is = sym (law.itself (online_of a)) ∙ ap (alone (online_of a)) same;
      joined_is = sym (law.itself (online_of b)) ∙ ap (alone (online_of b)) (sym same);
    }

-- a step without a change differs in no row
pub tells_none : (law : DiffLaw) (one : OneListLaw) (online : OnlineLaw) (of : ChangeOfLaw) (inverse : Inverse) (b : Node) (left joined : List Row) →
    None ≡ change_of inverse → left ≡ [] → joined ≡ [] → TellsInverse inverse b left joined
tells_none law one online of inverse b left joined is no_left no_joined a leads =
    let stayed = of.none inverse b a leads (sym is) in
    subst₂ (Differ (online_of a.replica) (online_of b.replica)) (sym no_left) (sym no_joined)
    (no_change law one online a.replica b.replica stayed.0 stayed.1)

-- a step

-- its node, as the bench lends it
pub later_is : (m : Machine) (n node : ℕ) (inverse : Inverse) (c : Cluster) (b : Node) → (out : LeadsOut m n node inverse) →
    cluster_of m ≡ Ok c → Some b ≡ slice_get c node → out.later ≡ b
later_is m n node inverse c b out is at =
    let same : out.cluster ≡ c = cc (out.is_now, is) in
    let found : Some b ≡ Some out.later = at ∙ ap (λ (c : Cluster). slice_get c node) (sym same) ∙ out.at in
    cc

pub tells_step : (m : Machine) (n node : ℕ) (inverse : Inverse) (b : Node) (left joined : List Row) → (out : LeadsOut m n node inverse) →
    out.later ≡ b → TellsInverse inverse b left joined → Differ (rows_at (without_step m n) node) (rows_at m node) left joined
unfolding rows_at node_of
tells_step m n node inverse b left joined out same tells =
    let told : Differ (online_of out.earlier.replica) (online_of b.replica) left joined =
    tells out.earlier (subst (λ (b : Node). LeadsBack inverse b out.earlier) same out.leads) in
    let before : rows_in (node_in (cluster_of (without_step m n)) node) ≡ online_of out.earlier.replica =
    ap (λ c. rows_in (node_in c node)) out.left_out
    ∙ ap rows_in (get-set_same out.cluster node out.later out.earlier out.at) in
    let after : rows_in (node_in (cluster_of m) node) ≡ online_of b.replica = ap (λ c. rows_in (node_in c node)) out.is_now
    ∙ ap rows_in out.at ∙ ap (λ (n : Node). online_of n.replica) same in
    subst₂ (λ first second. Differ first second left joined) (sym before) (sym after) told

-- a kept step that nothing follows from, its inverse and its node
pub step_tells : (m : Machine) (n : ℕ) (kept : Kept) (inverse : Inverse) (c : Cluster) (b : Node) (left joined : List Row) →
    IsWayBack m n inverse → first_consequence m.state.remaining n ≡ None → Some kept ≡ find_number m.state.remaining n →
    cluster_of m ≡ Ok c → Some b ≡ slice_get c kept.node → TellsInverse inverse b left joined → TellsStep m n left joined
step_tells m n kept inverse c b left joined way free found is at tells step there =
    let one : Some kept ≡ Some step = found ∙ there in
    let same : kept ≡ step = cc in
    let out = way step there free in
    let here : Some b ≡ slice_get c step.node = at ∙ ap (λ (k : Kept). slice_get c k.node) same in
    tells_step m n step.node inverse b left joined out (later_is m n step.node inverse c b out is here) tells

pub leads_somewhere : (m : Machine) (n : ℕ) (kept : Kept) (inverse : Inverse) (c : Cluster) (b : Node) → IsWayBack m n inverse →
    first_consequence m.state.remaining n ≡ None → Some kept ≡ find_number m.state.remaining n →
    cluster_of m ≡ Ok c → Some b ≡ slice_get c kept.node → LeadsSomewhere inverse b
leads_somewhere m n kept inverse c b way free found is at =
    let out = way kept (sym found) free in
    (out.earlier, subst (λ (b : Node). LeadsBack inverse b out.earlier) (later_is m n kept.node inverse c b out is at) out.leads)

-- there is a node of each step
pub has_node : (m : Machine) (n : ℕ) (kept : Kept) (inverse : Inverse) (c : Cluster) → IsWayBack m n inverse →
    first_consequence m.state.remaining n ≡ None → Some kept ≡ find_number m.state.remaining n → cluster_of m ≡ Ok c →
    None ≡ slice_get c kept.node → ⊥
has_node m n kept inverse c way free found is at =
    let out = way kept (sym found) free in
    let same : out.cluster ≡ c = cc (out.is_now, is) in
    let none : None ≡ Some out.later = at ∙ ap (λ (c : Cluster). slice_get c kept.node) (sym same) ∙ out.at in
    absurd (cc)

-- the undo that an act asks for

-- an undo that is made is that of its step
same_undo : (s : State) (n k : ℕ) → undo_reply s n ≡ Undone k → n ≡ k
same_undo s n k = outer ((n == 0) || nat_lt (given s.history) n)
  where
    held : (o : Option ℕ) → unheld n o ≡ Undone k → n ≡ k
    held None h = cc
    held (Some j) h = absurd (cc)

    found : (o : Option Kept) → undo_found s.remaining n o ≡ Undone k → n ≡ k
    found None h = absurd (cc)
    found (Some x) h = held (first_consequence s.remaining n) h

    outer : (b : Bool) → (if b then Refused NoSuchStep else undo_found s.remaining n (find_number s.remaining n)) ≡ Undone k → n ≡ k
    outer true h = absurd (cc)
    outer false h = found (find_number s.remaining n) h

-- an undo that is made was asked for, and could be made
abbrev Asked : Machine → Action → ℕ → Type 0
Asked m act k = (asked_undo m act ≡ Some k) × (undo_reply m.state k ≡ Undone k)

of_undo : (m : Machine) (act : Action) (n k : ℕ) → asked_undo m act ≡ Some n → undo_reply m.state n ≡ Undone k → Asked m act k
of_undo m act n k asked made =
    let same = same_undo m.state n k made in
    (asked ∙ ap Some same, ap (undo_reply m.state) (sym same) ∙ made)

asked : (m : Machine) (actor : ℕ) (act : Action) (k : ℕ) → reply_of m actor act ≡ Undone k → Asked m act k
unfolding reply_of asked_undo
asked m actor (Do operation) k =
    go (not (knows (config_of m) actor operation)) (nat_lt (free_places (config_of m) m.state) 2)
    (now (config_of m) m.state >>= λ cluster. step cluster actor operation)
  where
    go : (a b : Bool) (r : Result Cluster Fault) →
        (if a then Refused UnknownNode else if b then Refused HistoryFull else step_reply (given m.state.history + 1) r) ≡ Undone k →
        Asked m (Do operation) k
    go true b r h = absurd (cc)
    go false true r h = absurd (cc)
    go false false (Ok c) h = absurd (cc)
    go false false (Err e) h = absurd (cc)
asked m actor (Undo n) k = λ h. of_undo m (Undo n) n k refl h
asked m actor (Back node) k = go (nat_lt node (length m.names)) refl (last_of m.state.remaining node) refl
  where
    go : (b : Bool) → nat_lt node (length m.names) ≡ b → (o : Option ℕ) → last_of m.state.remaining node ≡ o →
        (if b then back_reply m.state o else Refused UnknownNode) ≡ Undone k → Asked m (Back node) k
    go true is None last h = absurd (cc)
    go true is (Some n) last h =
        of_undo m (Back node) n k (ap (λ b. if b then last_of m.state.remaining node else None) is ∙ last) h
    go false is o last h = absurd (cc)

-- what is told of an act, and what is so

-- the rows that an act changes, where it gets this reply
pub changes_are : (m : Machine) (actor : ℕ) (act : Action) (r : Reply) (node : ℕ) (left joined : List Row) → reply_of m actor act ≡ r →
    changed m.state.remaining actor r ≡ Some node → Differ (rows_at m node) (rows_at (after_act m actor act) node) left joined →
    (left ≡ left_by m actor act) × (joined ≡ joined_by m actor act)
unfolding left_by joined_by rows_of
changes_are m actor act r node left joined is at differ =
    let same : changed_by m actor act ≡ Some node = ap (changed m.state.remaining actor) is ∙ at in (
      differ.left_is ∙ sym (ap (λ o. alone (rows_of m o) (rows_of (after_act m actor act) o)) same),
      differ.joined_is ∙ sym (ap (λ o. alone (rows_of (after_act m actor act) o) (rows_of m o)) same),
    )

-- a refused act changes none
pub refused_rows : (m : Machine) (actor : ℕ) (act : Action) (fault : Fault) (left joined : List Row) → reply_of m actor act ≡ Refused fault →
    left ≡ [] → joined ≡ [] → (left ≡ left_by m actor act) × (joined ≡ joined_by m actor act)
unfolding left_by joined_by rows_of changed
refused_rows m actor act fault left joined is no_left no_joined =
    let same : changed_by m actor act ≡ None = ap (changed m.state.remaining actor) is in (
      no_left ∙ sym (ap (λ o. alone (rows_of m o) (rows_of (after_act m actor act) o)) same),
      no_joined ∙ sym (ap (λ o. alone (rows_of (after_act m actor act) o) (rows_of m o)) same),
    )

-- rows are those of the remaining steps
pub same_rows : (m : Machine) (s : State) (ks : List Kept) (node : ℕ) → s.remaining ≡ ks →
    rows_at (with_state m s) node ≡ rows_at (with_state m (record { history = m.state.history; remaining = ks })) node
unfolding rows_at node_of
same_rows m s ks node same = ap (λ (ks : List Kept). rows_in (node_in (runs (node_limits m.limits) (length m.names) ks) node)) same

after_undo : (m : Machine) (actor : ℕ) (act : Action) (k : ℕ) → reply_of m actor act ≡ Undone k →
    (call (config_of m) m.state actor act).remaining ≡ without m.state.remaining k
unfolding reply_of
after_undo m actor act k made = ap (remaining_after m.state.remaining actor act) made

-- an undo that is made: the step remained, what it gave leaves, and what it took comes back
pub record Undoes (m : Machine) (actor : ℕ) (act : Action) (k : ℕ) (left joined : List Row) : Type 0 where
  pub asked : asked_undo m act ≡ Some k
  pub step : Kept
  pub found : find_number m.state.remaining k ≡ Some step
  pub differ : Differ (rows_at m step.node) (rows_at (after_act m actor act) step.node) joined left

pub undoes : (m : Machine) (actor : ℕ) (act : Action) (k : ℕ) (left joined : List Row) → reply_of m actor act ≡ Undone k →
    TellsUndo m act left joined → Undoes m actor act k left joined
unfolding after_act
undoes m actor act k left joined made tells =
    let was = asked m actor act k made in
    let parts = undone_parts m.state k was.1 in
    let differ = tells k was.0 parts.1 parts.0.0 parts.0.1 in
    let out : (call (config_of m) m.state actor act).remaining ≡ without m.state.remaining k = after_undo m actor act k made in
    let rows : rows_at (after_act m actor act) parts.0.0.node ≡ rows_at (without_step m k) parts.0.0.node =
    same_rows m (call (config_of m) m.state actor act) (without m.state.remaining k) parts.0.0.node out in record {
      asked = was.0;
      step = parts.0.0;
      found = parts.0.1;
      differ = subst (λ rows. Differ (rows_at m parts.0.0.node) rows joined left) (sym rows)
          (record { left_is = differ.joined_is; joined_is = differ.left_is });
    }

-- an undo: the rows that its step gave leave, and those that it took come back
pub undone_rows : (m : Machine) (actor : ℕ) (act : Action) (k : ℕ) (left joined : List Row) → reply_of m actor act ≡ Undone k →
    TellsUndo m act left joined → (joined ≡ left_by m actor act) × (left ≡ joined_by m actor act)
unfolding changed node_of_step after_act
undone_rows m actor act k left joined made tells =
    let u = undoes m actor act k left joined made tells in
    changes_are m actor act (Undone k) u.step.node joined left made (ap (option_map (λ (k : Kept). k.node)) u.found) u.differ

-- a step that is taken: it is the last, nothing follows from it, and without it all is as before

pub record Newest (m : Machine) (actor k : ℕ) (new : Machine) : Type 0 where
  pub step : Kept
  pub found : find_number new.state.remaining k ≡ Some step
  pub of : step.node ≡ actor
  pub free : first_consequence new.state.remaining k ≡ None
  pub out : without new.state.remaining k ≡ m.state.remaining

appended : (ks : List Kept) (k : ℕ) (r : Kept) → find_number ks k ≡ None → r.number ≡ k → find_number (ks ++ r ∷ []) k ≡ Some r
appended [] k r none is = ap (λ b. if b then Some r else None) (eq-eqb r.number k is)
appended (x ∷ ks) k r none is = go (x.number == k) none (λ none. appended ks k r none is)
  where
    go : (b : Bool) → (if b then Some x else find_number ks k) ≡ None → (find_number ks k ≡ None → find_number (ks ++ r ∷ []) k ≡ Some r) →
        (if b then Some x else find_number (ks ++ r ∷ []) k) ≡ Some r
    go true none more = absurd (cc)
    go false none more = more none

pub newest : (m new : Machine) (actor : ℕ) (act : Action) (k : ℕ) → IsReached (config_of m) m.state → reply_of m actor act ≡ Taken k →
    new ≡ after_act m actor act → Newest m actor k new
unfolding reply_of after_act
newest m new actor act k reached took now =
    let c = config_of m in
    let t = taken_by_do c m.state actor act k took in
    let next : State = call c m.state actor act in
    let took_do : reply_to c m.state actor (Do t.0) ≡ Taken k = ap (reply_to c m.state actor) (sym t.1) ∙ took in
    let same : call c m.state actor (Do t.0) ≡ next = ap (call c m.state actor) (sym t.1) in
    let law = back_holds c m.state actor actor k t.0 reached took_do in
    let undone : undo_reply next k ≡ Undone k = ap (λ (s : State). undo_reply s k) (sym same) ∙ law.undone in
    let out : without next.remaining k ≡ m.state.remaining = sym (undo_made c next actor k undone)
    ∙ ap (λ (s : State). (call c s actor (Undo k)).remaining) (sym same) ∙ law.as_it_was in
    let free = undone_parts next k undone in
    let r : Kept = record { number = k; node = actor; step = t.0 } in
    let grown : next.remaining ≡ m.state.remaining ++ r ∷ [] =
    ap (remaining_after m.state.remaining actor act) took ∙ ap (λ a. remaining_after m.state.remaining actor a (Taken k)) t.1 in
    let none : find_number m.state.remaining k ≡ None = ap (λ ks. find_number ks k) (sym out) ∙ find_out next.remaining k in
    let found : find_number next.remaining k ≡ Some r = ap (λ ks. find_number ks k) grown ∙ appended m.state.remaining k r none refl in
    subst (Newest m actor k) (sym now)
    (record { step = r; found = found; of = refl; free = free.1; out = out })

-- the rows that it took leave, and those that it gave join
pub taken_differ : (m new : Machine) (actor : ℕ) (act : Action) (k : ℕ) (left joined : List Row) → new ≡ after_act m actor act →
    Newest m actor k new → TellsStep new k left joined → Differ (rows_at m actor) (rows_at (after_act m actor act) actor) left joined
unfolding after_act
taken_differ m new actor act k left joined now newest tells =
    let told = tells newest.step newest.found in
    let here : Differ (rows_at (without_step new k) actor) (rows_at new actor) left joined =
    subst (λ n. Differ (rows_at (without_step new k) n) (rows_at new n) left joined) newest.of told in
    let s : State = call (config_of m) m.state actor act in
    let is : new ≡ with_state m s = now in
    let before : rows_at (without_step new k) actor ≡ rows_at m actor =
    ap (λ (x : Machine). rows_at (without_step x k) actor) is
    ∙ same_rows m (record { history = s.history; remaining = without s.remaining k }) m.state.remaining actor
    (ap (λ (x : Machine). without x.state.remaining k) (sym is) ∙ newest.out) in
    subst₂ (λ first (x : Machine). Differ first (rows_at x actor) left joined) before is here

pub taken_rows : (m new : Machine) (actor : ℕ) (act : Action) (k : ℕ) (left joined : List Row) → reply_of m actor act ≡ Taken k →
    new ≡ after_act m actor act → Newest m actor k new → TellsStep new k left joined →
    (left ≡ left_by m actor act) × (joined ≡ joined_by m actor act)
unfolding changed
taken_rows m new actor act k left joined took now newest tells =
    changes_are m actor act (Taken k) actor left joined took refl (taken_differ m new actor act k left joined now newest tells)

-- the text of an act

as_act : (m : Machine) (actor : ℕ) (act : Action) →
    acted_text m.names (reply_of m actor act) (left_by m actor act) (joined_by m actor act) ≡ act_text m actor act
unfolding acted_text act_text change_text diff_text left_by joined_by
as_act m actor act = refl

pub acted_is : (m new : Machine) (actor : ℕ) (act : Action) (reply : Reply) (left joined : List Row) → new ≡ after_act m actor act →
    reply ≡ reply_of m actor act → left ≡ left_by m actor act → joined ≡ joined_by m actor act →
    acted_text new.names reply left joined ≡ act_text m actor act
unfolding after_act
acted_is m new actor act reply left joined now said gone come =
    ap (λ (x : Machine). acted_text x.names reply left joined) now ∙ ap (λ r. acted_text m.names r left joined) said
    ∙ ap (λ l. acted_text m.names (reply_of m actor act) l joined) gone
    ∙ ap (acted_text m.names (reply_of m actor act) (left_by m actor act)) come ∙ as_act m actor act
