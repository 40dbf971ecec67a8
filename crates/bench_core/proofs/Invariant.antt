-- What a bench keeps is kept by each call.
use Rattle.std.proofs.Common.{◌≡◌, ◌≢◌, ◌⊎◌, inl, inr, Bool, if◌then◌else◌, ℕ, ◌+◌, ◌<◌, ◌≤◌, ◌==◌, not, nat_lt, true, false, List, [], ◌∷◌, ◌++◌, length}
use Rattle.std.proofs.Common.{set, slice_get, Option, Some, None, option_map, Result, Ok, Err, refl, sym, ap, ◌∙◌, subst, subst₂, arith, length-set}
use Rattle.std.proofs.lemmas.Bool.{cases_eq, le-ltb, ltb-true, ne_eqb, and_parts}
use Rattle.std.proofs.lemmas.List.Sums.{count_by-le-length}
use Rattle.std.specs.List.{list_all}
use Rattle.payload_core.specs.Results.{◌>>=◌}
use Rattle.bench_core.specs.declared.reply.Reply.{Reply}
use Rattle.bench_core.specs.declared.reply.Reply.TheVariants.{Taken, Undone, Refused}
use Rattle.bench_core.specs.declared.fault.Fault.{Fault}
use Rattle.bench_core.specs.declared.fault.Fault.TheVariants.{UnknownNode, HistoryFull, OutOfMemory}
use Rattle.node_core.specs.declared.step_fault.StepFault.{StepFault}
use Rattle.node_core.specs.declared.step_fault.StepFault.TheVariants as step_faults
use Rattle.bench_core.specs.NameList.{Texts}
use Rattle.bench_core.specs.Limits.{Limits, node_limits}
use Rattle.replica_core.specs.declared.node_limits.NodeLimits.{NodeLimits}
use Rattle.replica_core.specs.Replicas.{own_clock}
use Rattle.node_core.specs.Operations.{Operation, named_in, delivers}
use Rattle.bench_core.specs.Acts.{Action, Do}
use Rattle.node_core.specs.Nodes.{Node, take}
use Rattle.node_core.specs.Invariant.{IsNode}
use Rattle.node_core.specs.Inverses.{Inverse, LeadsBack}
use Rattle.bench_core.specs.Clusters.{Cluster, step, node_step, with_node, of_node, opening_of, fault_of, message_for}
use Rattle.journal_core.specs.Journals.{Kept, find_number, first_consequence, without, AreBelow}
use Rattle.bench_core.specs.Runs.{then_runs, runs}
use Rattle.journal_core.specs.Holdings.{Held, Journal, kepts, find_held, inverse_of, without_held, AreAllHeld, HasSender, CanBeKept}
use Rattle.bench_core.specs.Chains.{Link, Chain}
use Rattle.bench_core.specs.Machine.{Event, Config, State, Machine, config_of, opening_state, is_taken, given, free_places, knows, undo_reply, step_reply}
use Rattle.bench_core.specs.Machine.{do_reply, reply_to, now, is_recorded, after, call, calls, AnswersAs, Answered, Unmade}
use Rattle.bench_core.specs.Histories.{note}
use Rattle.bench_core.specs.Headline.{IsReached}
use Rattle.bench_core.specs.Benches.{AreNodes, GoesBack, IsBackable, IsBench, IsMachine, IsNumbered, IsTaken, LeadsNodeBack, NodeGoesBack}
use Rattle.journal_core.proofs.Rising.{kepts-append, find_kepts}
use Rattle.bench_core.proofs.Clusters.{get-set_same, get-set_other, step_takes}
use Rattle.bench_core.proofs.Taken.{was_read}
use Rattle.bench_core.proofs.Runs.{runs_append, numbered_runs, limited_runs}
use Rattle.bench_core.proofs.Reached.{kept_reached, count_push, undo_answers}
use Rattle.bench_core.proofs.Loop.{has_sender}
use Rattle.bench_core.proofs.Chain.{chain_push, all_held, undoing}

pub calls_append : (c : Config) (s : State) (asked : List (ℕ × Action)) (actor : ℕ) (act : Action) →
    calls c s (asked ++ (actor, act) ∷ []) ≡ call c (calls c s asked) actor act
calls_append c s [] actor act = refl
calls_append c s (a ∷ asked) actor act = calls_append c (call c s a.0 a.1) asked actor act

-- a state that the machine comes to is reached
pub reached_after : (c : Config) (s : State) (actor : ℕ) (act : Action) (r : Reply) → IsReached c s → reply_to c s actor act ≡ r →
    IsReached c (after c s actor act r)
reached_after c s actor act r reached is = (
  reached.0 ++ (actor, act) ∷ [],
  ap (after c s actor act) (sym is) ∙ ap (λ (s : State). call c s actor act) reached.1
      ∙ sym (calls_append c opening_state reached.0 actor act),
)

abbrev pub machine : Texts → Limits → List Event → List Kept → Machine
machine names limits h ks = record { names = names; limits = limits; state = record { history = h; remaining = ks } }

abbrev pub config : Texts → Limits → Config
config names limits = record { nodes = length names; limits = limits }

recorded_if : (c : Config) (s : State) (f : Fault) → f ≢ HistoryFull → is_recorded c s (Refused f) ≡ not (free_places c s == 0)
recorded_if c s HistoryFull other = absurd (other refl)
recorded_if c s UnknownNode other = refl
recorded_if c s _ other = refl

-- a node's fault is no want of room for the call
pub fault_of_other : (f : StepFault) → fault_of f ≢ HistoryFull
fault_of_other step_faults.OwnReplica e = cc
fault_of_other step_faults.NotKnown e = cc
fault_of_other step_faults.NotDown e = cc
fault_of_other step_faults.AlreadyTracked e = cc
fault_of_other step_faults.NotTracked e = cc
fault_of_other step_faults.NothingToSend e = cc
fault_of_other step_faults.EntriesFull e = cc
fault_of_other step_faults.ClockFull e = cc
fault_of_other step_faults.OwnMessage e = cc
fault_of_other step_faults.NoSuchMessage e = cc
fault_of_other step_faults.NotRequest e = cc
fault_of_other step_faults.IsRequest e = cc
fault_of_other step_faults.OutboxFull e = cc
fault_of_other step_faults.OutOfMemory e = cc

-- the fault of a step is no want of room either
step_other : (c : Cluster) (n : ℕ) (s : Operation) (e : Fault) → step c n s ≡ Err e → e ≢ HistoryFull
step_other c n s e h = found (slice_get c n) h
  where
    took : (r : Result Node StepFault) → with_node c n (of_node r) ≡ Err e → e ≢ HistoryFull
    took (Ok x) h = absurd (cc)
    took (Err f) h = λ full. let same : fault_of f ≡ e = cc in fault_of_other f (same ∙ full)

    tested : (x : Node) (b : Bool) → with_node c n (if b then of_node (take x s (message_for c s)) else Err UnknownNode) ≡ Err e →
        e ≢ HistoryFull
    tested x true h = took (take x s (message_for c s)) h
    tested x false h = λ full. cc

    found : (o : Option Node) → with_node c n (node_step (length c) o s (message_for c s)) ≡ Err e → e ≢ HistoryFull
    found None h = λ full. cc
    found (Some x) h = tested x (list_all (λ k. nat_lt k (length c)) (named_in s)) h

-- where a place is free, such a refusal would be recorded, and so memory may be refused
pub unmade_refusal : (actor : ℕ) (act : Action) (f : Fault) (m new : Machine) → reply_to (config_of m) m.state actor act ≡ Refused f →
    f ≢ HistoryFull → free_places (config_of m) m.state ≢ 0 → new ≡ m → AnswersAs m actor act (Refused OutOfMemory) new
unmade_refusal actor act f m new is other room same =
    Unmade (ap (is_recorded (config_of m) m.state) is ∙ recorded_if (config_of m) m.state f other
    ∙ ap not (ne_eqb (free_places (config_of m) m.state) 0 room)) refl same

-- a refusal that is recorded
refused_noted : (c : Config) (s : State) (nodes : Cluster) (hs : List Held) (taken actor : ℕ) (act : Action) (f : Fault) →
    IsBench c s nodes hs taken → reply_to c s actor act ≡ Refused f → f ≢ HistoryFull → (free_places c s == 0) ≡ false →
    record {
      state : record { history = note actor act (Refused f) s.history; remaining = s.remaining } ≡ after c s actor act (Refused f);
      keeps : IsBench c (record { history = note actor act (Refused f) s.history; remaining = s.remaining }) nodes hs taken;
    }
refused_noted c s nodes hs taken actor act f old is other room =
    let recorded : is_recorded c s (Refused f) ≡ true = recorded_if c s f other ∙ ap not room in
    let state : record { history = note actor act (Refused f) s.history; remaining = s.remaining } ≡ after c s actor act (Refused f) =
    rw recorded refl in
    let reached = subst (IsReached c) (sym state) (reached_after c s actor act (Refused f) old.reached is) in
    let more = count_push s.history (record { actor = actor; act = act; reply = Refused f }) in
    let count = old.count in
    record {
      state = state;
      keeps = record {
        reached = reached;
        is_now = old.is_now;
        chain = old.chain;
        count = omega (arith, count, more);
        fits = (kept_reached c _ reached).fits;
        limits = old.limits;
        size = old.size;
        few = old.few;
        kept = old.kept;
      };
    }

-- the same, as the code comes to it: m is the value before, h and ks its lists
pub refused : (names : Texts) (limits : Limits) (h later : List Event) (ks : List Kept) (nodes : Cluster) (hs : List Held) (taken actor : ℕ)
    (act : Action) (f : Fault) (m : Machine) →
    machine names limits h ks ≡ m → later ≡ note actor act (Refused f) h →
    IsBench (config names limits) (record { history = h; remaining = ks }) nodes hs taken →
    reply_to (config_of m) m.state actor act ≡ Refused f → f ≢ HistoryFull → free_places (config_of m) m.state ≢ 0 →
    record {
      keeps : IsBench (config names limits) (record { history = later; remaining = ks }) nodes hs taken;
      answers : AnswersAs m actor act (Refused f) (machine names limits later ks);
    }
refused names limits h later ks nodes hs taken actor act f m at longer old =
    subst (λ (m : Machine). reply_to (config_of m) m.state actor act ≡ Refused f → f ≢ HistoryFull → free_places (config_of m) m.state ≢ 0 →
    record {
      keeps : IsBench (config names limits) (record { history = later; remaining = ks }) nodes hs taken;
      answers : AnswersAs m actor
          act (Refused f) (machine names limits later ks);
    }) at here
  where
    here : reply_to (config names limits) (record { history = h; remaining = ks }) actor act ≡ Refused f → f ≢ HistoryFull →
        free_places (config names limits) (record { history = h; remaining = ks }) ≢ 0 →
        record {
          keeps : IsBench (config names limits) (record { history = later; remaining = ks }) nodes hs taken;
          answers : AnswersAs
              (machine names limits h ks) actor act (Refused f) (machine names limits later ks);
        }
    here is other room =
        let n = refused_noted (config names limits) (record { history = h; remaining = ks }) nodes hs taken actor act f old is other
        (ne_eqb _ 0 room) in
        record {
          keeps =
              subst (λ (h : List Event). IsBench (config names limits) (record { history = h; remaining = ks }) nodes hs taken) (sym longer)
              n.keeps;
          answers =
              Answered (sym is) (ap (λ (h : List Event). machine names limits h ks) longer
              ∙ ap (λ (s : State). record { names = names; limits = limits; state = s }) n.state);
        }

-- a refusal for which there is no place
pub refused_full : (actor : ℕ) (act : Action) (f : Fault) (m : Machine) → reply_to (config_of m) m.state actor act ≡ Refused f →
    f ≢ HistoryFull → free_places (config_of m) m.state ≡ 0 → AnswersAs m actor act (Refused f) m
refused_full actor act f m is other full =
    let recorded : is_recorded (config_of m) m.state (Refused f) ≡ false = recorded_if (config_of m) m.state f other
    ∙ ap (λ n. not (n == 0)) full in
    Answered (sym is) (rw recorded refl)

-- one node replaced by another
pub nodes_set : (c : Cluster) (n : ℕ) (x y : Node) → AreNodes c → slice_get c n ≡ Some x → IsNode y → AreNodes (set c n y)
nodes_set c n x y all at is m z here = go (cases_eq m n)
  where
    go : (m ≡ n) ⊎ (m ≢ n) → IsNode z
    go (inl e) =
        let there : slice_get (set c n y) m ≡ Some y = ap (slice_get (set c n y)) e ∙ get-set_same c n x y at in
        let same : y ≡ z = cc in
        subst IsNode same is
    go (inr other) = all m z (sym (get-set_other c n m y other) ∙ here)

-- what a step is answered

pub do_gives : (c : Config) (s : State) (actor : ℕ) (operation : Operation) (nodes : Cluster) (r : Result Cluster Fault) →
    knows c actor operation ≡ true → 2 ≤ free_places c s → now c s ≡ Ok nodes → step nodes actor operation ≡ r →
    do_reply c s actor operation ≡ step_reply (given s.history + 1) r
do_gives c s actor operation nodes r is room run taken =
    rw (is, le-ltb (free_places c s) 2 room)
    (ap (λ r. step_reply (given s.history + 1) (r >>= λ cluster. step cluster actor operation)) run
    ∙ ap (step_reply (given s.history + 1)) taken)

step_recorded : (c : Config) (s : State) (nodes : Cluster) (actor : ℕ) (operation : Operation) (r : Result Cluster Fault) →
    step nodes actor operation ≡ r → 2 ≤ free_places c s → is_recorded c s (step_reply (given s.history + 1) r) ≡ true
step_recorded c s nodes actor operation (Ok d) is room = refl
step_recorded c s nodes actor operation (Err e) is room =
    recorded_if c s e (step_other nodes actor operation e is) ∙ ap not (ne_eqb (free_places c s) 0 (λ none. omega arith))

-- while two places are free, the answer to a known step would be recorded, and so memory may be refused
pub unmade_step : (names : Texts) (limits : Limits) (h : List Event) (nodes : Cluster) (hs : List Held) (taken actor : ℕ)
    (operation : Operation) (act : Action) (m new : Machine) → machine names limits h (kepts hs) ≡ m →
    IsBench (config names limits) (record { history = h; remaining = kepts hs }) nodes hs taken →
    act ≡ Do operation → knows (config_of m) actor operation ≡ true → 2 ≤ free_places (config_of m) m.state → new ≡ m →
    AnswersAs m actor act (Refused OutOfMemory) new
unmade_step names limits h nodes hs taken actor operation act m new at old asks is room same =
    let run : now (config_of m) m.state ≡ Ok nodes = subst (λ (m : Machine). now (config_of m) m.state ≡ Ok nodes) at old.is_now in
    let gives = do_gives (config_of m) m.state actor operation nodes (step nodes actor operation) is room run refl in
    let recorded = step_recorded (config_of m) m.state nodes actor operation (step nodes actor operation) refl room in
    Unmade (ap (λ a. is_recorded (config_of m) m.state (reply_to (config_of m) m.state actor a)) asks
    ∙ ap (is_recorded (config_of m) m.state) gives ∙ recorded) refl same

-- the nodes that a known step names are nodes of the cluster
pub named_there : (c : Config) (nodes : Cluster) (actor : ℕ) (operation : Operation) → length nodes ≡ c.nodes →
    knows c actor operation ≡ true → list_all (λ k. nat_lt k (length nodes)) (named_in operation) ≡ true
named_there c nodes actor operation size is =
    subst (λ m. list_all (λ k. nat_lt k m) (named_in operation) ≡ true) (sym size)
    (and_parts (nat_lt actor c.nodes) (list_all (λ k. nat_lt k c.nodes) (named_in operation)) is).1

abbrev pub added : ℕ → ℕ → Operation → Inverse → Held
added number actor operation i = record { kept = record { number = number; node = actor; step = operation }; inverse = Some i }

taken_here : (names : Texts) (limits : Limits) (h : List Event) (nodes d : Cluster) (hs : List Held) (taken actor : ℕ)
    (operation : Operation) (i : Inverse) →
    IsBench (config names limits) (record { history = h; remaining = kepts hs }) nodes hs taken →
    knows (config names limits) actor operation ≡ true →
    2 ≤ free_places (config names limits) (record { history = h; remaining = kepts hs }) → IsTaken nodes actor operation i d →
    record {
      keeps : IsBench (config names limits)
          (record {
            history = note actor (Do operation) (Taken (taken + 1)) h;
            remaining =
                kepts (hs ++ added (taken + 1) actor operation i ∷ []);
          }) d (hs ++ added (taken + 1) actor operation i ∷ []) (taken + 1);
      answers : AnswersAs (machine names limits h (kepts hs)) actor (Do operation) (Taken (taken + 1))
          (machine names limits (note actor (Do operation) (Taken (taken + 1)) h) (kepts (hs ++ added (taken + 1) actor operation i ∷ [])));
    }
taken_here names limits h nodes d hs taken actor operation i old is room t =
    let c : Config = config names limits in
    let l = node_limits limits in
    let s : State = record { history = h; remaining = kepts hs } in
    let n : ℕ = taken + 1 in
    let k : Kept = record { number = n; node = actor; step = operation } in
    let journal : kepts (hs ++ added n actor operation i ∷ []) ≡ kepts hs ++ k ∷ [] = kepts-append hs (added n actor operation i ∷ []) in
    let stepped : step nodes actor operation ≡ Ok d =
    step_takes nodes actor operation t.earlier (Ok t.later) t.at (named_there c nodes actor operation old.size is) t.taken
    ∙ ap Ok (sym t.gives) in
    let number : given h + 1 ≡ n = let count = old.count in omega arith in
    let reply : do_reply c s actor operation ≡ Taken n = do_gives c s actor operation nodes (Ok d) is room old.is_now stepped
    ∙ ap Taken number in
    let state : record { history = note actor (Do operation) (Taken n) h; remaining = kepts (hs ++ added n actor operation i ∷ []) } ≡
    after c s actor (Do operation) (Taken n) =
    ap (λ (ks : List Kept). record { history = note actor (Do operation) (Taken n) h; remaining = ks }) journal in
    let reached = subst (IsReached c) (sym state) (reached_after c s actor (Do operation) (Taken n) old.reached reply) in
    let more = count_push h (record { actor = actor; act = Do operation; reply = Taken n }) in
    let link : Link nodes (added n actor operation i) =
    record { inverse = i; kept = refl; earlier = t.earlier; later = t.later; at = t.at; taken = t.taken; leads = t.leads } in
    record {
      keeps = record {
        reached = reached;
        is_now =
            ap (runs l c.nodes) journal ∙ runs_append (Ok (opening_of l c.nodes)) (kepts hs) (k ∷ [])
            ∙ ap (λ r. then_runs r (k ∷ [])) old.is_now ∙ ap (λ r. then_runs r []) stepped;
        chain = chain_push (Ok (opening_of l c.nodes)) hs (added n actor operation i) nodes old.chain old.is_now link;
        count = omega (arith, number, more);
        fits = (kept_reached c _ reached).fits;
        limits = old.limits;
        size = ap length t.gives ∙ length-set nodes actor t.later ∙ old.size;
        few = old.few;
        kept = subst AreNodes (sym t.gives) (nodes_set nodes actor t.earlier t.later old.kept t.at t.kept);
      };
      answers = Answered (sym reply) (ap (λ (s : State). record { names = names; limits = limits; state = s }) state);
    }

-- a step that was taken, as the code comes to it
pub taken_step : (names : Texts) (limits : Limits) (h later : List Event) (nodes d : Cluster) (hs next : List Held) (taken actor : ℕ)
    (operation : Operation) (i : Inverse) (m : Machine) →
    machine names limits h (kepts hs) ≡ m → later ≡ note actor (Do operation) (Taken (taken + 1)) h →
    next ≡ hs ++ added (taken + 1) actor operation i ∷ [] →
    IsBench (config names limits) (record { history = h; remaining = kepts hs }) nodes hs taken →
    knows (config_of m) actor operation ≡ true → 2 ≤ free_places (config_of m) m.state → IsTaken nodes actor operation i d →
    record {
      keeps : IsBench (config names limits) (record { history = later; remaining = kepts next }) d next (taken + 1);
      answers : AnswersAs m actor (Do operation) (Taken (taken + 1)) (machine names limits later (kepts next));
    }
taken_step names limits h later nodes d hs next taken actor operation i m at longer grown old is room t =
    let is_here : knows (config names limits) actor operation ≡ true =
    subst (λ (m : Machine). knows (config_of m) actor operation ≡ true) (sym at) is in
    let room_here : 2 ≤ free_places (config names limits) (record { history = h; remaining = kepts hs }) =
    subst (λ (m : Machine). 2 ≤ free_places (config_of m) m.state) (sym at) room in
    let r = taken_here names limits h nodes d hs taken actor operation i old is_here room_here t in
    record {
      keeps =
          subst₂ (λ (h : List Event) (b : List Held). IsBench (config names limits) (record { history = h; remaining = kepts b }) d b
          (taken + 1)) (sym longer) (sym grown) r.keeps;
      answers = subst (λ (m : Machine). AnswersAs m actor (Do operation) (Taken (taken + 1)) (machine names limits later (kepts next))) at
          (subst₂ (λ (h' : List Event) (b : List Held). AnswersAs (machine names limits h (kepts hs)) actor (Do operation)
          (Taken (taken + 1)) (machine names limits h' (kepts b))) (sym longer) (sym grown) r.answers);
    }

-- a step that its node refuses
pub step_refused : (names : Texts) (limits : Limits) (h : List Event) (nodes : Cluster) (hs : List Held) (taken actor : ℕ)
    (operation : Operation) (f : Fault) (m : Machine) → machine names limits h (kepts hs) ≡ m →
    IsBench (config names limits) (record { history = h; remaining = kepts hs }) nodes hs taken →
    knows (config_of m) actor operation ≡ true → 2 ≤ free_places (config_of m) m.state → step nodes actor operation ≡ Err f →
    reply_to (config_of m) m.state actor (Do operation) ≡ Refused f
step_refused names limits h nodes hs taken actor operation f m at old is room refused =
    let run : now (config_of m) m.state ≡ Ok nodes = subst (λ (m : Machine). now (config_of m) m.state ≡ Ok nodes) at old.is_now in
    do_gives (config_of m) m.state actor operation nodes (Err f) is room run refused

-- a step that was taken, asked by an act of which the code has copies; `count` is what the meter shows then
pub taken_asked : (names : Texts) (limits : Limits) (h later : List Event) (nodes d : Cluster) (hs mid next : List Held)
    (taken count number actor : ℕ) (asked copy : Operation) (act : Action) (i : Inverse) (m : Machine) →
    machine names limits h (kepts hs) ≡ m → count ≡ taken + 1 → number ≡ count → later ≡ note actor act (Taken number) h → mid ≡ hs →
    next ≡ mid ++ added number actor copy i ∷ [] → copy ≡ asked → act ≡ Do asked →
    IsBench (config names limits) (record { history = h; remaining = kepts hs }) nodes hs taken →
    knows (config_of m) actor asked ≡ true → 2 ≤ free_places (config_of m) m.state → IsTaken nodes actor copy i d →
    record {
      keeps : IsBench (config names limits) (record { history = later; remaining = kepts next }) d next count;
      answers : AnswersAs m actor act (Taken number) (machine names limits later (kepts next));
    }
taken_asked names limits h later nodes d hs mid next taken count number actor asked copy act i m at ticks counts longer same grown copied
    asks old is room t =
    let act_is : act ≡ Do copy = asks ∙ ap Do (sym copied) in
    let top : number ≡ taken + 1 = counts ∙ ticks in
    let longer_by : later ≡ note actor (Do copy) (Taken (taken + 1)) h = longer ∙ ap (λ (a : Action). note actor a (Taken number) h) act_is
    ∙ ap (λ n. note actor (Do copy) (Taken n) h) top in
    let grown_by : next ≡ hs ++ added (taken + 1) actor copy i ∷ [] = grown
    ∙ ap (λ (l : List Held). l ++ added number actor copy i ∷ []) same ∙ ap (λ n. hs ++ added n actor copy i ∷ []) top in
    let r = taken_step names limits h later nodes d hs next taken actor copy i m at longer_by grown_by old
    (subst (λ (o : Operation). knows (config_of m) actor o ≡ true) (sym copied) is) room t in
    record {
      keeps = subst (IsBench (config names limits) (record { history = later; remaining = kepts next }) d next) (sym ticks) r.keeps;
      answers =
          subst₂ (λ (a : Action) n. AnswersAs m actor a (Taken n) (machine names limits later (kepts next))) (sym act_is) (sym top)
          r.answers;
    }

-- a step that its node refused
pub refused_asked : (names : Texts) (limits : Limits) (h later : List Event) (nodes d : Cluster) (hs mid : List Held)
    (taken count actor : ℕ) (asked copy : Operation) (act : Action) (f : StepFault) (fault : Fault) (m : Machine) →
    machine names limits h (kepts hs) ≡ m → count ≡ taken → later ≡ note actor act (Refused fault) h → mid ≡ hs → d ≡ nodes → copy ≡ asked →
    act ≡ Do asked → fault ≡ fault_of f →
    IsBench (config names limits) (record { history = h; remaining = kepts hs }) nodes hs taken →
    knows (config_of m) actor asked ≡ true → 2 ≤ free_places (config_of m) m.state → step nodes actor copy ≡ Err (fault_of f) →
    record {
      keeps : IsBench (config names limits) (record { history = later; remaining = kepts mid }) d mid count;
      answers : AnswersAs m actor act (Refused fault) (machine names limits later (kepts mid));
    }
refused_asked names limits h later nodes d hs mid taken count actor asked copy act f fault m at counts longer same stays copied asks
    is_fault old is room gives =
    let reply : reply_to (config_of m) m.state actor act ≡ Refused fault =
    ap (reply_to (config_of m) m.state actor) asks
    ∙ step_refused names limits h nodes hs taken actor asked fault m at old is room
    (ap (step nodes actor) (sym copied) ∙ gives ∙ ap Err (sym is_fault)) in
    let other : fault ≢ HistoryFull = λ e. fault_of_other f (sym is_fault ∙ e) in
    let r = refused names limits h later (kepts hs) nodes hs taken actor act fault m at longer old reply other (λ e. omega arith) in
    record {
      keeps = subst (IsBench (config names limits) (record { history = later; remaining = kepts mid }) d mid) (sym counts)
          (subst₂ (λ (d : Cluster) (b : List Held). IsBench (config names limits) (record { history = later; remaining = kepts b }) d b
          taken) (sym stays) (sym same) r.keeps);
      answers =
          subst (λ (b : List Held). AnswersAs m actor act (Refused fault) (machine names limits later (kepts b))) (sym same) r.answers;
    }

-- undoing

pub find_kept : (hs : List Held) (n : ℕ) (k : Kept) → find_number (kepts hs) n ≡ Some k → (h : Held) × (find_held hs n ≡ Some h) × (h.kept ≡ k)
find_kept hs n k is = go (find_held hs n) refl (sym (find_kepts hs n) ∙ is)
  where
    go : (o : Option Held) → find_held hs n ≡ o → option_map (λ (h : Held). h.kept) o ≡ Some k →
        (h : Held) × (find_held hs n ≡ Some h) × (h.kept ≡ k)
    go None at is = absurd (cc)
    go (Some h) at is = (h, at, cc)

-- what the code finds where step n may be taken back: the inverse that is lent, the node, and what they become
pub record UndoAt (c : Config) (nodes : Cluster) (hs : List Held) (n node : ℕ) : Type 0 where
  pub backable : IsBackable nodes hs n node
  pub remains : kepts (without_held hs n) ≡ without (kepts hs) n
  pub run : runs (node_limits c.limits) c.nodes (without (kepts hs) n) ≡ Ok (set nodes node backable.earlier)
  pub chain : Chain (Ok (opening_of (node_limits c.limits) c.nodes)) (without_held hs n)

pub undo_at : (c : Config) (h : List Event) (nodes : Cluster) (hs : List Held) (taken n node : ℕ) (k : Kept) →
    IsBench c (record { history = h; remaining = kepts hs }) nodes hs taken →
    find_number (kepts hs) n ≡ Some k → k.node ≡ node → first_consequence (kepts hs) n ≡ None → UndoAt c nodes hs n node
undo_at c h nodes hs taken n node k old found of free =
    let f = find_kept hs n k found in
    let kept = kept_reached c (record { history = h; remaining = kepts hs }) old.reached in
    let u = undoing (node_limits c.limits) c.nodes n hs f.0 nodes kept.rises old.is_now f.1 free old.chain in
    let same : f.0.kept.node ≡ node = ap (λ (k : Kept). k.node) f.2 ∙ of in
    record {
      backable = record {
        free = free;
        whole = all_held (Ok (opening_of (node_limits c.limits) c.nodes)) hs nodes old.chain old.is_now;
        inverse = u.inverse;
        kept = ap inverse_of f.1 ∙ u.kept;
        earlier = u.earlier;
        later = u.later;
        at = subst (λ m. slice_get nodes m ≡ Some u.later) same u.at;
        leads = u.leads;
      };
      remains = u.remains;
      run = u.run ∙ ap (λ m. Ok (set nodes m u.earlier)) same;
      chain = u.chain;
    }

undone_here : (names : Texts) (limits : Limits) (h : List Event) (nodes : Cluster) (hs : List Held) (taken actor n node : ℕ) (act : Action)
    (k : Kept) → IsBench (config names limits) (record { history = h; remaining = kepts hs }) nodes hs taken →
    reply_to (config names limits) (record { history = h; remaining = kepts hs }) actor act ≡
    undo_reply (record { history = h; remaining = kepts hs }) n →
    find_number (kepts hs) n ≡ Some k → first_consequence (kepts hs) n ≡ None → (u : UndoAt (config names limits) nodes hs n node) →
    IsNode u.backable.earlier →
    record {
      keeps : IsBench (config names limits) (record { history = note actor act (Undone n) h; remaining = kepts (without_held hs n) })
          (set nodes node u.backable.earlier) (without_held hs n) taken;
      answers : AnswersAs (machine names limits h (kepts hs)) actor act (Undone n)
          (machine names limits (note actor act (Undone n) h) (kepts (without_held hs n)));
    }
undone_here names limits h nodes hs taken actor n node act k old same found free u earlier =
    let c : Config = config names limits in
    let s : State = record { history = h; remaining = kepts hs } in
    let count = old.count in
    let reply : reply_to c s actor act ≡ Undone n = same ∙ undo_answers c s n k None old.reached found free in
    let state : record { history = note actor act (Undone n) h; remaining = kepts (without_held hs n) } ≡ after c s actor act (Undone n) =
    ap (λ (ks : List Kept). record { history = note actor act (Undone n) h; remaining = ks }) u.remains in
    let reached = subst (IsReached c) (sym state) (reached_after c s actor act (Undone n) old.reached reply) in
    let more = count_push h (record { actor = actor; act = act; reply = Undone n }) in
    record {
      keeps = record {
        reached = reached;
        is_now = ap (runs (node_limits limits) c.nodes) u.remains ∙ u.run;
        chain = u.chain;
        count = omega (arith, count, more);
        fits = (kept_reached c _ reached).fits;
        limits = old.limits;
        size = length-set nodes node u.backable.earlier ∙ old.size;
        few = old.few;
        kept = nodes_set nodes node u.backable.later u.backable.earlier old.kept u.backable.at earlier;
      };
      answers = Answered (sym reply) (ap (λ (s : State). record { names = names; limits = limits; state = s }) state);
    }

-- an undo that is made would be recorded, and so memory may be refused
pub unmade_undo : (actor n : ℕ) (act : Action) (k : Kept) (m new : Machine) → IsReached (config_of m) m.state →
    reply_to (config_of m) m.state actor act ≡ undo_reply m.state n →
    find_number m.state.remaining n ≡ Some k → first_consequence m.state.remaining n ≡ None → new ≡ m →
    AnswersAs m actor act (Refused OutOfMemory) new
unmade_undo actor n act k m new reached comes found free same =
    Unmade (ap (is_recorded (config_of m) m.state) (comes ∙ undo_answers (config_of m) m.state n k None reached found free)) refl same

-- where nothing was undone, a bench keeps what it kept
pub same_bench : (names : Texts) (limits : Limits) (h mid : List Event) (nodes d : Cluster) (j next : Journal) (taken : ℕ) → mid ≡ h →
    d ≡ nodes → next ≡ j →
    IsBench (config names limits) (record { history = h; remaining = kepts j.steps }) nodes j.steps taken × (j.nodes ≡ length names) →
    IsBench (config names limits) (record { history = mid; remaining = kepts next.steps }) d next.steps taken × (next.nodes ≡ length names)
same_bench names limits h mid nodes d j next taken longer stays same old =
    subst (λ (j : Journal). IsBench (config names limits) (record { history = mid; remaining = kepts j.steps }) d j.steps taken ×
    (j.nodes ≡ length names)) (sym same)
    (subst₂ (λ (h : List Event) (d : Cluster). IsBench (config names limits) (record { history = h; remaining = kepts j.steps }) d j.steps
    taken × (j.nodes ≡ length names)) (sym longer) (sym stays) old)

-- so does one whose nodes took no step, whatever room was made
pub unstepped : (names : Texts) (limits : Limits) (h mid : List Event) (nodes d : Cluster) (j next : Journal) (taken count : ℕ) → mid ≡ h →
    d ≡ nodes → next.steps ≡ j.steps → next.nodes ≡ j.nodes → count ≡ taken →
    IsBench (config names limits) (record { history = h; remaining = kepts j.steps }) nodes j.steps taken × (j.nodes ≡ length names) →
    IsBench (config names limits) (record { history = mid; remaining = kepts next.steps }) d next.steps count × (next.nodes ≡ length names)
unstepped names limits h mid nodes d j next taken count longer stays steps size counts old = (
  subst₂ (λ (hs : List Held) n. IsBench (config names limits) (record { history = mid; remaining = kepts hs }) d hs n) (sym steps) (sym counts)
      (subst₂ (λ (h : List Event) (d : Cluster). IsBench (config names limits) (record { history = h; remaining = kepts j.steps }) d j.steps
      taken) (sym longer) (sym stays) old.0),
  size ∙ old.1,
)

-- a step that was taken back, as the code comes to it
pub undone : (names : Texts) (limits : Limits) (h later : List Event) (nodes d : Cluster) (hs next : List Held) (taken actor n node : ℕ)
    (act : Action) (k : Kept) (m : Machine) → machine names limits h (kepts hs) ≡ m →
    later ≡ note actor act (Undone n) h → next ≡ without_held hs n →
    IsBench (config names limits) (record { history = h; remaining = kepts hs }) nodes hs taken →
    reply_to (config_of m) m.state actor act ≡ undo_reply m.state n →
    find_number (kepts hs) n ≡ Some k → first_consequence (kepts hs) n ≡ None → (u : UndoAt (config names limits) nodes hs n node) →
    (d ≡ set nodes node u.backable.earlier) × IsNode u.backable.earlier →
    record {
      keeps : IsBench (config names limits) (record { history = later; remaining = kepts next }) d next taken;
      answers : AnswersAs m actor act (Undone n) (machine names limits later (kepts next));
    }
undone names limits h later nodes d hs next taken actor n node act k m at longer shorter old same found free u gives =
    let same_here = subst (λ (m : Machine). reply_to (config_of m) m.state actor act ≡ undo_reply m.state n) (sym at) same in
    let r = undone_here names limits h nodes hs taken actor n node act k old same_here found free u gives.1 in
    record {
      keeps =
          subst (λ (d : Cluster). IsBench (config names limits) (record { history = later; remaining = kepts next }) d next taken)
          (sym gives.0)
          (subst₂ (λ (h : List Event) (b : List Held). IsBench (config names limits) (record { history = h; remaining = kepts b })
          (set nodes node u.backable.earlier) b taken) (sym longer) (sym shorter) r.keeps);
      answers = subst (λ (m : Machine). AnswersAs m actor act (Undone n) (machine names limits later (kepts next))) at
          (subst₂ (λ (h' : List Event) (b : List Held). AnswersAs (machine names limits h (kepts hs)) actor act (Undone n)
          (machine names limits h' (kepts b))) (sym longer) (sym shorter) r.answers);
    }

-- the lent inverse leads its node back
pub leads_node : (nodes : Cluster) (hs : List Held) (n node : ℕ) (i : Inverse) → IsBackable nodes hs n node → inverse_of (find_held hs n) ≡ Some i →
    LeadsNodeBack nodes node i
leads_node nodes hs n node i b lent =
    let kept = b.kept in
    let inverse_is : b.inverse ≡ i = cc (kept, lent) in
    (b.later, b.at, (b.earlier, subst (λ (i : Inverse). LeadsBack i b.later b.earlier) inverse_is b.leads))

pub goes_back : (nodes d : Cluster) (hs : List Held) (n node : ℕ) (i : Inverse) → inverse_of (find_held hs n) ≡ Some i → NodeGoesBack nodes node i d →
    GoesBack nodes hs n node d
goes_back nodes d hs n node i lent goes = λ b.
    let kept = b.kept in
    let inverse_is : b.inverse ≡ i = cc (kept, lent) in
    (goes b.later b.earlier b.at (subst (λ (i : Inverse). LeadsBack i b.later b.earlier) inverse_is b.leads), b.leads.earlier)

-- a step that was taken can be kept, in a journal that has made room for it
pub can_keep : (names : Texts) (limits : Limits) (h : List Event) (nodes d : Cluster) (hs : List Held) (j : Journal)
    (taken number actor : ℕ) (operation : Operation) (i : Inverse) →
    IsBench (config names limits) (record { history = h; remaining = kepts hs }) nodes hs taken → j.steps ≡ hs → j.nodes ≡ length names →
    number ≡ taken + 1 → actor < length names → IsTaken nodes actor operation i d →
    CanBeKept j number actor operation
can_keep names limits h nodes d hs j taken number actor operation i old steps known next there t =
    let kept = kept_reached (config names limits) (record { history = h; remaining = kepts hs }) old.reached in
    let count = old.count in
    let top : given h + 1 ≡ number = omega arith in
    record {
      positive = omega arith;
      above = subst₂ (λ n (hs : List Held). AreBelow n (kepts hs)) top (sym steps) kept.numbered;
      known = omega arith;
      sender = subst (λ (hs : List Held). HasSender (kepts hs) (delivers operation)) (sym steps)
          (has_sender (node_limits limits) (length names) (kepts hs) nodes (delivers operation) old.is_now
          (was_read t.earlier operation (message_for nodes operation) t.later t.taken));
      whole = subst AreAllHeld (sym steps) (all_held (Ok (opening_of (node_limits limits) (length names))) hs nodes old.chain old.is_now);
    }

-- a step whose nodes are known can be asked of its node
pub can_step : (names : Texts) (limits : Limits) (h : List Event) (nodes : Cluster) (hs : List Held) (taken actor : ℕ)
    (asked copy : Operation) (m : Machine) →
    machine names limits h (kepts hs) ≡ m → IsBench (config names limits) (record { history = h; remaining = kepts hs }) nodes hs taken →
    copy ≡ asked → knows (config_of m) actor asked ≡ true →
    record {
      known : actor < length names;
      there : actor < length nodes;
      few : length nodes ≤ 32;
      named : list_all (λ k. nat_lt k (length nodes)) (named_in copy) ≡ true;
      numbered : IsNumbered nodes;
      meter : taken < 18446744073709551615;
    }
can_step names limits h nodes hs taken actor asked copy m at old copied is =
    let is_here : knows (config names limits) actor copy ≡ true =
    subst₂ (λ (m : Machine) (o : Operation). knows (config_of m) actor o ≡ true) (sym at) (sym copied) is in
    let known : actor < length names = ltb-true actor (length names) (and_parts _ _ is_here).0 in
    let size = old.size in
    let few = old.few in
    let count = old.count in
    let fits = old.fits in
    let bound = old.limits.acts_few in
    let low : given h ≤ length h = count_by-le-length (λ e. is_taken e.reply) h in
    record {
      known = known;
      there = omega arith;
      few = omega arith;
      named = named_there (config names limits) nodes actor copy old.size is_here;
      numbered = numbered_runs (node_limits limits) (length names) (kepts hs) nodes old.is_now;
      meter = omega arith;
    }

-- what a bench keeps, as its callers see it
pub is_machine : (names : Texts) (limits : Limits) (h : List Event) (nodes : Cluster) (hs : List Held) (taken : ℕ) (m : Machine) →
    machine names limits h (kepts hs) ≡ m → IsBench (config names limits) (record { history = h; remaining = kepts hs }) nodes hs taken →
    IsMachine m
is_machine names limits h nodes hs taken m at old = subst IsMachine at (record {
  reached = old.reached;
  cluster =
      record {
        cluster = nodes;
        is_now = old.is_now;
        size = old.size;
        limits = limited;
        clocks =
            λ n x at. clock_of x (limited n x at) (old.kept n x at);
      };
  fits = old.fits;
  taken = let low = count_by-le-length (λ (e : Event). is_taken e.reply) h in let fits = old.fits in omega arith;
  numbers = (kept_reached (config names limits) (record { history = h; remaining = kepts hs }) old.reached).numbered;
  limits = old.limits;
  few = old.few;
})
  where
    limited : (n : ℕ) (x : Node) → slice_get nodes n ≡ Some x → x.replica.limits ≡ node_limits limits
    limited = limited_runs (node_limits limits) (length names) (kepts hs) nodes old.is_now

    clock_of : (x : Node) → x.replica.limits ≡ node_limits limits → IsNode x → own_clock x.replica ≤ limits.clock
    clock_of x same is = subst (λ (l : NodeLimits). own_clock x.replica ≤ l.clock) same is.replica.clock
