-- Beginnings with one key: the same is left, and the dots that matter stand alike.
use Rattle.std.proofs.Common.{◌≡◌, ◌⊎◌, inl, inr, ℕ, zero, suc, ◌<◌, ◌≤◌, ◌==◌, ◌&&◌, not, nat_lt, Bool, true, false, cond, List, [], ◌∷◌, ◌++◌, filter, length, length-append, take, slice_get, Option, Some, None, refl, sym, ap, ◌∙◌, subst, append_assoc, true≢false, arith}
use Rattle.std.proofs.lemmas.Bool.{cases_lt, eqb-true, lt-ltb}
use Rattle.std.specs.List.{AllByRecursion}
use Rattle.std.specs.FinSet as set
use Rattle.std.specs.Option.{option_to_list}
use Rattle.dots_core.specs.declared.dot.Dot.{Dot}
use Rattle.dots_core.specs.Names.{Names}
use Rattle.payload_core.specs.Messages.{Message, numbered}
use Rattle.store_core.specs.Stores.{standing, store_of}
use Rattle.replica_core.specs.Replicas.{Replica, delta_message, opening, request_of}
use Rattle.node_core.specs.Nodes.{Node}
use Rattle.node_core.specs.Operations.{Operation, Join, Leave, LeaveAll, Update, Broadcast, Extract, Deliver, Request, Answer, Up, Down, Permdown, sends}
use Rattle.journal_core.specs.Journals.{Kept, sent_by}
use Rattle.bench_core.specs.Clusters.{Cluster, outbox_of}
use Rattle.network_core.specs.Cones.{cares, position, sends_in, LeaveSame}
use Rattle.network_core.specs.Keys.{own_sent, sent_of, sent_own}
use Rattle.network_core.specs.Made.{own_after}
use Rattle.network_core.specs.NetworkRuns.{is_delivery, is_ordered, ordered}
use Rattle.network_core.specs.Settling.{IsSettled, IsWalk}
use Rattle.network_core.proofs.Cones.{sent_count}
use Rattle.network_core.proofs.Settling.{settle_holds}
use Rattle.network_rules.specs.declared.turn.Rank.{Rank}
use Rattle.network_rules.specs.declared.turn.Turn.{Turn}
use Rattle.explore_network.specs.Plans.{cone_of, walk_of, IsPlan, Plan}
use Rattle.network_rules.specs.Queries.{standing_of, standings_of, at_node, in_message, key_of, message_queries, message_query, node_queries, node_query, queries, queries_at_nodes, queries_of_messages, sends_held, sent_queries, AtNode, InMessage, Query}
use Rattle.explore_network.specs.Questions.{Question}
use Rattle.network_rules.specs.Tables.{carried, is_wanted, matter, Tables}
use Rattle.network_rules.specs.Turns.{count_at, delivery_of}
use Rattle.explore_network.specs.Turns.{count_of, counts_of}
use Rattle.explore_network.specs.Walks.{steps_at, with_step, IsAt}
use Rattle.network_rules.proofs.Lookups.{all_get}
use Rattle.explore_network.proofs.AllTurns.{each_has, Has}
use Rattle.explore_network.proofs.Coming.{turns_are}
use Rattle.explore_network.proofs.Ends.{passes, total_same}
use Rattle.explore_network.proofs.Firsts.{in_count, taken}
use Rattle.explore_network.proofs.Nth.{nth, parted, same_parts}
use Rattle.explore_network.proofs.Ranked.{ranked}
use Rattle.network_rules.proofs.WantedDots.{get_low, wanted_at}
use Rattle.network_rules.proofs.Tests.{both_true}
use Rattle.explore_network.proofs.TurnKinds.{of_turn, own_count}

-- lists of numbers that begin with as many

record SameStart (xs us ys vs : List ℕ) : Type 0 where
  first : xs ≡ us
  rest : ys ≡ vs

same_start : (xs us ys vs : List ℕ) → xs ++ ys ≡ us ++ vs → length xs ≡ length us → SameStart xs us ys vs
same_start [] [] ys vs h long = record { first = refl; rest = h }
same_start [] (u ∷ us) ys vs h long = absurd (omega (arith, long))
same_start (x ∷ xs) [] ys vs h long = absurd (omega (arith, long))
same_start (x ∷ xs) (u ∷ us) ys vs h long =
    let head : x ≡ u = cc in
    let tail : xs ++ ys ≡ us ++ vs = cc in
    let s = same_start xs us ys vs tail (omega (arith, long)) in
    record { first = (λ i. head i ∷ s.first i); rest = s.rest }

counts_long : (ts : List Turn) (w : List Kept) → length (counts_of ts w) ≡ length ts
counts_long [] w = refl
counts_long (t ∷ ts) w = ap suc (counts_long ts w)

-- a query that is among those that are asked

abbrev Asks : Query → List Query → Type 0
Asks x [] = ⊥
Asks x (y ∷ ys) = (y ≡ x) ⊎ Asks x ys

asks_first : (x : Query) (ys zs : List Query) → Asks x ys → Asks x (ys ++ zs)
asks_first x [] zs a = absurd a
asks_first x (y ∷ ys) zs (inl same) = inl same
asks_first x (y ∷ ys) zs (inr rest) = inr (asks_first x ys zs rest)

asks_later : (x : Query) (ys zs : List Query) → Asks x zs → Asks x (ys ++ zs)
asks_later x [] zs a = a
asks_later x (y ∷ ys) zs a = inr (asks_later x ys zs a)

alike_at : (c d : Cluster) (qs : List Query) (x : Query) → standings_of c qs ≡ standings_of d qs → Asks x qs → standing_of c x ≡ standing_of d x
alike_at c d [] x same a = absurd a
alike_at c d (y ∷ ys) x same (inl is) = let head : standing_of c y ≡ standing_of d y = cc in ap (standing_of c) (sym is) ∙ head ∙ ap (standing_of d) is
alike_at c d (y ∷ ys) x same (inr rest) = alike_at c d ys x (let tail : standings_of c ys ≡ standings_of d ys = cc in tail) rest

-- dots that are wanted are asked for, where they matter

at_node_asked : (dots : List Dot) (n : ℕ) (names : Names) (i m : ℕ) (d : Dot) → slice_get dots i ≡ Some d → i < m → (d.name == n) ≡ false → set.contains names d.name ≡ true →
    Asks (AtNode n d) (node_queries dots n names m)
at_node_asked dots n names i zero d at lt other has = absurd (omega (arith, lt))
at_node_asked dots n names i (suc m) d at lt other has = go (cases_lt i m) (λ lt. at_node_asked dots n names i m d at lt other has)
  where
    go : (i < m) ⊎ (m ≤ i) → (i < m → Asks (AtNode n d) (node_queries dots n names m)) → Asks (AtNode n d) (node_queries dots n names m ++ node_query n names (slice_get dots m))
    go (inl lt) rest = asks_first (AtNode n d) (node_queries dots n names m) (node_query n names (slice_get dots m)) (rest lt)
    go (inr le) rest =
        let same : m ≡ i = omega (arith, le, lt) in
        asks_later (AtNode n d) (node_queries dots n names m) (node_query n names (slice_get dots m))
        (subst (λ o. Asks (AtNode n d) (node_query n names o)) (sym (ap (slice_get dots) same ∙ at))
        (subst (λ b. Asks (AtNode n d) (cond b (AtNode n d ∷ []) [])) (sym (λ i. not (other i) && has i)) (inl refl)))

in_message_asked : (dots : List Dot) (n number : ℕ) (names : Names) (i m : ℕ) (d : Dot) → slice_get dots i ≡ Some d → i < m → set.contains names d.name ≡ true →
    Asks (InMessage n number d) (message_queries dots n number names m)
in_message_asked dots n number names i zero d at lt has = absurd (omega (arith, lt))
in_message_asked dots n number names i (suc m) d at lt has = go (cases_lt i m) (λ lt. in_message_asked dots n number names i m d at lt has)
  where
    go : (i < m) ⊎ (m ≤ i) → (i < m → Asks (InMessage n number d) (message_queries dots n number names m)) → Asks (InMessage n number d) (message_queries dots n number names m ++ message_query n number names (slice_get dots m))
    go (inl lt) rest = asks_first (InMessage n number d) (message_queries dots n number names m) (message_query n number names (slice_get dots m)) (rest lt)
    go (inr le) rest =
        let same : m ≡ i = omega (arith, le, lt) in
        asks_later (InMessage n number d) (message_queries dots n number names m) (message_query n number names (slice_get dots m))
        (subst (λ o. Asks (InMessage n number d) (message_query n number names o)) (sym (ap (slice_get dots) same ∙ at))
        (subst (λ b. Asks (InMessage n number d) (cond b (InMessage n number d ∷ []) [])) (sym has) (inl refl)))

nodes_asked : (t : Tables) (cs : List ℕ) (n count : ℕ) (x : Query) → n < count → Asks x (node_queries t.dots n (matter t n (count_at cs n)) (length t.dots)) → Asks x (queries_at_nodes t cs count)
unfolding queries_at_nodes
nodes_asked t cs n zero x lt a = absurd (omega (arith, lt))
nodes_asked t cs n (suc m) x lt a = go (cases_lt n m) (λ lt. nodes_asked t cs n m x lt a)
  where
    go : (n < m) ⊎ (m ≤ n) → (n < m → Asks x (queries_at_nodes t cs m)) → Asks x (queries_at_nodes t cs m ++ node_queries t.dots m (matter t m (count_at cs m)) (length t.dots))
    go (inl lt) rest = asks_first x (queries_at_nodes t cs m) _ (rest lt)
    go (inr le) rest = let same : n ≡ m = omega (arith, le, lt) in
        asks_later x (queries_at_nodes t cs m) _ (subst (λ n. Asks x (node_queries t.dots n (matter t n (count_at cs n)) (length t.dots))) same a)

messages_asked : (t : Tables) (steps : List Kept) (ranks : List Rank) (cs : List ℕ) (p m : ℕ) (x : Query) → p < m → Asks x (sent_queries t cs (slice_get steps p) (slice_get ranks p)) →
    Asks x (queries_of_messages t steps ranks cs m)
unfolding queries_of_messages
messages_asked t steps ranks cs p zero x lt a = absurd (omega (arith, lt))
messages_asked t steps ranks cs p (suc m) x lt a = go (cases_lt p m) (λ lt. messages_asked t steps ranks cs p m x lt a)
  where
    go : (p < m) ⊎ (m ≤ p) → (p < m → Asks x (queries_of_messages t steps ranks cs m)) → Asks x (queries_of_messages t steps ranks cs m ++ sent_queries t cs (slice_get steps m) (slice_get ranks m))
    go (inl lt) rest = asks_first x (queries_of_messages t steps ranks cs m) _ (rest lt)
    go (inr le) rest = let same : p ≡ m = omega (arith, le, lt) in
        asks_later x (queries_of_messages t steps ranks cs m) _ (subst (λ p. Asks x (sent_queries t cs (slice_get steps p) (slice_get ranks p))) same a)

-- a message that has what its node held was sent by a step of its node

record Holds (ks : List Kept) (i : ℕ) : Type 0 where
  before : List Kept
  step : Kept
  after : List Kept
  parts : ks ≡ before ++ step ∷ after
  held : sends_held step.step ≡ true
  number : i ≡ suc (sends_in before)

holds_later : (k : Kept) (ks : List Kept) (i : ℕ) → sends k.step ≡ true → Holds ks i → Holds (k ∷ ks) (suc i)
holds_later k ks i is h = record {
  before = k ∷ h.before;
  step = h.step;
  after = h.after;
  parts = ap (λ (l : List Kept). k ∷ l) h.parts;
  held = h.held;
  number = ap suc h.number ∙ ap (λ b. suc (length (cond b (k ∷ filter (λ k. sends k.step) h.before) (filter (λ k. sends k.step) h.before)))) (sym is);
}

holds_same : (k : Kept) (ks : List Kept) (i : ℕ) → sends k.step ≡ false → Holds ks i → Holds (k ∷ ks) i
holds_same k ks i is h = record {
  before = k ∷ h.before;
  step = h.step;
  after = h.after;
  parts = ap (λ (l : List Kept). k ∷ l) h.parts;
  held = h.held;
  number = h.number ∙ ap (λ b. suc (length (cond b (k ∷ filter (λ k. sends k.step) h.before) (filter (λ k. sends k.step) h.before)))) (sym is);
}

-- by what a step sends

told : (k : Kept) (ks : List Kept) (i : ℕ) (r : Replica) (m : Message) → sends k.step ≡ true → numbered (Some m ∷ own_sent r ks) i ≡ Some None →
    ((i : ℕ) → numbered (own_sent r ks) i ≡ Some None → Holds ks i) → Holds (k ∷ ks) i
told k ks zero r m is h rest = absurd (cc)
told k ks (suc zero) r m is h rest = absurd (cc)
told k ks (suc (suc i)) r m is h rest = holds_later k ks (suc i) is (rest (suc i) h)

held : (k : Kept) (ks : List Kept) (i : ℕ) (r : Replica) → sends k.step ≡ true → sends_held k.step ≡ true → numbered (None ∷ own_sent r ks) i ≡ Some None →
    ((i : ℕ) → numbered (own_sent r ks) i ≡ Some None → Holds ks i) → Holds (k ∷ ks) i
held k ks zero r is has h rest = absurd (cc)
held k ks (suc zero) r is has h rest = record { before = []; step = k; after = ks; parts = refl; held = has; number = refl }
held k ks (suc (suc i)) r is has h rest = holds_later k ks (suc i) is (rest (suc i) h)

first_sent : (s : Operation) (r : Replica) (ks : List Kept) (k : Kept) → k.step ≡ s → (i : ℕ) → numbered (option_to_list (sent_own s r) ++ own_sent (own_after s r) ks) i ≡ Some None →
    ((i : ℕ) → numbered (own_sent (own_after s r) ks) i ≡ Some None → Holds ks i) → Holds (k ∷ ks) i
first_sent (Join p) r ks k is i h rest = holds_same k ks i (ap sends is) (rest i h)
first_sent (Leave pid topic key) r ks k is i h rest = holds_same k ks i (ap sends is) (rest i h)
first_sent (LeaveAll pid) r ks k is i h rest = holds_same k ks i (ap sends is) (rest i h)
first_sent (Update p) r ks k is i h rest = holds_same k ks i (ap sends is) (rest i h)
first_sent Broadcast r ks k is i h rest = told k ks i (own_after Broadcast r) (delta_message r) (ap sends is) h rest
first_sent (Extract names) r ks k is i h rest = held k ks i (own_after (Extract names) r) (ap sends is) (ap sends_held is) h rest
first_sent (Deliver sender number) r ks k is i h rest = holds_same k ks i (ap sends is) (rest i h)
first_sent Request r ks k is i h rest = told k ks i (own_after Request r) (request_of r) (ap sends is) h rest
first_sent (Answer sender number) r ks k is i h rest = held k ks i (own_after (Answer sender number) r) (ap sends is) (ap sends_held is) h rest
first_sent (Up name) r ks k is i h rest = holds_same k ks i (ap sends is) (rest i h)
first_sent (Down name) r ks k is i h rest = holds_same k ks i (ap sends is) (rest i h)
first_sent (Permdown name) r ks k is i h rest = holds_same k ks i (ap sends is) (rest i h)

holds : (r : Replica) (ks : List Kept) (i : ℕ) → numbered (own_sent r ks) i ≡ Some None → Holds ks i
holds r [] zero h = absurd (cc)
holds r [] (suc i) h = absurd (cc)
holds r (k ∷ ks) i h = first_sent k.step r ks k refl i h (λ i h. holds (own_after k.step r) ks i h)

pub flip : (b : Bool) → not b ≡ true → b ≡ false
flip true h = sym h
flip false h = refl

pub no_delivery : (s : Operation) → is_delivery s ≡ false → delivery_of s ≡ None
no_delivery (Deliver sender number) h = absurd (true≢false h)
no_delivery (Join p) h = refl
no_delivery (Leave pid topic key) h = refl
no_delivery (LeaveAll pid) h = refl
no_delivery (Update p) h = refl
no_delivery Broadcast h = refl
no_delivery (Extract names) h = refl
no_delivery Request h = refl
no_delivery (Answer sender number) h = refl
no_delivery (Up name) h = refl
no_delivery (Down name) h = refl
no_delivery (Permdown name) h = refl

-- two beginnings with one key

module _ (p : Plan) (q : Question) (plan : IsPlan p q) where
  step_has : (path : List ℕ) → AllByRecursion (Has p.turns) (steps_at p.steps path)
  step_has [] = tt
  step_has (x ∷ path) = go (slice_get p.steps x) refl (step_has path)
    where
      go : (o : Option Kept) → slice_get p.steps x ≡ o → AllByRecursion (Has p.turns) (steps_at p.steps path) → AllByRecursion (Has p.turns) (with_step o (steps_at p.steps path))
      go None is all = all
      go (Some k) is all = (subst (λ (ts : List Turn). Has ts k) (sym plan.turns) (each_has p.steps p.count x k is), all)

  pub all_have : (w : List Kept) (counts : List ℕ) (c : Cluster) → IsAt p w counts c → AllByRecursion (Has p.turns) w
  all_have w counts c at = subst (AllByRecursion (Has p.turns)) (sym at.along.1) (step_has at.along.0)

  module _ (w v : List Kept) (counts cs : List ℕ) (c d : Cluster) (at : IsAt p w counts c) (too : IsAt p v cs d)
      (same : key_of p.tables p.count p.steps p.ranks counts c ≡ key_of p.tables p.count p.steps p.ranks cs d) where
    qs : List Query
    qs = queries p.tables p.count p.steps p.ranks counts

    both : SameStart counts cs (standings_of c (queries p.tables p.count p.steps p.ranks counts)) (standings_of d (queries p.tables p.count p.steps p.ranks cs))
    both = same_start counts cs (standings_of c (queries p.tables p.count p.steps p.ranks counts)) (standings_of d (queries p.tables p.count p.steps p.ranks cs)) same
        (ap length at.counted ∙ counts_long p.turns w ∙ sym (counts_long p.turns v) ∙ ap length (sym too.counted))

    same_standings : standings_of c (queries p.tables p.count p.steps p.ranks counts) ≡ standings_of d (queries p.tables p.count p.steps p.ranks counts)
    same_standings = both.rest ∙ ap (λ (l : List ℕ). standings_of d (queries p.tables p.count p.steps p.ranks l)) (sym both.first)

    same_counts : counts_of p.turns w ≡ counts_of p.turns v
    same_counts = sym at.counted ∙ both.first ∙ too.counted

    each_same : (ts : List Turn) → counts_of ts w ≡ counts_of ts v → AllByRecursion (λ (t : Turn). count_of t w ≡ count_of t v) ts
    each_same [] h = tt
    each_same (t ∷ ts) h = ((let one : count_of t w ≡ count_of t v = cc in one), each_same ts (let rest : counts_of ts w ≡ counts_of ts v = cc in rest))

    -- each node took as many own steps
    same_position : (n : ℕ) → position w n ≡ position v n
    same_position n = go (cases_lt 0 (length (ordered p.steps n)))
      where
        short : (u : List Kept) → (later : List Kept) × (ordered p.steps n ≡ ordered u n ++ later) → length (ordered p.steps n) ≤ 0 → position u n ≡ 0
        short u own none = let long = ap length own.1 ∙ length-append (ordered u n) own.0 in omega (arith, long, none)

        go : (0 < length (ordered p.steps n)) ⊎ (length (ordered p.steps n) ≤ 0) → position w n ≡ position v n
        go (inr none) = short w (at.own n) none ∙ sym (short v (too.own n) none)
        go (inl some) =
            let f = nth (is_ordered n) p.steps 0 some in
            let r = ranked p q plan f.place f.step f.at in
            let of = of_turn r.turn f.step r.is in
            let is = both_true (f.step.node == n) (not (is_delivery f.step.step)) f.is in
            let own : r.turn.delivers ≡ None = of.1 ∙ no_delivery f.step.step (flip (is_delivery f.step.step) is.1) in
            let node : r.turn.node ≡ n = sym of.0 ∙ eqb-true f.step.node n is.0 in
            let one = own_count r.turn w own in
            let two = own_count r.turn v own in
            let counts = all_get (λ (t : Turn). count_of t w ≡ count_of t v) p.turns r.rank.turn r.turn (each_same p.turns same_counts) r.found in
            ap (position w) (sym node) ∙ sym one ∙ counts ∙ two ∙ ap (position v) node

    left : LeaveSame w v
    left = record {
      own = λ n. (same_parts (ordered v n) (ordered w n) (too.own n).0 (at.own n).0 (sym (too.own n).1 ∙ (at.own n).1) (sym (same_position n))).first;
      delivered = λ f. passes f p.turns v (turns_are p q plan).apart (all_have v cs d too)
          ∙ sym (total_same f (λ t. count_of t w) (λ t. count_of t v) p.turns (each_same p.turns same_counts))
          ∙ sym (passes f p.turns w (turns_are p q plan).apart (all_have w counts c at));
    }

    -- at a node
    at_nodes : (n : ℕ) (x y : Node) → slice_get c n ≡ Some x → slice_get d n ≡ Some y → (e : Dot) → (cares (cone_of p.tables) w).at n e ≡ true → (e.name == n) ≡ false →
        standing y.replica.store e ≡ standing x.replica.store e
    at_nodes n x y is is_too e matters other =
        let wanted = both_true (is_wanted p.tables.dots e) _ matters in
        let named = both_true (set.contains (matter p.tables n (position w n)) e.name) (not (e.name == n)) wanted.1 in
        let place = wanted_at p.tables.dots e wanted.0 in
        let lt = in_count p q plan w counts c at n x is in
        let asks = at_node_asked p.tables.dots n (matter p.tables n (count_at counts n)) place.0 (length p.tables.dots) e place.1 (get_low p.tables.dots place.0 e place.1) other
        (ap (λ i. set.contains (matter p.tables n i) e.name) (taken p q plan w counts c at n lt) ∙ named.0) in
        let asked = asks_first (AtNode n e) (queries_at_nodes p.tables counts p.count) (queries_of_messages p.tables p.steps p.ranks counts (length p.steps)) (nodes_asked p.tables counts n p.count (AtNode n e) lt asks) in
        let one = alike_at c d (queries p.tables p.count p.steps p.ranks counts) (AtNode n e) same_standings asked in
        sym (sym (ap (λ o. at_node o e) is) ∙ one ∙ ap (λ o. at_node o e) is_too)

    -- in a message
    in_messages : (n i : ℕ) (x y : Node) (m k : Message) → slice_get c n ≡ Some x → slice_get d n ≡ Some y → numbered x.outbox i ≡ Some m → numbered y.outbox i ≡ Some k →
        numbered (sent_of p.limits n w) i ≡ Some None → (e : Dot) → (cares (cone_of p.tables) w).of n i e ≡ true → standing (store_of k) e ≡ standing (store_of m) e
    in_messages n i x y m k is is_too has has_too held e matters =
        let h = holds (opening n p.limits) (ordered w n) i held in
        let whole : ordered p.steps n ≡ h.before ++ (h.step ∷ (h.after ++ (at.own n).0)) = (at.own n).1 ∙ ap (λ (l : List Kept). l ++ (at.own n).0) h.parts ∙ append_assoc h.before (h.step ∷ h.after) (at.own n).0 in
        let f = nth (is_ordered n) p.steps (length h.before) (let long = ap length whole ∙ length-append h.before (h.step ∷ (h.after ++ (at.own n).0)) in omega (arith, long)) in
        let parts = parted (is_ordered n) p.steps f.place f.step f.at f.is in
        let eq = same_parts (ordered (take f.place p.steps) n) h.before (f.step ∷ parts.0) (h.step ∷ (h.after ++ (at.own n).0)) (sym parts.1 ∙ whole) f.before in
        let rest = eq.rest in
        let step : f.step ≡ h.step = cc in
        let r = ranked p q plan f.place f.step f.at in
        let mine = both_true (f.step.node == n) (not (is_delivery f.step.step)) f.is in
        let node : f.step.node ≡ n = eqb-true f.step.node n mine.0 in
        let of = of_turn r.turn f.step r.is in
        let own : r.turn.delivers ≡ None = of.1 ∙ no_delivery f.step.step (flip (is_delivery f.step.step) mine.1) in
        let lt = in_count p q plan w counts c at n x is in
        let number : r.rank.number ≡ i = r.number ∙ ap suc (ap (λ n. length (sent_by (take f.place p.steps) n)) node ∙ sent_count (take f.place p.steps) n ∙ ap sends_in eq.first) ∙ sym h.number in
        let before : r.rank.before ≡ length h.before =
        r.before ∙ own_count r.turn (take f.place p.steps) own ∙ ap (λ n. length (ordered (take f.place p.steps) n)) (sym of.0 ∙ node) ∙ ap length eq.first in
        let came : count_at counts f.step.node ≡ position w n = ap (count_at counts) node ∙ taken p q plan w counts c at n lt in
        let fewer : r.rank.before < count_at counts f.step.node =
        (let long = ap length h.parts ∙ length-append h.before (h.step ∷ h.after) in omega (arith, before, came, long)) in
        let test : (sends_held f.step.step && nat_lt r.rank.before (count_at counts f.step.node)) ≡ true =
        (λ j. (ap (λ (k : Kept). sends_held k.step) step ∙ h.held) j && lt-ltb r.rank.before (count_at counts f.step.node) fewer j) in
        let asked_here : sent_queries p.tables counts (slice_get p.steps f.place) (slice_get p.ranks f.place) ≡ message_queries p.tables.dots n i (carried p.tables n i) (length p.tables.dots) =
        ap (λ o. sent_queries p.tables counts o (slice_get p.ranks f.place)) f.at ∙ ap (λ o. sent_queries p.tables counts (Some f.step) o) r.at
        ∙ ap (λ b. cond b (message_queries p.tables.dots f.step.node r.rank.number (carried p.tables f.step.node r.rank.number) (length p.tables.dots)) []) test
        ∙ (λ j. message_queries p.tables.dots (node j) (number j) (carried p.tables (node j) (number j)) (length p.tables.dots)) in
        let wanted = both_true (is_wanted p.tables.dots e) (set.contains (carried p.tables n i) e.name) matters in
        let place = wanted_at p.tables.dots e wanted.0 in
        let asks = in_message_asked p.tables.dots n i (carried p.tables n i) place.0 (length p.tables.dots) e place.1 (get_low p.tables.dots place.0 e place.1) wanted.1 in
        let asked = asks_later (InMessage n i e) (queries_at_nodes p.tables counts p.count) (queries_of_messages p.tables p.steps p.ranks counts (length p.steps))
        (messages_asked p.tables p.steps p.ranks counts f.place (length p.steps) (InMessage n i e) (get_low p.steps f.place f.step f.at)
        (subst (Asks (InMessage n i e)) (sym asked_here) asks)) in
        let one = alike_at c d (queries p.tables p.count p.steps p.ranks counts) (InMessage n i e) same_standings asked in
        sym (sym (ap (λ o. in_message (numbered (outbox_of o) i) e) is ∙ ap (λ o. in_message o e) has) ∙ one ∙ ap (λ o. in_message (numbered (outbox_of o) i) e) is_too ∙ ap (λ o. in_message o e) has_too)

    pub same_key : (told : Cluster → Bool) → IsWalk (walk_of p told) → IsSettled (walk_of p told) v → IsSettled (walk_of p told) w
    same_key told walk settled =
        settle_holds.same (walk_of p told) w v c d walk at.ran too.ran left (record { nodes = at_nodes; messages = in_messages }) settled
