-- A delivery of which nothing matters, before all that comes before it.
use Rattle.std.proofs.Common.{◌≡◌, ◌⊎◌, inl, inr, ℕ, suc, ◌+◌, ◌<◌, ◌≤◌, ◌==◌, ◌&&◌, Bool, true, false, cond, List, [], ◌∷◌, ◌++◌, filter, length, length-append, Some, Ok, refl, sym, ap, ◌∙◌, subst, append_assoc, append-nil, arith, true≢false}
use Rattle.std.proofs.lemmas.Bool.{eq-eqb, eqb-true}
use Rattle.std.proofs.lemmas.List.Elements.{filter-append}
use Rattle.dots_core.specs.declared.dot.Dot.{Dot}
use Rattle.payload_core.specs.Messages.{Message, AreSeen}
use Rattle.replica_core.specs.declared.node_limits.NodeLimits.{NodeLimits}
use Rattle.node_core.specs.Operations.{Operation, Join, Leave, LeaveAll, Update, Broadcast, Extract, Deliver, Request, Answer, Up, Down, Permdown}
use Rattle.journal_core.specs.Journals.{Kept}
use Rattle.bench_core.specs.Clusters.{Cluster, message_at, step}
use Rattle.bench_core.specs.Laws.{delivery}
use Rattle.bench_core.specs.Runs.{runs, then_runs}
use Rattle.bench_core.proofs.OneEntry.{IfSeen, fine_run, seen_read}
use Rattle.bench_core.proofs.Runs.{message_stays_at, run_one, runs_append, runs_split}
use Rattle.network_core.specs.Alike.{Cares, ClusterAlike}
use Rattle.network_core.specs.Cones.{Cone, GoesLike, IdleLaw, IsCone, IsIdle, cares, position}
use Rattle.network_core.specs.EasySteps.{GoesOn}
use Rattle.network_core.specs.NetworkRuns.{IsNetworkRun, deliveries, how_many, is_delivery, is_of_kind, is_ordered, ordered}
use Rattle.network_core.specs.Room.{made}
use Rattle.network_core.proofs.AlikeClusters.{cluster_sym, cluster_then, idle_alike}
use Rattle.network_core.proofs.Clusters.{steps_hold}
use Rattle.network_core.proofs.Cones.{follows, follows_part, narrower, one_more}
use Rattle.network_core.proofs.Counts.{count_append, delivered_append}
use Rattle.network_core.proofs.EagerSteps.{made_append}
use Rattle.network_core.proofs.SameMade.{not_ordered}
use Rattle.network_core.proofs.Standing.{ended, few, has_room, runs_on}

-- steps of one kind

module _ (node sender number : ℕ) where
  abbrev pub kind : ℕ → Operation → Bool
  kind = is_of_kind node sender number

  both_true : (a b : Bool) → (a && b) ≡ true → (a ≡ true) × (b ≡ true)
  both_true true b h = (refl, h)
  both_true false b h = absurd (true≢false (sym h))

  pub kind_is : (n : ℕ) (s : Operation) → kind n s ≡ true → (n ≡ node) × (s ≡ Deliver sender number)
  kind_is n (Deliver x i) h =
      let here = both_true (n == node) ((x == sender) && (i == number)) h in
      let there = both_true (x == sender) (i == number) here.1 in
      (eqb-true n node here.0, λ a. Deliver (eqb-true x sender there.0 a) (eqb-true i number there.1 a))
  kind_is n (Join p) h = absurd (true≢false (sym h))
  kind_is n (Leave pid topic key) h = absurd (true≢false (sym h))
  kind_is n (LeaveAll pid) h = absurd (true≢false (sym h))
  kind_is n (Update p) h = absurd (true≢false (sym h))
  kind_is n Broadcast h = absurd (true≢false (sym h))
  kind_is n (Extract names) h = absurd (true≢false (sym h))
  kind_is n Request h = absurd (true≢false (sym h))
  kind_is n (Answer x i) h = absurd (true≢false (sym h))
  kind_is n (Up name) h = absurd (true≢false (sym h))
  kind_is n (Down name) h = absurd (true≢false (sym h))
  kind_is n (Permdown name) h = absurd (true≢false (sym h))

  -- they are deliveries
  pub kind_delivered : (xs : List Kept) → how_many kind (deliveries xs) ≡ how_many kind xs
  kind_delivered [] = refl
  kind_delivered (x ∷ xs) = go (is_delivery x.step) (kind x.node x.step) refl refl (kind_delivered xs)
    where
      go : (a b : Bool) → is_delivery x.step ≡ a → kind x.node x.step ≡ b → how_many kind (deliveries xs) ≡ how_many kind xs →
          how_many kind (cond a (x ∷ deliveries xs) (deliveries xs)) ≡ length (cond b (x ∷ filter (λ k. kind k.node k.step) xs) (filter (λ k. kind k.node k.step) xs))
      go true b is at h = ap (λ b. length (cond b (x ∷ filter (λ k. kind k.node k.step) (deliveries xs)) (filter (λ k. kind k.node k.step) (deliveries xs)))) at ∙ pick b
        where
          pick : (b : Bool) → length (cond b (x ∷ filter (λ k. kind k.node k.step) (deliveries xs)) (filter (λ k. kind k.node k.step) (deliveries xs))) ≡
              length (cond b (x ∷ filter (λ k. kind k.node k.step) xs) (filter (λ k. kind k.node k.step) xs))
          pick true = ap suc h
          pick false = h
      go false true is at h = absurd (true≢false (sym (ap is_delivery (kind_is x.node x.step at).1) ∙ is))
      go false false is at h = h

  -- one of them, and what stands around it
  record Among (xs : List Kept) : Type 0 where
    before : List Kept
    at : Kept
    after : List Kept
    is : xs ≡ before ++ at ∷ after
    of_kind : kind at.node at.step ≡ true

  among : (xs : List Kept) → Among xs ⊎ (how_many kind xs ≡ 0)
  among [] = inr refl
  among (x ∷ xs) = go (kind x.node x.step) refl (among xs)
    where
      go : (b : Bool) → kind x.node x.step ≡ b → Among xs ⊎ (how_many kind xs ≡ 0) → Among (x ∷ xs) ⊎ (how_many kind (x ∷ xs) ≡ 0)
      go true is later = inl (record { before = []; at = x; after = xs; is = refl; of_kind = is })
      go false is (inl a) = inl (record { before = x ∷ a.before; at = a.at; after = a.after; is = ap (λ (l : List Kept). x ∷ l) a.is; of_kind = a.of_kind })
      go false is (inr none) = inr (ap (λ b. length (cond b (x ∷ filter (λ k. kind k.node k.step) xs) (filter (λ k. kind k.node k.step) xs))) is ∙ none)

  pub count_at : (p : ℕ → Operation → Bool) (k : Kept) → kind k.node k.step ≡ true → how_many p (k ∷ []) ≡ cond (p node (Deliver sender number)) 1 0
  count_at p k is =
      let at = kind_is k.node k.step is in
      go (p k.node k.step) ∙ (λ i. cond (p (at.0 i) (at.1 i)) 1 0)
    where
      go : (b : Bool) → length (cond b (k ∷ []) []) ≡ cond b 1 0
      go true = refl
      go false = refl

  delivered_at : (p : ℕ → Operation → Bool) (k : Kept) → kind k.node k.step ≡ true → how_many p (deliveries (k ∷ [])) ≡ cond (p node (Deliver sender number)) 1 0
  delivered_at p k is = ap (λ b. how_many p (cond b (k ∷ []) [])) (ap is_delivery (kind_is k.node k.step is).1) ∙ count_at p k is

-- what matters to a node behind some steps mattered to it before them
narrower_all : (j : List Kept) (t : Cone) → IsCone j t → (first rest : List Kept) (n : ℕ) (d : Dot) → t.at n (position (first ++ rest) n) d ≡ true → t.at n (position first n) d ≡ true
narrower_all j t cone first [] n d h = ap (λ (w : List Kept). t.at n (position w n) d) (sym (append-nil first)) ∙ h
narrower_all j t cone first (k ∷ ks) n d h =
    narrower j t cone first k n d (narrower_all j t cone (first ++ k ∷ []) ks n d (ap (λ (w : List Kept). t.at n (position w n) d) (append_assoc first (k ∷ []) ks) ∙ h))

-- behind a delivery the same matters
same_cares : (t : Cone) (w : List Kept) (k : Kept) → is_delivery k.step ≡ true → cares t (w ++ k ∷ []) ≡ cares t w
same_cares t w k is = λ i. record { at = λ n. t.at n (one_more w k n false (not_ordered n k is) i); of = t.of }

seen_at : (l : NodeLimits) (count : ℕ) (w : List Kept) (c : Cluster) (sender number : ℕ) (m : Message) → runs l count w ≡ Ok c → message_at c (Some (sender, number)) ≡ Some m →
    AreSeen m.seen m.entries
seen_at l count w c sender number m ran there = subst IfSeen there (seen_read c (Deliver sender number) (fine_run l count w c ran))

module _ (l : NodeLimits) (count : ℕ) (j : List Kept) (lost again : ℕ) (t : Cone) (first : List Kept) (number_of node sender number : ℕ) (old new c : Cluster) (cone : IsCone j t)
    (room : made j ≤ l.entries) (ran : runs l count first ≡ Ok old) (idle : IsIdle (cares t first) old node sender number) (taken : step old node (Deliver sender number) ≡ Ok new)
    (fewer : how_many (is_of_kind node sender number) first < how_many (is_of_kind node sender number) j) (g : GoesOn l count j lost again first c) where
  abbrev k : Kept
  k = delivery number_of node sender number

  abbrev more : List Kept
  more = first ++ k ∷ []

  abbrev of_kind : ℕ → Operation → Bool
  of_kind = is_of_kind node sender number

  here : of_kind k.node k.step ≡ true
  here = λ i. eq-eqb node node refl i && (eq-eqb sender sender refl i && eq-eqb number number refl i)

  alike_first : ClusterAlike (cares t first) old new
  alike_first = idle_alike (cares t first) old new node sender number idle (seen_at l count first old sender number idle.message ran idle.there) taken

  ran_more : runs l count more ≡ Ok new
  ran_more = runs_on l count first (k ∷ []) old ran ∙ ap (λ r. then_runs r []) taken

  goes_like : (rest : List Kept) (e : Cluster) → IsNetworkRun j lost again (more ++ rest) → then_runs (Ok new) rest ≡ Ok e → ClusterAlike (cares t (first ++ g.rest)) c e →
      GoesLike l count j lost again t more c
  goes_like rest e is_run ends alike = record {
    end = e;
    alike = subst (λ (u : Cares). ClusterAlike u c e) (ended j (first ++ g.rest) t g.is_run.own) alike;
    goes = record { rest = rest; is_run = is_run; ends = runs_on l count more rest new ran_more ∙ ends };
  }

  -- the delivery is no ordered step
  more_ordered : (rest : List Kept) (n : ℕ) → ordered (more ++ rest) n ≡ ordered (first ++ rest) n
  more_ordered rest n =
      ap (λ (w : List Kept). ordered w n) (append_assoc first (k ∷ []) rest)
      ∙ filter-append (is_ordered n) first (k ∷ rest)
      ∙ ap (λ b. ordered first n ++ cond b (k ∷ ordered rest n) (ordered rest n)) (not_ordered n k refl)
      ∙ sym (filter-append (is_ordered n) first rest)

  more_delivered : (p : ℕ → Operation → Bool) (rest : List Kept) →
      how_many p (deliveries (more ++ rest)) ≡ how_many p (deliveries first) + (cond (p node (Deliver sender number)) 1 0 + how_many p (deliveries rest))
  more_delivered p rest =
      let all = delivered_append p first (k ∷ rest) in
      let one = delivered_append p (k ∷ []) rest in
      let this = delivered_at node sender number p k here in
      ap (λ (w : List Kept). how_many p (deliveries w)) (append_assoc first (k ∷ []) rest) ∙ omega (arith, all, one, this)

  -- what goes on from the cluster before the delivery goes on from that after it
  along : (rest : List Kept) (b e x : Cluster) (w v : List Kept) → IsNetworkRun j lost again (w ++ rest) → runs l count w ≡ Ok b → then_runs (Ok b) rest ≡ Ok e → ClusterAlike (cares t w) b x →
      runs l count v ≡ Ok x → made (v ++ rest) ≤ l.entries → (f : Cluster) × (then_runs (Ok x) rest ≡ Ok f) × ClusterAlike (cares t (w ++ rest)) e f
  along rest b e x w v is_run began ends alike ran_x enough =
      steps_hold (cares t w) (cares t (w ++ rest)) b x e rest alike (follows l count j lost again t cone w rest b is_run began) ends (has_room l count j v rest x enough ran_x)

  -- where it was lost
  lost_one : Among node sender number g.is_run.missing → GoesLike l count j lost again t more c
  lost_one a =
      let s = along g.rest old c new first more g.is_run ran (sym (runs_on l count first g.rest old ran) ∙ g.ends) alike_first ran_more (few l j (more ++ g.rest) room is_run.own) in
      goes_like g.rest s.0 is_run s.1 s.2
    where
      left_count : (p : ℕ → Operation → Bool) → how_many p g.is_run.missing ≡ cond (p node (Deliver sender number)) 1 0 + how_many p (a.before ++ a.after)
      left_count p =
          let whole = ap (how_many p) a.is ∙ count_append p a.before (a.at ∷ a.after) in
          let one = count_append p (a.at ∷ []) a.after in
          let this = count_at node sender number p a.at a.of_kind in
          let parts = count_append p a.before a.after in
          omega (arith, whole, one, this, parts)

      shorter : length (a.before ++ a.after) ≤ lost
      shorter =
          let whole = ap length a.is ∙ length-append a.before (a.at ∷ a.after) in
          let parts = length-append a.before a.after in
          let few = g.is_run.few_missing in
          omega (arith, whole, parts, few)

      is_run : IsNetworkRun j lost again (more ++ g.rest)
      is_run = record {
        own = λ n. more_ordered g.rest n ∙ g.is_run.own n;
        missing = a.before ++ a.after;
        repeated = g.is_run.repeated;
        once = g.is_run.once;
        few_missing = shorter;
        few_repeated = g.is_run.few_repeated;
        of_these = g.is_run.of_these;
        delivered = λ p.
            (let one = count_append p (deliveries (more ++ g.rest)) (a.before ++ a.after) in
            let two = count_append p (deliveries (first ++ g.rest)) g.is_run.missing in
            let there = delivered_append p first g.rest in
            let now = more_delivered p g.rest in
            let gone = left_count p in
            let all = g.is_run.delivered p in
            omega (arith, one, two, there, now, gone, all));
      }

  -- where it comes later
  later_one : Among node sender number g.rest → GoesLike l count j lost again t more c
  later_one a =
      let split = runs_split (Ok old) a.before (a.at ∷ a.after) c (sym (runs_on l count first (a.before ++ a.at ∷ a.after) old ran) ∙ ap (λ (ks : List Kept). runs l count (first ++ ks)) (sym a.is) ∙ g.ends) in
      let one = run_one split.0 c a.at a.after split.2 in
      parts split.0 one.0 split.1 one.1 one.2
    where
      at : (a.at.node ≡ node) × (a.at.step ≡ Deliver sender number)
      at = kind_is node sender number a.at.node a.at.step a.of_kind

      rest_is : first ++ g.rest ≡ (first ++ a.before) ++ a.at ∷ a.after
      rest_is = ap (λ (ks : List Kept). first ++ ks) a.is ∙ sym (append_assoc first a.before (a.at ∷ a.after))

      left_ordered : (n : ℕ) → ordered (first ++ (a.before ++ a.after)) n ≡ ordered (first ++ g.rest) n
      left_ordered n =
          ap (λ (w : List Kept). ordered w n) (sym (append_assoc first a.before a.after))
          ∙ filter-append (is_ordered n) (first ++ a.before) a.after
          ∙ ap (λ b. ordered (first ++ a.before) n ++ cond b (a.at ∷ ordered a.after n) (ordered a.after n)) (sym (not_ordered n a.at (ap is_delivery at.1)))
          ∙ sym (filter-append (is_ordered n) (first ++ a.before) (a.at ∷ a.after))
          ∙ ap (λ (w : List Kept). ordered w n) (sym rest_is)

      rest_delivered : (p : ℕ → Operation → Bool) → how_many p (deliveries g.rest) ≡ cond (p node (Deliver sender number)) 1 0 + how_many p (deliveries (a.before ++ a.after))
      rest_delivered p =
          let whole = ap (λ (ks : List Kept). how_many p (deliveries ks)) a.is ∙ delivered_append p a.before (a.at ∷ a.after) in
          let one = delivered_append p (a.at ∷ []) a.after in
          let this = delivered_at node sender number p a.at a.of_kind in
          let parts = delivered_append p a.before a.after in
          omega (arith, whole, one, this, parts)

      is_run : IsNetworkRun j lost again (more ++ (a.before ++ a.after))
      is_run = record {
        own = λ n. more_ordered (a.before ++ a.after) n ∙ left_ordered n ∙ g.is_run.own n;
        missing = g.is_run.missing;
        repeated = g.is_run.repeated;
        once = g.is_run.once;
        few_missing = g.is_run.few_missing;
        few_repeated = g.is_run.few_repeated;
        of_these = g.is_run.of_these;
        delivered = λ p.
            (let one = count_append p (deliveries (more ++ (a.before ++ a.after))) g.is_run.missing in
            let two = count_append p (deliveries (first ++ g.rest)) g.is_run.missing in
            let there = delivered_append p first g.rest in
            let now = more_delivered p (a.before ++ a.after) in
            let gone = rest_delivered p in
            let all = g.is_run.delivered p in
            omega (arith, one, two, there, now, gone, all));
      }

      enough : made (more ++ (a.before ++ a.after)) ≤ l.entries
      enough = few l j (more ++ (a.before ++ a.after)) room is_run.own

      enough_before : made (more ++ a.before) ≤ l.entries
      enough_before =
          let whole = ap made (sym (append_assoc more a.before a.after)) ∙ made_append (more ++ a.before) a.after in
          let all = enough in
          omega (arith, whole, all)

      -- the run as far as that delivery, and on from there
      run_before : IsNetworkRun j lost again (first ++ (a.before ++ a.at ∷ a.after))
      run_before = subst (λ (ks : List Kept). IsNetworkRun j lost again (first ++ ks)) a.is g.is_run

      parts : (b d : Cluster) → then_runs (Ok old) a.before ≡ Ok b → step b a.at.node a.at.step ≡ Ok d → then_runs (Ok d) a.after ≡ Ok c → GoesLike l count j lost again t more c
      parts b d as_far here_taken on = finish (with_before b as_far)
        where
          began : runs l count (first ++ a.before) ≡ Ok b
          began = runs_on l count first a.before old ran ∙ as_far

          again_idle : IsIdle (cares t (first ++ a.before)) b node sender number
          again_idle = record {
            message = idle.message;
            there = message_stays_at old b a.before (Some (sender, number)) idle.message as_far idle.there;
            nothing = λ d h. idle.nothing d (narrower_all j t cone first a.before node d h);
          }

          unchanged : ClusterAlike (cares t (first ++ a.before)) b d
          unchanged = idle_alike (cares t (first ++ a.before)) b d node sender number again_idle
              (seen_at l count (first ++ a.before) b sender number idle.message began again_idle.there) ((λ i. step b (sym at.0 i) (sym at.1 i)) ∙ here_taken)

          with_before : (b : Cluster) → then_runs (Ok old) a.before ≡ Ok b → (x : Cluster) × (then_runs (Ok new) a.before ≡ Ok x) × ClusterAlike (cares t (first ++ a.before)) b x
          with_before b as_far = steps_hold (cares t first) (cares t (first ++ a.before)) old new b a.before alike_first
              (follows_part l count j lost again t cone first a.before (a.at ∷ a.after) old run_before ran) as_far (has_room l count j more a.before new enough_before ran_more)

          finish : (x : Cluster) × (then_runs (Ok new) a.before ≡ Ok x) × ClusterAlike (cares t (first ++ a.before)) b x → GoesLike l count j lost again t more c
          finish (x, as_far_too, alike) =
              let w = (first ++ a.before) ++ a.at ∷ [] in
              let began_at : runs l count w ≡ Ok d = runs_on l count (first ++ a.before) (a.at ∷ []) b began ∙ ap (λ r. then_runs r []) here_taken in
              let began_too : runs l count (more ++ a.before) ≡ Ok x = runs_on l count more a.before new ran_more ∙ as_far_too in
              let same : cares t w ≡ cares t (first ++ a.before) = same_cares t (first ++ a.before) a.at (ap is_delivery at.1) in
              let back = cluster_then (cares t (first ++ a.before)) d b x (cluster_sym (cares t (first ++ a.before)) b d unchanged) alike in
              let whole : w ++ a.after ≡ first ++ g.rest = append_assoc (first ++ a.before) (a.at ∷ []) a.after ∙ sym rest_is in
              let s = along a.after d c x w (more ++ a.before) (subst (IsNetworkRun j lost again) (sym whole) g.is_run) began_at on (subst (λ (u : Cares). ClusterAlike u d x) (sym same) back) began_too
              (subst (λ (ks : List Kept). made ks ≤ l.entries) (sym (append_assoc more a.before a.after)) enough) in
              goes_like (a.before ++ a.after) s.0 is_run
              (runs_append (Ok new) a.before a.after ∙ ap (λ r. then_runs r a.after) as_far_too ∙ s.1)
              (subst (λ (ks : List Kept). ClusterAlike (cares t ks) c s.0) whole s.2)

  pub idle_first : GoesLike l count j lost again t more c
  idle_first = go (among node sender number g.rest) (among node sender number g.is_run.missing)
    where
      go : Among node sender number g.rest ⊎ (how_many of_kind g.rest ≡ 0) → Among node sender number g.is_run.missing ⊎ (how_many of_kind g.is_run.missing ≡ 0) →
          GoesLike l count j lost again t more c
      go (inl a) gone = later_one a
      go (inr none) (inl a) = lost_one a
      go (inr none) (inr none_lost) = absurd (
          (let one = count_append of_kind (deliveries (first ++ g.rest)) g.is_run.missing in
          let two = count_append of_kind (deliveries j) g.is_run.repeated in
          let there = delivered_append of_kind first g.rest in
          let all = g.is_run.delivered of_kind in
          let begun = kind_delivered node sender number first in
          let rest = kind_delivered node sender number g.rest in
          let recorded = kind_delivered node sender number j in
          omega (arith, one, two, there, all, begun, rest, recorded, none, none_lost, fewer)))

pub idle_holds : IdleLaw
idle_holds l count j lost again t first i node sender number old new c cone room ran idle taken fewer g =
    idle_first l count j lost again t first i node sender number old new c cone room ran idle taken fewer g
