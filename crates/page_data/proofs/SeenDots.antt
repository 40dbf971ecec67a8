-- What calls tell of what a node has seen comes to what it has seen behind them.
use Rattle.std.proofs.Common.{◌≡◌, ◌≢◌, ◌⊎◌, inl, inr, ℕ, zero, suc, ◌+◌, ◌<◌, ◌≤◌, ◌==◌, ◌&&◌, Bool, true, false, if◌then◌else◌, List, [], ◌∷◌, ◌++◌, drop, get_or, length, slice_get, slice_set, Option, None, Some, Result, Ok, Err, refl, sym, ap, ap₂, ◌∙◌, subst₂, true≢false, arith, append_assoc, append-nil, length-append, length-set}
use Rattle.std.proofs.lemmas.Bool.{eq-eqb}
use Rattle.std.proofs.lemmas.Bool.Decides.{nat_tests}
use Rattle.std.proofs.lemmas.List.{drop_all, drop_more}
use Rattle.std.proofs.lemmas.Option.{slice_get_cases, unwrap_or-slice_get}
use Rattle.std.proofs.Math.Seq.{set-append_seam}
use Rattle.bench_core.specs.Clusters.{Cluster, opening_of, step}
use Rattle.bench_core.specs.Headline.{IsReached}
use Rattle.bench_core.specs.Limits.{node_limits}
use Rattle.bench_core.specs.Machine.{Event, Machine, config_of}
use Rattle.bench_core.specs.Runs.{then_runs}
use Rattle.bench_core.specs.declared.fault.Fault.{Fault}
use Rattle.bench_core.proofs.Clusters.{stepped}
use Rattle.bench_core.proofs.Openings.{opening_length}
use Rattle.bench_core.proofs.Reached.{IsKept, kept_reached}
use Rattle.journal_core.specs.Journals.{Kept}
use Rattle.node_core.specs.Nodes.{Node}
use Rattle.replica_core.specs.Replicas.{Replica}
use Rattle.report_core.specs.ActRows.{changed_by}
use Rattle.report_core.specs.ActTexts.{after_act}
use Rattle.report_core.specs.Shown.{node_in, node_of}
use Rattle.page_data.specs.Laws.{DotsLaw, after_calls, applied, dots_by, of_node, seen_by}
use Rattle.page_data.specs.Seen.{all_seen, change_of, changes_in, changes_of, is_same, nothing_seen, seen_at, seen_in, seen_of}
use Rattle.page_data.specs.declared.seen.Seen.{Seen}
use Rattle.page_data.proofs.Moved.{one_of}
use Rattle.page_data.proofs.Stays.{node_stays, reached_call}

-- one change, and then more

change_more : (name : ℕ) (was now : Seen) (ys : List ℕ) (seen : List Seen) →
    applied (change_of name was now ++ ys) seen ≡ applied ys (applied (change_of name was now) seen)
unfolding applied
change_more name was now ys seen = go (is_same was now)
  where
    told : Bool → List ℕ
    told b = if b then [] else name ∷ now.status ∷ now.clock ∷ now.more ∷ []

    go : (b : Bool) → applied (told b ++ ys) seen ≡ applied ys (applied (told b) seen)
    go true = refl
    go false = refl

changes_more : (before : List Seen) (r : Replica) (k : ℕ) (ys : List ℕ) (seen : List Seen) →
    applied (changes_of before r k ++ ys) seen ≡ applied ys (applied (changes_of before r k) seen)
unfolding changes_of applied
changes_more before r zero ys seen = refl
changes_more before r (suc k) ys seen =
    let c = change_of k (seen_at before k) (seen_of r k) in
    ap (λ xs. applied xs seen) (append_assoc (changes_of before r k) c ys)
    ∙ changes_more before r k (c ++ ys) seen
    ∙ change_more k (seen_at before k) (seen_of r k) ys (applied (changes_of before r k) seen)
    ∙ ap (applied ys) (sym (changes_more before r k c seen))

-- what was seen of a name, told anew where it is other

same_seen : (a b : Seen) → is_same a b ≡ true → a ≡ b
same_seen a b same = go (a.status == b.status) refl (a.clock == b.clock) refl (a.more == b.more) refl same
  where
    go : (x : Bool) → (a.status == b.status) ≡ x → (y : Bool) → (a.clock == b.clock) ≡ y → (z : Bool) → (a.more == b.more) ≡ z → (x && (y && z)) ≡ true → a ≡ b
    go true x true y true z h =
        let status : a.status ≡ b.status = grind (arith, nat_tests) in
        let clock : a.clock ≡ b.clock = grind (arith, nat_tests) in
        let more : a.more ≡ b.more = grind (arith, nat_tests) in
        ap (λ s. record { status = s; clock = a.clock; more = a.more }) status
        ∙ ap (λ c. record { status = b.status; clock = c; more = a.more }) clock
        ∙ ap (λ n. record { status = b.status; clock = b.clock; more = n }) more
    go true x true y false z h = absurd (true≢false (sym h))
    go true x false y z is h = absurd (true≢false (sym h))
    go false x y is z at h = absurd (true≢false (sym h))

length_seen : (r : Replica) (k : ℕ) → length (all_seen r k) ≡ k
unfolding all_seen
length_seen r zero = refl
length_seen r (suc k) = length-append (all_seen r k) (seen_of r k ∷ []) ∙ let more = length_seen r k in omega arith

set_at : (xs ys : List Seen) (a x : Seen) (k : ℕ) → length xs ≡ k → slice_set (xs ++ a ∷ ys) k x ≡ xs ++ x ∷ ys
set_at xs ys a x k long = ap (λ n. slice_set (xs ++ a ∷ ys) n x) (sym long) ∙ set-append_seam xs a ys x

told_anew : (xs ys : List Seen) (a x : Seen) (k : ℕ) → length xs ≡ k → applied (change_of k a x) (xs ++ a ∷ ys) ≡ xs ++ x ∷ ys
unfolding applied
told_anew xs ys a x k long = go (is_same a x) refl
  where
    go : (b : Bool) → is_same a x ≡ b → applied (if b then [] else k ∷ x.status ∷ x.clock ∷ x.more ∷ []) (xs ++ a ∷ ys) ≡ xs ++ x ∷ ys
    go true same = ap (λ s. xs ++ s ∷ ys) (same_seen a x same)
    go false other = set_at xs ys a x k long

-- of the first names it is what the node has now, and of the others what it had

so_far : (before : List Seen) (r : Replica) (k : ℕ) → k ≤ length before → applied (changes_of before r k) before ≡ all_seen r k ++ drop k before
unfolding changes_of all_seen applied
so_far before r zero within = refl
so_far before r (suc k) within =
    let next : suc k ≡ k + 1 = omega arith in
    let was : drop k before ≡ seen_at before k ∷ drop (suc k) before =
    drop_more before k nothing_seen (omega (arith, within))
    ∙ ap₂ (λ (x : Seen) n. x ∷ drop n before) (sym (unwrap_or-slice_get before k nothing_seen)) (sym next) in
    changes_more before r k (change_of k (seen_at before k) (seen_of r k)) before
    ∙ ap (applied (change_of k (seen_at before k) (seen_of r k)))
    (so_far before r k (omega (arith, within)) ∙ ap (λ l. all_seen r k ++ l) was)
    ∙ told_anew (all_seen r k) (drop (suc k) before) (seen_at before k) (seen_of r k) k (length_seen r k)
    ∙ sym (append_assoc (all_seen r k) (seen_of r k ∷ []) (drop (suc k) before))

told_all : (x y : Node) (count : ℕ) → applied (changes_in (seen_in (Some x) count) (Some y) count) (seen_in (Some x) count) ≡ seen_in (Some y) count
told_all x y count =
    let before = all_seen x.replica count in
    let long : length before ≡ count = length_seen x.replica count in
    so_far before y.replica count (omega (arith, long))
    ∙ ap (λ l. all_seen y.replica count ++ l) (drop_all count before (omega (arith, long)))
    ∙ append-nil (all_seen y.replica count)

-- the nodes of a cluster stay as many

runs_length : (ks : List Kept) (c d : Cluster) → then_runs (Ok c) ks ≡ Ok d → length d ≡ length c
runs_length [] c d ran = let same : c ≡ d = cc in sym (ap length same)
runs_length (k ∷ ks) c d ran = go (step c k.node k.step) refl ran (λ e more. runs_length ks e d more)
  where
    go : (r : Result Cluster Fault) → step c k.node k.step ≡ r → then_runs r ks ≡ Ok d → ((e : Cluster) → then_runs (Ok e) ks ≡ Ok d → length d ≡ length e) →
        length d ≡ length c
    go (Ok e) is more rest =
        let s = stepped c k.node k.step e is in rest e more ∙ ap length s.gives ∙ length-set c k.node s.to
    go (Err fault) is more rest = absurd (cc more)

cluster_at : (m : Machine) → IsReached (config_of m) m.state → (node : ℕ) →
    (c : Cluster) × (node_of m node ≡ slice_get c node) × (length c ≡ length m.names)
unfolding node_of
cluster_at m reached node =
    let kept : IsKept (config_of m) m.state = kept_reached (config_of m) m.state reached in (
      kept.cluster,
      ap (λ r. node_in r node) kept.is_now,
      runs_length m.state.remaining (opening_of (node_limits m.limits) (length m.names)) kept.cluster kept.is_now ∙ opening_length (node_limits m.limits) (length m.names),
    )

-- a call that changed the node tells what it has seen since

module _ (m : Machine) (e : Event) (node : ℕ) (reached : IsReached (config_of m) m.state) where
  abbrev next : Machine
  next = after_act m e.actor e.act

  same_names : next.names ≡ m.names
  unfolding after_act
  same_names = refl

  abbrev Told : Option Node → Option Node → Type 0
  Told o p = applied (changes_in (seen_in o (length m.names)) p (length m.names)) (seen_in o (length m.names)) ≡ seen_in p (length m.names)

  -- the node is there before and behind the call, or neither
  by_nodes : (c d : Cluster) → length c ≡ length m.names → length d ≡ length m.names → Told (slice_get c node) (slice_get d node)
  unfolding applied
  by_nodes c d few many = go (slice_get_cases c node).1 (slice_get_cases d node).1
    where
      go : ((x : Node) × (node < length c) × (slice_get c node ≡ Some x) × (get_or c node x ≡ x)) ⊎ ((length c ≤ node) × (slice_get c node ≡ None)) →
          ((x : Node) × (node < length d) × (slice_get d node ≡ Some x) × (get_or d node x ≡ x)) ⊎ ((length d ≤ node) × (slice_get d node ≡ None)) →
          Told (slice_get c node) (slice_get d node)
      go (inl old) (inl new) = subst₂ Told (sym old.2) (sym new.2) (told_all old.0 new.0 (length m.names))
      go (inr old) (inr new) = subst₂ Told (sym old.1) (sym new.1) refl
      go (inl old) (inr new) = absurd (omega (arith, old.1, new.0, few, many))
      go (inr old) (inl new) = absurd (omega (arith, old.0, new.1, few, many))

  told_here : Told (node_of m node) (node_of next node)
  told_here =
      let old = cluster_at m reached node in
      let new = cluster_at next (reached_call m e.actor e.act reached) node in
      subst₂ Told (sym old.1) (sym new.1) (by_nodes old.0 new.0 old.2 (new.2 ∙ ap length same_names))

  told : applied (of_node node (changed_by m e.actor e.act) (changes_in (seen_by m node) (node_of next node) (length m.names))) (seen_by m node) ≡ seen_by next node
  unfolding applied
  told = go (changed_by m e.actor e.act) refl
    where
      names : seen_in (node_of next node) (length m.names) ≡ seen_by next node
      names = ap (λ ns. seen_in (node_of next node) (length ns)) (sym same_names)

      there : changed_by m e.actor e.act ≢ Some node → seen_by m node ≡ seen_by next node
      there other = ap (λ o. seen_in o (length m.names)) (sym (node_stays m e.actor e.act node reached other)) ∙ names

      by : (n : ℕ) (b : Bool) → (n == node) ≡ b → changed_by m e.actor e.act ≡ Some n →
          applied (if b then changes_in (seen_by m node) (node_of next node) (length m.names) else []) (seen_by m node) ≡ seen_by next node
      by n true same is = told_here ∙ names
      by n false apart is = there (λ h. true≢false (sym (eq-eqb n node (one_of n node (sym is ∙ h))) ∙ apart))

      go : (o : Option ℕ) → changed_by m e.actor e.act ≡ o →
          applied (of_node node o (changes_in (seen_by m node) (node_of next node) (length m.names))) (seen_by m node) ≡ seen_by next node
      go None is = there (λ h. cc (is, h))
      go (Some n) is = by n (n == node) refl is

  -- and more behind it
  told_more : (ys : List ℕ) (seen : List Seen) →
      applied (of_node node (changed_by m e.actor e.act) (changes_in (seen_by m node) (node_of next node) (length m.names)) ++ ys) seen
      ≡ applied ys (applied (of_node node (changed_by m e.actor e.act) (changes_in (seen_by m node) (node_of next node) (length m.names))) seen)
  unfolding applied
  told_more ys seen = go (changed_by m e.actor e.act)
    where
      changes : (o : Option Node) → applied (changes_in (seen_by m node) o (length m.names) ++ ys) seen ≡ applied ys (applied (changes_in (seen_by m node) o (length m.names)) seen)
      changes None = refl
      changes (Some x) = changes_more (seen_by m node) x.replica (length m.names) ys seen

      by : (b : Bool) → applied ((if b then changes_in (seen_by m node) (node_of next node) (length m.names) else []) ++ ys) seen
          ≡ applied ys (applied (if b then changes_in (seen_by m node) (node_of next node) (length m.names) else []) seen)
      by true = changes (node_of next node)
      by false = refl

      go : (o : Option ℕ) → applied (of_node node o (changes_in (seen_by m node) (node_of next node) (length m.names)) ++ ys) seen
          ≡ applied ys (applied (of_node node o (changes_in (seen_by m node) (node_of next node) (length m.names))) seen)
      go None = refl
      go (Some n) = by (n == node)

pub dots_hold : DotsLaw
unfolding after_calls applied dots_by
dots_hold m node [] reached = refl
dots_hold m node (e ∷ events) reached =
    told_more m e node reached (dots_by node (after_act m e.actor e.act) events) (seen_by m node)
    ∙ ap (applied (dots_by node (after_act m e.actor e.act) events)) (told m e node reached)
    ∙ dots_hold (after_act m e.actor e.act) node events (reached_call m e.actor e.act reached)
