-- What matters passes through all that the network can have made of the recorded run.
use Rattle.std.proofs.Common.{◌≡◌, ℕ, zero, suc, ◌+◌, ◌==◌, ◌&&◌, not, Bool, true, false, cond, List, [], ◌∷◌, ◌++◌, filter, length, length-append, slice_get, Some, Ok, refl, sym, ap, ◌∙◌, subst, append_assoc, append-nil, arith, true≢false}
use Rattle.std.proofs.lemmas.Bool.{eq-eqb}
use Rattle.std.proofs.lemmas.List.Elements.{filter-append}
use Rattle.std.specs.List.{AllByRecursion}
use Rattle.std.specs.FinSet as set
use Rattle.dots_core.specs.declared.dot.Dot.{Dot}
use Rattle.dots_core.specs.Names.{Names}
use Rattle.replica_core.specs.declared.node_limits.NodeLimits.{NodeLimits}
use Rattle.node_core.specs.Nodes.{Node}
use Rattle.node_core.specs.Operations.{Operation, Join, Leave, LeaveAll, Update, Broadcast, Extract, Deliver, Request, Answer, Up, Down, Permdown, sends}
use Rattle.journal_core.specs.Journals.{Kept, sent_by}
use Rattle.bench_core.specs.Clusters.{Cluster, opening_of}
use Rattle.bench_core.specs.Runs.{runs, then_runs}
use Rattle.bench_core.proofs.OneEntry.{fine_run}
use Rattle.bench_core.proofs.Runs.{outbox_counts, runs_append}
use Rattle.network_core.specs.Alike.{Follows, Ends, Goes, Narrows, is_compared, sends_of}
use Rattle.network_core.specs.Cones.{Cone, ConeLaw, IsCone, cares, position, says, sends_in}
use Rattle.network_core.specs.NetworkRuns.{IsNetworkRun, deliveries, how_many, is_delivery, is_ordered, ordered}
use Rattle.network_core.proofs.Counts.{count_append, delivered_append, first_fails}

-- what matters at a node mattered to it at first
at_first : (j : List Kept) (t : Cone) → IsCone j t → (n p : ℕ) (d : Dot) → t.at n p d ≡ true → t.at n 0 d ≡ true
at_first j t cone n zero d h = h
at_first j t cone n (suc p) d h = at_first j t cone n p d (cone.before n p d h)

-- a step that a node takes is one further
pub one_more : (first : List Kept) (k : Kept) (n : ℕ) (b : Bool) → is_ordered n k ≡ b → position (first ++ k ∷ []) n ≡ cond b (suc (position first n)) (position first n)
one_more first k n b is = ap length (filter-append (is_ordered n) first (k ∷ []) ∙ ap (λ b. ordered first n ++ cond b (k ∷ []) []) is) ∙ go b
  where
    go : (b : Bool) → length (ordered first n ++ cond b (k ∷ []) []) ≡ cond b (suc (position first n)) (position first n)
    go true = let long = length-append (ordered first n) (k ∷ []) in omega (arith, long)
    go false = ap length (append-nil (ordered first n))

pub narrower : (j : List Kept) (t : Cone) → IsCone j t → (first : List Kept) (k : Kept) (n : ℕ) (d : Dot) → t.at n (position (first ++ k ∷ []) n) d ≡ true → t.at n (position first n) d ≡ true
narrower j t cone first k n d h = go (is_ordered n k) (one_more first k n (is_ordered n k) refl)
  where
    go : (b : Bool) → position (first ++ k ∷ []) n ≡ cond b (suc (position first n)) (position first n) → t.at n (position first n) d ≡ true
    go true is = cone.before n (position first n) d (ap (λ p. t.at n p d) (sym is) ∙ h)
    go false is = ap (λ p. t.at n p d) (sym is) ∙ h

-- whether the dot does not matter of what a step delivers to a node where it matters
abbrev brings : Cone → Operation → Dot → Bool
brings t (Deliver sender number) d = t.of sender number d
brings t _ d = true

abbrev breaks : Cone → Dot → ℕ → Operation → Bool
breaks t d n s = t.at n 0 d && not (brings t s d)

none_breaks : (j : List Kept) (t : Cone) (d : Dot) → AllByRecursion (λ (k : Kept). (sender number : ℕ) → k.step ≡ Deliver sender number → (d : Dot) → t.at k.node 0 d ≡ true → t.of sender number d ≡ true) j →
    how_many (breaks t d) (deliveries j) ≡ 0
none_breaks [] t d all = refl
none_breaks (k ∷ ks) t d all = go (is_delivery k.step) (fits (t.at k.node 0 d) refl k.step refl) (none_breaks ks t d all.1)
  where
    fits : (b : Bool) → t.at k.node 0 d ≡ b → (s : Operation) → k.step ≡ s → (b && not (brings t s d)) ≡ false
    fits true at (Deliver sender number) is = ap not (all.0 sender number is d at)
    fits false at s is = refl
    fits true at (Join p) is = refl
    fits true at (Leave pid topic key) is = refl
    fits true at (LeaveAll pid) is = refl
    fits true at (Update p) is = refl
    fits true at Broadcast is = refl
    fits true at (Extract names) is = refl
    fits true at Request is = refl
    fits true at (Answer sender number) is = refl
    fits true at (Up name) is = refl
    fits true at (Down name) is = refl
    fits true at (Permdown name) is = refl

    go : (b : Bool) → breaks t d k.node k.step ≡ false → how_many (breaks t d) (deliveries ks) ≡ 0 → how_many (breaks t d) (cond b (k ∷ deliveries ks) (deliveries ks)) ≡ 0
    go true out later = ap (λ b. length (cond b (k ∷ filter (λ k. breaks t d k.node k.step) (deliveries ks)) (filter (λ k. breaks t d k.node k.step) (deliveries ks)))) out ∙ later
    go false out later = later

-- no delivery that is left passes a test that none of the recorded ones passes
pub none_left : (p : ℕ → Operation → Bool) (j first rest : List Kept) (lost again : ℕ) → IsNetworkRun j lost again (first ++ rest) → how_many p (deliveries j) ≡ 0 → how_many p (deliveries rest) ≡ 0
none_left p j first rest lost again r none =
    let all = delivered_append p first rest in
    let one = count_append p (deliveries (first ++ rest)) r.missing in
    let two = count_append p (deliveries j) r.repeated in
    let three = count_append p r.repeated r.once in
    let same = r.delivered p in
    let these = r.of_these p in
    omega (arith, all, one, two, three, same, these, none)

-- what sends what its node has
record Says (c : Cluster) (s : Operation) (name : ℕ) : Type 0 where
  says : says s name ≡ true
  sends : is_delivery s ≡ false

says_so : (c : Cluster) (s : Operation) (names : Names) (name : ℕ) → sends_of c s ≡ Some names → set.contains names name ≡ true → Says c s name
says_so c (Extract names) others name is h = record { says = let same : names ≡ others = cc in ap (λ names. set.contains names name) same ∙ h; sends = refl }
says_so c (Answer sender number) names name is h = record { says = refl; sends = refl }
says_so c (Join p) names name is h = absurd (cc)
says_so c (Leave pid topic key) names name is h = absurd (cc)
says_so c (LeaveAll pid) names name is h = absurd (cc)
says_so c (Update p) names name is h = absurd (cc)
says_so c Broadcast names name is h = absurd (cc)
says_so c (Deliver sender number) names name is h = absurd (cc)
says_so c Request names name is h = absurd (cc)
says_so c (Up n) names name is h = absurd (cc)
says_so c (Down n) names name is h = absurd (cc)
says_so c (Permdown n) names name is h = absurd (cc)

-- a delivery sends nothing
silent : (s : Operation) → is_delivery s ≡ true → sends s ≡ false
silent (Deliver sender number) h = refl
silent (Join p) h = absurd (true≢false (sym h))
silent (Leave pid topic key) h = absurd (true≢false (sym h))
silent (LeaveAll pid) h = absurd (true≢false (sym h))
silent (Update p) h = absurd (true≢false (sym h))
silent Broadcast h = absurd (true≢false (sym h))
silent (Extract names) h = absurd (true≢false (sym h))
silent Request h = absurd (true≢false (sym h))
silent (Answer sender number) h = absurd (true≢false (sym h))
silent (Up name) h = absurd (true≢false (sym h))
silent (Down name) h = absurd (true≢false (sym h))
silent (Permdown name) h = absurd (true≢false (sym h))

-- what a node sent is what its steps other than deliveries sent
pub sent_count : (ks : List Kept) (n : ℕ) → length (sent_by ks n) ≡ sends_in (ordered ks n)
sent_count [] n = refl
sent_count (k ∷ ks) n = go (k.node == n) (is_delivery k.step) (sends k.step) refl (silent k.step) (sent_count ks n)
  where
    go : (a b c : Bool) → sends k.step ≡ c → (b ≡ true → c ≡ false) → length (sent_by ks n) ≡ sends_in (ordered ks n) →
        length (cond (a && c) (k ∷ sent_by ks n) (sent_by ks n)) ≡ sends_in (cond (a && not b) (k ∷ ordered ks n) (ordered ks n))
    go false b c is quiet h = h
    go true true true is quiet h = absurd (true≢false (quiet refl))
    go true true false is quiet h = h
    go true false true is quiet h = ap suc h ∙ ap (λ c. length (cond c (k ∷ filter (λ k. sends k.step) (ordered ks n)) (filter (λ k. sends k.step) (ordered ks n)))) (sym is)
    go true false false is quiet h = h ∙ ap (λ c. length (cond c (k ∷ filter (λ k. sends k.step) (ordered ks n)) (filter (λ k. sends k.step) (ordered ks n)))) (sym is)

module _ (l : NodeLimits) (count : ℕ) (j : List Kept) (lost again : ℕ) (t : Cone) (cone : IsCone j t) where
  module _ (first ks : List Kept) (k : Kept) (c : Cluster) (r : IsNetworkRun j lost again (first ++ k ∷ ks)) (ran : runs l count first ≡ Ok c) where
    reads : (sender number : ℕ) → k.step ≡ Deliver sender number → (d : Dot) → t.at k.node (position (first ++ k ∷ []) k.node) d ≡ true → t.of sender number d ≡ true
    reads sender number is d h =
        let none = none_left (breaks t d) j first (k ∷ ks) lost again r (none_breaks j t d cone.read) in
        let out = first_fails (breaks t d) k ks (ap is_delivery is) none in
        go (t.of sender number d) (sym (λ i. at_first j t cone k.node (position (first ++ k ∷ []) k.node) d h i && not (brings t (is i) d)) ∙ out)
      where
        go : (b : Bool) → not b ≡ false → b ≡ true
        go true e = refl
        go false e = absurd (true≢false e)

    sent : (x : Node) (names : Names) → slice_get c k.node ≡ Some x → sends_of c k.step ≡ Some names → (d : Dot) → t.of k.node (suc (length x.outbox)) d ≡ true →
        set.contains names d.name ≡ true → is_compared (t.at k.node (position first k.node)) x.replica.own d ≡ true
    sent x names at is d h named =
        let says = says_so c k.step names d.name is named in
        let mine : is_ordered k.node k ≡ true = λ i. eq-eqb k.node k.node refl i && not (says.sends i) in
        let parted : ordered j k.node ≡ ordered first k.node ++ k ∷ ordered ks k.node =
        sym (r.own k.node) ∙ filter-append (is_ordered k.node) first (k ∷ ks)
        ∙ ap (λ b. ordered first k.node ++ cond b (k ∷ ordered ks k.node) (ordered ks k.node)) mine in
        let number : suc (length x.outbox) ≡ sends_in (ordered first k.node) + 1 =
        (let long = outbox_counts l count first c k.node x ran at in let same = sent_count first k.node in omega (arith, long, same)) in
        let named : x.replica.own ≡ k.node = ((fine_run l count first c ran).each k.node x at).own in
        ap (λ own. is_compared (t.at k.node (position first k.node)) own d) named ∙
        (cone.sent k.node (ordered first k.node) (ordered ks k.node) k parted d (ap (λ i. t.of k.node i d) (sym number) ∙ h) says.says)

    pub narrows : Narrows c k (cares t first) (cares t (first ++ k ∷ []))
    narrows = record {
      at = λ n d gone h. narrower j t cone first k n d h;
      of = λ n i m is d h. h;
      read = reads;
      sent = sent;
    }

  pub follows : (first rest : List Kept) (c : Cluster) → IsNetworkRun j lost again (first ++ rest) → runs l count first ≡ Ok c → Follows c (cares t first) rest (cares t (first ++ rest))
  follows first [] c r ran = subst (λ (w : List Kept). Follows c (cares t first) [] (cares t w)) (sym (append-nil first)) (Ends c (cares t first))
  follows first (k ∷ ks) c r ran =
      Goes c (cares t first) k ks (cares t (first ++ k ∷ [])) (cares t (first ++ k ∷ ks)) (narrows first ks k c r ran)
      (λ d is. subst (λ (w : List Kept). Follows d (cares t (first ++ k ∷ [])) ks (cares t w)) (append_assoc first (k ∷ []) ks)
      (follows (first ++ k ∷ []) ks d (subst (IsNetworkRun j lost again) (sym (append_assoc first (k ∷ []) ks)) r)
      (runs_append (Ok (opening_of l count)) first (k ∷ []) ∙ ap (λ r. then_runs r (k ∷ [])) ran ∙ ap (λ r. then_runs r []) is)))

  -- and through the first of these steps
  pub follows_part : (first part rest : List Kept) (c : Cluster) → IsNetworkRun j lost again (first ++ (part ++ rest)) → runs l count first ≡ Ok c →
      Follows c (cares t first) part (cares t (first ++ part))
  follows_part first [] rest c r ran = subst (λ (w : List Kept). Follows c (cares t first) [] (cares t w)) (sym (append-nil first)) (Ends c (cares t first))
  follows_part first (k ∷ ks) rest c r ran =
      Goes c (cares t first) k ks (cares t (first ++ k ∷ [])) (cares t (first ++ k ∷ ks)) (narrows first (ks ++ rest) k c r ran)
      (λ d is. subst (λ (w : List Kept). Follows d (cares t (first ++ k ∷ [])) ks (cares t w)) (append_assoc first (k ∷ []) ks)
      (follows_part (first ++ k ∷ []) ks rest d (subst (IsNetworkRun j lost again) (sym (append_assoc first (k ∷ []) (ks ++ rest))) r)
      (runs_append (Ok (opening_of l count)) first (k ∷ []) ∙ ap (λ r. then_runs r (k ∷ [])) ran ∙ ap (λ r. then_runs r []) is)))

pub cone_holds : ConeLaw
cone_holds l count j lost again t first rest c cone r ran = follows l count j lost again t cone first rest c r ran
