-- What is noted of the steps of a journal: who delivers what each sends, and how much each node sent before.
use Rattle.std.proofs.Common.{◌≡◌, ◌≢◌, ◌⊎◌, inl, inr, ℕ, zero, suc, ◌+◌, ◌<◌, ◌≤◌, ◌==◌, ◌&&◌, Bool, true, false, if◌then◌else◌, cond, List, [], ◌∷◌, ◌++◌}
use Rattle.std.proofs.Common.{length, set, slice_get, Option, Some, None, option_map, Ok, refl, sym, ap, ◌∙◌, subst, arith, append_assoc, append-nil}
use Rattle.std.proofs.Common.{length-append, length-set, take}
use Rattle.std.proofs.lemmas.List.{take_more}
use Rattle.std.proofs.Math.Seq.{take-append_seam}
use Rattle.std.proofs.lemmas.Bool.{cases_eq, eqb-true, eq-eqb, ne_eqb, and_from}
use Rattle.std.proofs.lemmas.Option.{slice_get_within, get_or_from_slice_get}
use Rattle.std.proofs.lemmas.List.Elements.{filter-append}
use Rattle.std.specs.List.{AllByRecursion as Each}
use Rattle.payload_core.specs.Messages.{numbered}
use Rattle.node_core.specs.Operations.{delivers, sends}
use Rattle.journal_core.specs.Journals.{Kept, NumbersRise, sent_by, source_at, is_number}
use Rattle.journal_core.proofs.Numbered.{get-append_at}
use Rattle.journal_core.proofs.Each.{each_imp, each_filter, finds_all}
use Rattle.journal_core.proofs.Rising.{below_part, rises_after}
use Rattle.bench_core.specs.declared.movable.Movable.{Movable}
use Rattle.bench_core.specs.Movables.{movable_after, movables_after, is_message, CountSent, AreOfNodes}
use Rattle.replica_core.specs.declared.node_limits.NodeLimits.{NodeLimits}
use Rattle.bench_core.specs.Limits.{node_limits}
use Rattle.bench_core.specs.Clusters.{Cluster, opening_from, opening_of}
use Rattle.bench_core.specs.Runs.{then_runs}
use Rattle.bench_core.specs.Machine.{Config, State}
use Rattle.bench_core.specs.Headline.{IsReached}
use Rattle.bench_core.proofs.Clusters.{get-set_same, get-set_other, stepped}
use Rattle.bench_core.proofs.Runs.{run_one}
use Rattle.bench_core.proofs.Reached.{kept_reached}

-- what is noted of a step: its place, and who delivers what it sends
pub record IsNoted (ks : List Kept) (k : Kept) (m : Movable) : Type 0 where
  pub at : slice_get ks m.place ≡ Some k
  pub node : m.node ≡ k.node
  pub delivers : m.delivers ≡ delivers k.step
  pub sends : (o : Option (ℕ × ℕ)) → is_number (source_at ks o) k.number ≡ is_message m.sends o

abbrev pub AreNoted : List Kept → List Kept → List Movable → Type 0
AreNoted ks [] [] = Unit {0}
AreNoted ks [] (m ∷ ms) = ⊥
AreNoted ks (k ∷ js) [] = ⊥
AreNoted ks (k ∷ js) (m ∷ ms) = IsNoted ks k m × AreNoted ks js ms

-- who sent a message

abbrev Other : ℕ → Kept → Type 0
Other n j = j.number ≢ n

other_at : (n : ℕ) (xs ys : List Kept) (k : Kept) (i : ℕ) → Each (Other n) xs → Each (Other n) ys → i ≢ length xs →
    is_number (option_map (λ (j : Kept). j.number) (slice_get (xs ++ k ∷ ys) i)) n ≡ false
other_at n [] ys k zero low high off = absurd (off refl)
other_at n [] [] k (suc i) low high off = refl
other_at n [] (y ∷ ys) k (suc zero) low high off = ne_eqb y.number n high.0
other_at n [] (y ∷ ys) k (suc (suc i)) low high off = other_at n [] ys k (suc i) tt high.1 (λ e. let bad : suc i ≡ 0 = e in omega arith)
other_at n (x ∷ xs) ys k zero low high off = ne_eqb x.number n low.0
other_at n (x ∷ xs) ys k (suc i) low high off = other_at n xs ys k i low.1 high (λ e. off (ap suc e))

none_at : (n : ℕ) (xs : List Kept) (i : ℕ) → Each (Other n) xs → is_number (option_map (λ (j : Kept). j.number) (slice_get xs i)) n ≡ false
none_at n [] i all = refl
none_at n (x ∷ xs) zero all = ne_eqb x.number n all.0
none_at n (x ∷ xs) (suc i) all = none_at n xs i all.1

each_append : (P : Kept → Type 0) (xs ys : List Kept) → Each P xs → Each P ys → Each P (xs ++ ys)
each_append P [] ys all more = more
each_append P (x ∷ xs) ys all more = (all.0, each_append P xs ys all.1 more)

module _ (first rest : List Kept) (k : Kept) (rises : NumbersRise 0 (first ++ k ∷ rest)) where
  low : Each (Other k.number) first
  low = each_imp _ _ (λ j h e. omega arith) first (below_part 0 first rest k rises).1

  high : Each (Other k.number) rest
  high = each_imp _ _ (λ j h e. let above = h.0 in omega arith) rest (finds_all k.number rest (rises_after 0 first rest k rises))

  abbrev before : ℕ → List Kept
  before node = sent_by first node

  abbrev number : List Kept → ℕ → Bool
  number js p = is_number (option_map (λ (j : Kept). j.number) (numbered js p)) k.number

  sent : (node : ℕ) → sent_by (first ++ k ∷ rest) node ≡
      before node ++ cond ((k.node == node) && sends k.step) (k ∷ sent_by rest node) (sent_by rest node)
  sent node = filter-append (λ j. (j.node == node) && sends j.step) first (k ∷ rest)

  absent : (node p : ℕ) → number (before node ++ sent_by rest node) p ≡ false
  absent node zero = refl
  absent node (suc i) =
      none_at k.number (before node ++ sent_by rest node) i (each_append (Other k.number) (before node) (sent_by rest node)
      (each_filter _ _ first low) (each_filter _ _ rest high))

  placed : (node p : ℕ) → number (before node ++ k ∷ sent_by rest node) p ≡ (length (before node) + 1 == p)
  placed node zero = sym (ne_eqb (length (before node) + 1) 0 (λ e. omega arith))
  placed node (suc i) = go (cases_eq i (length (before node)))
    where
      go : (i ≡ length (before node)) ⊎ (i ≢ length (before node)) →
          number (before node ++ k ∷ sent_by rest node) (suc i) ≡ (length (before node) + 1 == suc i)
      go (inl e) =
          ap (λ i. is_number (option_map (λ (j : Kept). j.number) (slice_get (before node ++ k ∷ sent_by rest node) i)) k.number) e
          ∙ ap (λ o. is_number (option_map (λ (j : Kept). j.number) o) k.number) (get-append_at (before node) (sent_by rest node) k)
          ∙ eq-eqb k.number k.number refl
          ∙ sym (eq-eqb (length (before node) + 1) (suc i) (omega arith))
      go (inr off) =
          other_at k.number (before node) (sent_by rest node) k i (each_filter _ _ first low) (each_filter _ _ rest high) off
          ∙ sym (ne_eqb (length (before node) + 1) (suc i) (λ e. off (omega arith)))

  sent_from : (b : Bool) → sends k.step ≡ b → (o : Option (ℕ × ℕ)) → is_number (source_at (first ++ k ∷ rest) o) k.number
      ≡ is_message (if b then Some (k.node, length (before k.node) + 1) else None) o
  sent_from false silent None = refl
  sent_from true sending None = refl
  sent_from false silent (Some (node, p)) = ap (λ js. number js p) (sent node ∙ without) ∙ absent node p
    where
      without : before node ++ cond ((k.node == node) && sends k.step) (k ∷ sent_by rest node) (sent_by rest node) ≡
          before node ++ sent_by rest node
      without = rw silent (go (k.node == node))
        where
          go : (t : Bool) → before node ++ cond (t && false) (k ∷ sent_by rest node) (sent_by rest node) ≡ before node ++ sent_by rest node
          go true = refl
          go false = refl
  sent_from true sending (Some (node, p)) = go (k.node == node) refl
    where
      go : (t : Bool) → (k.node == node) ≡ t → number (sent_by (first ++ k ∷ rest) node) p ≡ (t && (length (before k.node) + 1 == p))
      go false other =
          ap (λ js. number js p) (sent node ∙ ap (λ t. before node ++ cond (t && sends k.step) (k ∷ sent_by rest node) (sent_by rest node)) other)
          ∙ absent node p
      go true same =
          ap (λ js. number js p) (sent node ∙ ap (λ t. before node ++ cond (t && sends k.step) (k ∷ sent_by rest node) (sent_by rest node)) same
          ∙ ap (λ t. before node ++ cond t (k ∷ sent_by rest node) (sent_by rest node)) sending)
          ∙ placed node p ∙ ap (λ n. length (before n) + 1 == p) (sym (eqb-true k.node node same))

  is_noted : IsNoted (first ++ k ∷ rest) k (movable_after first k)
  is_noted = record {
    at = get-append_at first rest k;
    node = refl;
    delivers = refl;
    sends = sent_from (sends k.step) refl;
  }

are_noted : (ks first rest : List Kept) → ks ≡ first ++ rest → NumbersRise 0 ks → AreNoted ks rest (movables_after first rest)
are_noted ks first [] is rises = tt
are_noted ks first (k ∷ rest) is rises = (
  subst (λ ks. IsNoted ks k (movable_after first k)) (sym is) (is_noted first rest k (subst (NumbersRise 0) is rises)),
  are_noted ks (first ++ k ∷ []) rest (is ∙ sym (append_assoc first (k ∷ []) rest)) rises,
)

pub noted : (ks : List Kept) → NumbersRise 0 ks → AreNoted ks ks (movables_after [] ks)
noted ks rises = are_noted ks [] ks refl rises

-- the counts of what was sent

sent_push : (first : List Kept) (k : Kept) (node : ℕ) →
    sent_by (first ++ k ∷ []) node ≡ sent_by first node ++ cond ((k.node == node) && sends k.step) (k ∷ []) []
sent_push first k node = filter-append (λ j. (j.node == node) && sends j.step) first (k ∷ [])

pub counted_silent : (first : List Kept) (k : Kept) (counts : List ℕ) → sends k.step ≡ false → CountSent (length counts) first counts →
    CountSent (length counts) (first ++ k ∷ []) counts
counted_silent first k counts silent counted node known = counted node known ∙ ap (λ (l : List Kept). Some (length l)) (sym (same (k.node == node) refl))
  where
    same : (t : Bool) → (k.node == node) ≡ t → sent_by (first ++ k ∷ []) node ≡ sent_by first node
    same t is = sent_push first k node ∙ rw (silent, is) (none t)
      where
        none : (t : Bool) → sent_by first node ++ cond (t && false) (k ∷ []) [] ≡ sent_by first node
        none true = append-nil (sent_by first node)
        none false = append-nil (sent_by first node)

pub counted_sent : (first : List Kept) (k : Kept) (counts : List ℕ) (n : ℕ) → sends k.step ≡ true → CountSent (length counts) first counts →
    k.node < length counts → slice_get counts k.node ≡ Some n → CountSent (length counts) (first ++ k ∷ []) (set counts k.node (n + 1))
counted_sent first k counts n sending counted here is node known = go (cases_eq k.node node)
  where
    go : (k.node ≡ node) ⊎ (k.node ≢ node) → slice_get (set counts k.node (n + 1)) node ≡ Some (length (sent_by (first ++ k ∷ []) node))
    go (inl e) =
        let one : n ≡ length (sent_by first node) = let all = counted node known in
        let same : slice_get counts node ≡ Some n = ap (slice_get counts) (sym e) ∙ is in cc in
        let more : length (sent_by (first ++ k ∷ []) node) ≡ length (sent_by first node) + 1 =
        ap length (sent_push first k node ∙ ap (λ t. sent_by first node ++ cond t (k ∷ []) []) (and_from _ _ (eq-eqb k.node node e) sending))
        ∙ length-append (sent_by first node) (k ∷ []) in
        ap (slice_get (set counts k.node (n + 1))) (sym e) ∙ get-set_same counts k.node n (n + 1) is ∙ ap Some (omega arith)
    go (inr other) =
        get-set_other counts k.node node (n + 1) (λ e. other (sym e)) ∙ counted node known
        ∙ ap (λ (l : List Kept). Some (length l)) (sym (sent_push first k node
        ∙ ap (λ t. sent_by first node ++ cond (t && sends k.step) (k ∷ []) []) (ne_eqb k.node node other) ∙ append-nil (sent_by first node)))

-- no node sent more messages than there are steps
sent_few : (ks : List Kept) (node : ℕ) → length (sent_by ks node) ≤ length ks
sent_few [] node = omega arith
sent_few (k ∷ ks) node = go ((k.node == node) && sends k.step) (sent_few ks node)
  where
    go : (t : Bool) → length (sent_by ks node) ≤ length ks → length (cond t (k ∷ sent_by ks node) (sent_by ks node)) ≤ suc (length ks)
    go true few = omega arith
    go false few = omega arith

pub counted_few : (count node n : ℕ) (ks : List Kept) (counts : List ℕ) → CountSent count ks counts → node < count → slice_get counts node ≡ Some n →
    n ≤ length ks
counted_few count node n ks counts counted known is =
    let same : n ≡ length (sent_by ks node) = let all = counted node known in cc in
    let few = sent_few ks node in omega arith

pub of_node_at : (count : ℕ) (ks : List Kept) (i : ℕ) (k : Kept) → AreOfNodes count ks → slice_get ks i ≡ Some k → k.node < count
of_node_at count [] i k all is = absurd (cc)
of_node_at count (j ∷ ks) zero k all is = let same : j ≡ k = cc in subst (λ (k : Kept). k.node < count) same all.0
of_node_at count (j ∷ ks) (suc i) k all is = of_node_at count ks i k all.1 is

pub take_next : (ks : List Kept) (i : ℕ) (k : Kept) → slice_get ks i ≡ Some k → take (i + 1) ks ≡ take i ks ++ k ∷ []
take_next ks i k is =
    take_more ks i k (slice_get_within ks i k is) ∙ ap (λ (k : Kept). take i ks ++ k ∷ []) (get_or_from_slice_get ks i k k is)

-- what a call wrote through a slice of as many
pub written_back : {X : Type 0} (n : ℕ) (xs ys : List X) → n ≡ length xs → take n (xs ++ ys) ≡ xs
written_back n xs ys e = ap (λ n. take n (xs ++ ys)) e ∙ take-append_seam xs ys

-- one more step is noted
pub movables_push : (before first : List Kept) (k : Kept) →
    movables_after before (first ++ k ∷ []) ≡ movables_after before first ++ movable_after (before ++ first) k ∷ []
movables_push before [] k = ap (λ (l : List Kept). movable_after l k ∷ []) (sym (append-nil before))
movables_push before (j ∷ first) k =
    ap (λ (l : List Movable). movable_after before j ∷ l) (movables_push (before ++ j ∷ []) first k
    ∙ ap (λ (l : List Kept). movables_after (before ++ j ∷ []) first ++ movable_after l k ∷ []) (append_assoc before (j ∷ []) first))

-- each step of a run is of one of its nodes
of_nodes_at : (c d : Cluster) (ks : List Kept) → then_runs (Ok c) ks ≡ Ok d → AreOfNodes (length c) ks
of_nodes_at c d [] h = tt
of_nodes_at c d (k ∷ ks) h =
    let one = run_one c d k ks h in
    let s = stepped c k.node k.step one.0 one.1 in
    let same : length one.0 ≡ length c = ap (λ (d : Cluster). length d) s.gives ∙ length-set c k.node s.to in
    (slice_get_within c k.node s.from s.at, subst (λ n. AreOfNodes n ks) same (of_nodes_at one.0 d ks one.2))

pub of_nodes : (c : Config) (s : State) → IsReached c s → AreOfNodes c.nodes s.remaining
of_nodes c s reached =
    let kept = kept_reached c s reached in
    subst (λ n. AreOfNodes n s.remaining) (length_opening (node_limits c.limits) 0 c.nodes)
    (of_nodes_at (opening_of (node_limits c.limits) c.nodes) kept.cluster s.remaining kept.is_now)
  where
    length_opening : (l : NodeLimits) (first count : ℕ) → length (opening_from l first count) ≡ count
    length_opening l first zero = refl
    length_opening l first (suc count) = ap suc (length_opening l (first + 1) count)
