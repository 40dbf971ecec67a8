-- The opening cluster, and lists of calls.
use Rattle.std.proofs.Common.{◌≡◌, ℕ, zero, suc, ◌+◌, ◌<◌, ◌≤◌, List, [], ◌∷◌, ◌++◌, length, Ok, refl, sym, ap, ◌∙◌, subst, subst₂, arith}
use Rattle.std.proofs.Common.{add-zero, take, get_or}
use Rattle.std.proofs.lemmas.List.{take_more}
use Rattle.replica_core.specs.declared.node_limits.NodeLimits.{NodeLimits}
use Rattle.replica_core.specs.Limits.{AreNodeLimits}
use Rattle.replica_core.proofs.Invariant.{kept_opening}
use Rattle.node_core.specs.Nodes.{Node, opening_node}
use Rattle.node_core.specs.Invariant.{IsNode}
use Rattle.bench_core.specs.declared.act.Act.{Act}
use Rattle.bench_core.specs.Acts.{Action, plain_act, calls_of}
use Rattle.bench_core.specs.declared.reply.Reply.{Reply}
use Rattle.bench_core.specs.Clusters.{Cluster, opening_from, opening_of}
use Rattle.bench_core.specs.Limits.{AreLimits, node_limits}
use Rattle.bench_core.specs.Machine.{Config, Machine, AnswersAs, AllAnswered, opening_state}
use Rattle.bench_core.specs.Benches.{AreNodes, IsBench}

opening_from_push : (l : NodeLimits) (first count : ℕ) →
    opening_from l first (suc count) ≡ opening_from l first count ++ opening_node (first + count) l ∷ []
opening_from_push l first zero = ap (λ n. opening_node n l ∷ []) (sym (add-zero first))
opening_from_push l first (suc count) =
    let next : (first + 1) + count ≡ first + suc count = omega arith in
    ap (λ (c : Cluster). opening_node first l ∷ c)
    (opening_from_push l (first + 1) count ∙ ap (λ n. opening_from l (first + 1) count ++ opening_node n l ∷ []) next)

pub opening_push : (l : NodeLimits) (count : ℕ) → opening_of l (count + 1) ≡ opening_of l count ++ opening_node count l ∷ []
opening_push l count =
    let more : count + 1 ≡ suc count = omega arith in
    let same : 0 + count ≡ count = omega arith in
    ap (opening_of l) more ∙ opening_from_push l 0 count ∙ ap (λ n. opening_of l count ++ opening_node n l ∷ []) same

opening_from_length : (l : NodeLimits) (first count : ℕ) → length (opening_from l first count) ≡ count
opening_from_length l first zero = refl
opening_from_length l first (suc count) = let e = opening_from_length l (first + 1) count in omega (arith, e)

pub opening_length : (l : NodeLimits) (count : ℕ) → length (opening_of l count) ≡ count
opening_length l count = opening_from_length l 0 count

-- a node as it opens is such as steps make them
pub opening_kept : (own : ℕ) (l : NodeLimits) → own < 32 → AreNodeLimits l → IsNode (opening_node own l)
opening_kept own l name limits = record { replica = kept_opening own l name limits; few = omega arith; messages = tt }

-- one node more
pub nodes_push : (c : Cluster) (x : Node) → AreNodes c → IsNode x → AreNodes (c ++ x ∷ [])
nodes_push [] x all is zero y at = let same : x ≡ y = cc in subst IsNode same is
nodes_push [] x all is (suc n) y at = absurd (cc)
nodes_push (z ∷ c) x all is zero y at = all 0 y at
nodes_push (z ∷ c) x all is (suc n) y at = nodes_push c x (λ n y at. all (suc n) y at) is n y at

pub opens : (c : Config) (nodes : Cluster) → AreLimits c.limits → c.nodes ≤ 32 → nodes ≡ opening_of (node_limits c.limits) c.nodes →
    AreNodes nodes → IsBench c opening_state nodes [] 0
opens c nodes limits few is kept = record {
  reached = ([], refl);
  is_now = ap Ok (sym is);
  chain = tt;
  count = refl;
  fits = omega arith;
  limits = limits;
  size = ap length is ∙ opening_length (node_limits c.limits) c.nodes;
  few = few;
  kept = kept;
}

pub answered_push : (old mid new : Machine) (calls : List (ℕ × Action)) (rs : List Reply) (a : ℕ × Action) (r : Reply) →
    AllAnswered old calls rs mid → AnswersAs mid a.0 a.1 r new → AllAnswered old (calls ++ a ∷ []) (rs ++ r ∷ []) new
answered_push old mid new [] [] a r all one = (new, (subst (λ (m : Machine). AnswersAs m a.0 a.1 r new) all one, refl))
answered_push old mid new [] (s ∷ rs) a r all one = absurd all
answered_push old mid new (b ∷ calls) [] a r all one = absurd all
answered_push old mid new (b ∷ calls) (s ∷ rs) a r all one = (all.0, (all.1.0, answered_push all.0 mid new calls rs a r all.1.1 one))

calls_of-append : {X : Type 0} (xs ys : List (ℕ × Act X)) → calls_of (xs ++ ys) ≡ calls_of xs ++ calls_of ys
calls_of-append [] ys = refl
calls_of-append (x ∷ xs) ys = ap (λ (l : List (ℕ × Action)). (x.0, plain_act x.1) ∷ l) (calls_of-append xs ys)

pub answered_next : {X : Type 0} (old mid new : Machine) (asked : List (ℕ × Act X)) (i : ℕ) (x : ℕ × Act X) (rs later : List Reply)
    (r : Reply) → i < length asked → x ≡ get_or asked i x → AllAnswered old (calls_of (take i asked)) rs mid →
    AnswersAs mid x.0 (plain_act x.1) r new → later ≡ rs ++ r ∷ [] → AllAnswered old (calls_of (take (i + 1) asked)) later new
answered_next old mid new asked i x rs later r low at all one longer =
    subst₂ (λ (calls : List (ℕ × Action)) (rs : List Reply). AllAnswered old calls rs new)
    (sym (ap calls_of (take_more asked i x low) ∙ calls_of-append (take i asked) (get_or asked i x ∷ [])
    ∙ ap (λ (y : _). calls_of (take i asked) ++ (y.0, plain_act y.1) ∷ []) (sym at))) (sym longer)
    (answered_push old mid new (calls_of (take i asked)) rs (x.0, plain_act x.1) r all one)
