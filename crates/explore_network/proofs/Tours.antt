-- What each call of the walk tells and keeps.
use Rattle.std.proofs.Common.{◌≡◌, ◌⊎◌, ◌||◌, inl, inr, ℕ, ◌+◌, ◌<◌, ◌≤◌, Bool, true, false, List, [], ◌∷◌, ◌++◌, length, length-append, slice_get, Some, Ok, refl, sym, ap, ◌∙◌, subst, append_assoc, append-nil, true≢false, arith}
use Rattle.std.specs.List.{AllByRecursion, list_any}
use Rattle.journal_core.specs.Journals.{Kept}
use Rattle.bench_core.specs.Clusters.{Cluster, step}
use Rattle.network_core.specs.Settling.{IsWalk}
use Rattle.network_core.proofs.SameMade.{length_holds}
use Rattle.explore_network.specs.Plans.{walk_of, IsPlan, Plan}
use Rattle.explore_network.specs.Questions.{shown, Question}
use Rattle.explore_network.specs.SameShown.{same_shown}
use Rattle.explore_network.specs.Walks.{told_by, AreMore, GoesThrough, IsAt, IsFirst, IsKeyOf, IsTold, IsTooMany, Keeps, Outcome}
use Rattle.explore_network.specs.Keys.{AreDifferent, IsAmong}
use Rattle.explore_network.proofs.AllTurns.{all_append}

-- what was told stays so where more is

any_more : (f : Outcome → Bool) (os more : List Outcome) → list_any f os ≡ true → list_any f (os ++ more) ≡ true
any_more f [] more h = absurd (true≢false (sym h))
any_more f (o ∷ os) more h = go (f o) h (λ h. any_more f os more h)
  where
    go : (b : Bool) → (b || list_any f os) ≡ true → (list_any f os ≡ true → list_any f (os ++ more) ≡ true) → (b || list_any f (os ++ more)) ≡ true
    go true h rest = refl
    go false h rest = rest h

pub told_by_more : (q : Question) (os new : List Outcome) (c : Cluster) → AreMore os new → told_by q os c ≡ true → told_by q new c ≡ true
told_by_more q os new c more h = ap (λ (l : List Outcome). told_by q l c) more.1 ∙ any_more (λ o. same_shown (shown q o.cluster) (shown q c)) os more.0 h

pub told_more : (p : Plan) (q : Question) (os new : List Outcome) (w : List Kept) → AreMore os new → IsTold p q os w → IsTold p q new w
told_more p q os new w more told c goes =
    ap (λ (l : List Outcome). told_by q l c) more.1
    ∙ any_more (λ o. same_shown (shown q o.cluster) (shown q c)) os more.0 (told c (record { rest = goes.rest; is_run = goes.is_run; ends = goes.ends }))

pub more_more : (os mid new : List Outcome) → AreMore os mid → AreMore mid new → AreMore os new
more_more os mid new a b = (a.0 ++ b.0, b.1 ∙ ap (λ (l : List Outcome). l ++ b.0) a.1 ∙ append_assoc os a.0 b.0)

pub no_more : (os : List Outcome) → AreMore os os
no_more os = ([], sym (append-nil os))

-- no run of the network is so long

pub too_long : (p : Plan) (q : Question) (os : List Outcome) (w : List Kept) → length p.steps + p.again < length w → IsTold p q os w
too_long p q os w long c goes =
    absurd (let all = length_holds p.steps (w ++ goes.rest) p.lost p.again goes.is_run in let both = length-append w goes.rest in omega (arith, all, both, long))

-- keys

pub keys_more : (p : Plan) (q : Question) (os new : List Outcome) (keys : List (List ℕ)) → AreMore os new → AllByRecursion (IsKeyOf p q os) keys → AllByRecursion (IsKeyOf p q new) keys
keys_more p q os new [] more all = tt
keys_more p q os new (key ∷ keys) more all =
    let k = all.0 in
    (record { first = k.first; counts = k.counts; cluster = k.cluster; at = k.at; is = k.is; told = told_more p q os new k.first more k.told }, keys_more p q os new keys more all.1)

pub key_among : (p : Plan) (q : Question) (os : List Outcome) (key : List ℕ) (keys : List (List ℕ)) → AllByRecursion (IsKeyOf p q os) keys → IsAmong key keys → IsKeyOf p q os key
key_among p q os key [] all among = absurd among
key_among p q os key (x ∷ keys) all (inl same) = subst (IsKeyOf p q os) same all.0
key_among p q os key (x ∷ keys) all (inr rest) = key_among p q os key keys all.1 rest

among_more : (key x : List ℕ) (keys : List (List ℕ)) → IsAmong key (keys ++ x ∷ []) → IsAmong key keys ⊎ (x ≡ key)
among_more key x [] (inl e) = inr e
among_more key x [] (inr none) = absurd none
among_more key x (k ∷ keys) (inl e) = inl (inl e)
among_more key x (k ∷ keys) (inr rest) = go (among_more key x keys rest)
  where
    go : IsAmong key keys ⊎ (x ≡ key) → IsAmong key (k ∷ keys) ⊎ (x ≡ key)
    go (inl h) = inl (inr h)
    go (inr e) = inr e

differ_more : (key : List ℕ) (keys : List (List ℕ)) → AreDifferent keys → (IsAmong key keys → ⊥) → AreDifferent (keys ++ key ∷ [])
differ_more key [] differ new = ((λ none. none), tt)
differ_more key (k ∷ keys) differ new = ((λ h. go (among_more k key keys h)), differ_more key keys differ.1 (λ h. new (inr h)))
  where
    go : IsAmong k keys ⊎ (key ≡ k) → ⊥
    go (inl h) = differ.0 h
    go (inr e) = new (inl (sym e))

-- one key more
pub record Knows (p : Plan) (q : Question) (os : List Outcome) (known : List (List ℕ)) : Type 0 where
  pub keys : AllByRecursion (IsKeyOf p q os) known
  pub differ : AreDifferent known

pub knows_key : (p : Plan) (q : Question) (os : List Outcome) (key : List ℕ) (old new : List (List ℕ)) → Keeps p q old os → IsKeyOf p q os key →
    (new ≡ old) ⊎ ((new ≡ old ++ key ∷ []) × (IsAmong key old → ⊥)) → Knows p q os new
knows_key p q os key old new k is (inl same) = subst (Knows p q os) (sym same) (record { keys = k.keys; differ = k.differ })
knows_key p q os key old new k is (inr more) = subst (Knows p q os) (sym more.0)
    (record { keys = all_append (IsKeyOf p q os) old (key ∷ []) k.keys (is, tt); differ = differ_more key old k.differ more.1 })

pub keeps_key : (p : Plan) (q : Question) (os : List Outcome) (old new : List (List ℕ)) → Keeps p q old os → Knows p q os new → length new ≤ p.most → Keeps p q new os
keeps_key p q os old new k knows few = record { keys = knows.keys; differ = knows.differ; outcomes = k.outcomes; apart = k.apart; few = few }

pub too_many : (p : Plan) (q : Question) (os : List Outcome) (old new : List (List ℕ)) (n : ℕ) → IsPlan p q → Keeps p q old os → Knows p q os new → p.most < length new → length os ≡ n → IsTooMany p q n
too_many p q os old new n plan k knows more is =
    record { plan = plan; known = new; found = os; keys = knows.keys; differ = knows.differ; more = more; outcomes = k.outcomes; apart = k.apart; count = is }

-- going on behind a step

pub through_refused : (p : Plan) (q : Question) (w : List Kept) (c : Cluster) (place : ℕ) (os : List Outcome) →
    ((k : Kept) (d : Cluster) → slice_get p.steps place ≡ Some k → step c k.node k.step ≡ Ok d → ⊥) → GoesThrough p q w c place false os
through_refused p q w c place os none = record { told = λ k d at took. absurd (none k d at took); taken = λ h. absurd (true≢false (sym h)) }

pub through_taken : (p : Plan) (q : Question) (w : List Kept) (c : Cluster) (place : ℕ) (os : List Outcome) (k : Kept) (d : Cluster) → slice_get p.steps place ≡ Some k → step c k.node k.step ≡ Ok d →
    IsTold p q os (w ++ k ∷ []) → GoesThrough p q w c place true os
through_taken p q w c place os k d at took told = record {
  told = λ x e here other. (let one : Some x ≡ Some k = sym here ∙ at in let same : x ≡ k = cc in subst (λ (x : Kept). IsTold p q os (w ++ x ∷ [])) (sym same) told);
  taken = λ h. (k, (d, (at, took)));
}

-- the step that came first, and behind it all was told
pub first_told : (p : Plan) (q : Question) (w : List Kept) (counts : List ℕ) (c : Cluster) (place : ℕ) (os : List Outcome) → IsWalk (walk_of p (told_by q os)) → IsAt p w counts c →
    IsFirst p counts c place → GoesThrough p q w c place true os → IsTold p q os w
first_told p q w counts c place os walk at first goes =
    let t = goes.taken refl in
    first.first w t.0 at t.1.1.0 (told_by q os) t.1.0 walk t.1.1.1 (goes.told t.0 t.1.0 t.1.1.0 t.1.1.1)
