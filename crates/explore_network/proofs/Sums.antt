-- How many steps of all turns there are: no step is counted twice.
use Rattle.std.proofs.Common.{◌≡◌, ℕ, zero, suc, ◌+◌, ◌-◌, ◌≤◌, ◌&&◌, Bool, true, false, cond, List, [], ◌∷◌, ◌++◌, filter, length, length-append, slice_get, Some, refl, sym, ap, ◌∙◌, subst, append_assoc, true≢false, arith}
use Rattle.std.proofs.lemmas.Bool.{eq-eqb}
use Rattle.std.proofs.lemmas.List.Elements.{filter-append}
use Rattle.std.specs.List.{AllByRecursion}
use Rattle.std.specs.Option.{unwrap_or}
use Rattle.journal_core.specs.Journals.{Kept}
use Rattle.network_rules.specs.declared.turn.Turn.{Turn}
use Rattle.network_rules.specs.Turns.{count_at, extra, is_of, missing, same_message}
use Rattle.explore_network.specs.Turns.{count_of, counts_of}
use Rattle.explore_network.proofs.AllTurns.{get_next, same_turn, AreApart}
use Rattle.explore_network.proofs.TurnKinds.{is_same, of_turn}

abbrev pub one : Bool → ℕ
one true = 1
one false = 0

pub count_append : (t : Turn) (v w : List Kept) → count_of t (v ++ w) ≡ count_of t v + count_of t w
count_append t v w = ap length (filter-append (is_of t) v w) ∙ length-append (filter (is_of t) v) (filter (is_of t) w)

pub count_cons : (t : Turn) (k : Kept) (w : List Kept) → count_of t (k ∷ w) ≡ one (is_of t k) + count_of t w
count_cons t k w = go (is_of t k)
  where
    go : (b : Bool) → length (cond b (k ∷ filter (is_of t) w) (filter (is_of t) w)) ≡ one b + count_of t w
    go true = omega arith
    go false = omega arith

pub count_push : (t : Turn) (k : Kept) (w : List Kept) → count_of t (w ++ k ∷ []) ≡ count_of t w + one (is_of t k)
count_push t k w =
    let both = count_append t w (k ∷ []) in
    let last = count_cons t k [] in
    omega (arith, both, last)

-- a sum over turns
abbrev pub total : (Turn → ℕ) → List Turn → ℕ
total f [] = 0
total f (t ∷ ts) = f t + total f ts

pub total_le : (f g : Turn → ℕ) (ts : List Turn) → AllByRecursion (λ (t : Turn). f t ≤ g t) ts → total f ts ≤ total g ts
total_le f g [] all = omega arith
total_le f g (t ∷ ts) all = let rest = total_le f g ts all.1 in let first = all.0 in omega (arith, rest, first)

pub total_sum : (f g h : Turn → ℕ) (ts : List Turn) → ((t : Turn) → f t ≡ g t + h t) → total f ts ≡ total g ts + total h ts
total_sum f g h [] all = omega arith
total_sum f g h (t ∷ ts) all = let rest = total_sum f g h ts all in let first = all t in omega (arith, rest, first)

-- a step is of one turn at most

pub both_of : (t u : Turn) (k : Kept) → is_of t k ≡ true → is_of u k ≡ true → same_turn t u ≡ true
both_of t u k a b =
    let one = of_turn t k a in
    let two = of_turn u k b in
    let node : u.node ≡ t.node = sym two.0 ∙ one.0 in
    let message : same_message t.delivers u.delivers ≡ true = ap (same_message t.delivers) (two.1 ∙ sym one.1) ∙ is_same t.delivers in
    λ i. eq-eqb u.node t.node node i && message i

none_else : (t : Turn) (k : Kept) (ts : List Turn) → is_of t k ≡ true → AllByRecursion (λ (u : Turn). same_turn t u ≡ false) ts → total (λ u. one (is_of u k)) ts ≡ 0
none_else t k [] is all = refl
none_else t k (u ∷ ts) is all = go (is_of u k) refl (none_else t k ts is all.1)
  where
    go : (b : Bool) → is_of u k ≡ b → total (λ u. one (is_of u k)) ts ≡ 0 → one (is_of u k) + total (λ u. one (is_of u k)) ts ≡ 0
    go true too rest = absurd (true≢false (sym (both_of t u k is too) ∙ all.0))
    go false not rest = let none = ap one not in omega (arith, rest, none)

pub once : (ts : List Turn) (k : Kept) → AreApart ts → total (λ t. one (is_of t k)) ts ≤ 1
once [] k a = omega arith
once (t ∷ ts) k a = go (is_of t k) refl (once ts k a.1)
  where
    go : (b : Bool) → is_of t k ≡ b → total (λ t. one (is_of t k)) ts ≤ 1 → one (is_of t k) + total (λ t. one (is_of t k)) ts ≤ 1
    go true is rest = let here = ap one is in let else = none_else t k ts is a.0 in omega (arith, here, else)
    go false is rest = let here = ap one is in omega (arith, here, rest)

-- so all turns together have no more than there are
pub few : (ts : List Turn) (w : List Kept) → AreApart ts → total (λ t. count_of t w) ts ≤ length w
few ts [] a = let none = all_none ts in omega (arith, none)
  where
    all_none : (ts : List Turn) → total (λ t. count_of t []) ts ≡ 0
    all_none [] = refl
    all_none (t ∷ ts) = let rest = all_none ts in omega (arith, rest)
few ts (k ∷ w) a =
    let rest = few ts w a in
    let first = once ts k a in
    let both = total_sum (λ t. count_of t (k ∷ w)) (λ t. one (is_of t k)) (λ t. count_of t w) ts (λ t. count_cons t k w) in
    omega (arith, rest, first, both)

-- what the counts of the turns tell

get_at : (pre : List ℕ) (c : ℕ) (cs : List ℕ) → count_at (pre ++ c ∷ cs) (length pre) ≡ c
get_at pre c cs = ap (λ o. unwrap_or o 0) (get_next pre cs c)

pub extra_is : (ts : List Turn) (w : List Kept) (pre : List ℕ) → extra ts (pre ++ counts_of ts w) (length pre) ≡ total (λ t. count_of t w - t.recorded) ts
unfolding extra
extra_is [] w pre = refl
extra_is (t ∷ ts) w pre =
    let all = pre ++ (count_of t w ∷ counts_of ts w) in
    let here : count_at all (length pre) ≡ count_of t w = get_at pre (count_of t w) (counts_of ts w) in
    let long : length (pre ++ count_of t w ∷ []) ≡ suc (length pre) = (let l = length-append pre (count_of t w ∷ []) in omega (arith, l)) in
    let rest : extra ts all (suc (length pre)) ≡ total (λ t. count_of t w - t.recorded) ts =
    (λ i. extra ts (sym (append_assoc pre (count_of t w ∷ []) (counts_of ts w)) i) (sym long i)) ∙ extra_is ts w (pre ++ count_of t w ∷ []) in
    λ i. (here i - t.recorded) + rest i

pub missing_is : (ts : List Turn) (w : List Kept) (pre : List ℕ) → missing ts (pre ++ counts_of ts w) (length pre) ≡ total (λ t. t.recorded - count_of t w) ts
unfolding missing
missing_is [] w pre = refl
missing_is (t ∷ ts) w pre =
    let all = pre ++ (count_of t w ∷ counts_of ts w) in
    let here : count_at all (length pre) ≡ count_of t w = get_at pre (count_of t w) (counts_of ts w) in
    let long : length (pre ++ count_of t w ∷ []) ≡ suc (length pre) = (let l = length-append pre (count_of t w ∷ []) in omega (arith, l)) in
    let rest : missing ts all (suc (length pre)) ≡ total (λ t. t.recorded - count_of t w) ts =
    (λ i. missing ts (sym (append_assoc pre (count_of t w ∷ []) (counts_of ts w)) i) (sym long i)) ∙ missing_is ts w (pre ++ count_of t w ∷ []) in
    λ i. (t.recorded - here i) + rest i

-- where one more comes that was recorded no more often, there is one more
pub one_extra : (ts : List Turn) (w : List Kept) (k : Kept) (i : ℕ) (t : Turn) → slice_get ts i ≡ Some t → is_of t k ≡ true → t.recorded ≤ count_of t w →
    total (λ t. count_of t w - t.recorded) ts + 1 ≤ total (λ t. count_of t (w ++ k ∷ []) - t.recorded) ts
one_extra [] w k i t at is over = absurd (cc)
one_extra (u ∷ ts) w k zero t at is over =
    let same : u ≡ t = cc in
    let here = ap one (ap (λ (u : Turn). is_of u k) same ∙ is) in
    let more = count_push u k w in
    let enough : u.recorded ≤ count_of u w = subst (λ (u : Turn). u.recorded ≤ count_of u w) (sym same) over in
    let rest = rises ts in
    omega (arith, here, more, enough, rest)
  where
    rises : (ts : List Turn) → total (λ t. count_of t w - t.recorded) ts ≤ total (λ t. count_of t (w ++ k ∷ []) - t.recorded) ts
    rises [] = omega arith
    rises (t ∷ ts) = let rest = rises ts in let more = count_push t k w in omega (arith, rest, more)
one_extra (u ∷ ts) w k (suc i) t at is over =
    let rest = one_extra ts w k i t at is over in
    let more = count_push u k w in
    omega (arith, rest, more)
