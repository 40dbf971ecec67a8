-- A beginning goes on to a run of the network: by what is missing of each turn, as it was recorded.
use Rattle.std.proofs.Common.{◌≡◌, ◌⊎◌, inl, inr, ℕ, zero, suc, ◌+◌, ◌-◌, ◌<◌, ◌≤◌, ◌==◌, ◌&&◌, not, nat_lt, Bool, true, false, cond, List, [], ◌∷◌, ◌++◌, drop, length, length-append, Option, Some, None, refl, sym, ap, ◌∙◌, subst, append-nil, true≢false, arith}
use Rattle.std.proofs.lemmas.Bool.{cases_lt, eqb-true, le-leb, lt-ltb, ltb-true}
use Rattle.std.proofs.lemmas.List.Elements.{filter-append}
use Rattle.std.specs.List.{AllByRecursion}
use Rattle.journal_core.specs.Journals.{Kept}
use Rattle.bench_core.specs.Clusters.{Cluster}
use Rattle.network_core.specs.NetworkRuns.{IsNetworkRun, is_delivery, is_ordered, ordered}
use Rattle.network_rules.specs.declared.turn.Turn.{Turn}
use Rattle.explore_network.specs.Plans.{IsPlan, Plan}
use Rattle.explore_network.specs.Questions.{Question}
use Rattle.explore_network.specs.Turns.{count_of, counts_of, named}
use Rattle.network_rules.specs.Turns.{extra, is_end, is_of, is_whole_by, missing}
use Rattle.explore_network.specs.Walks.{IsAt}
use Rattle.explore_network.proofs.AllTurns.{all_append, each_has, AreTurns, Has}
use Rattle.explore_network.proofs.Coming.{turns_are}
use Rattle.explore_network.proofs.Ends.{ends_run, fits_whole, total_zero, FitsAll}
use Rattle.explore_network.proofs.Going.{done, undone}
use Rattle.explore_network.proofs.SameKeys.{all_have, flip, no_delivery}
use Rattle.explore_network.proofs.Sums.{count_append, count_cons, count_push, extra_is, missing_is, one, total_le}
use Rattle.explore_network.proofs.ToldWalks.{all_places}
use Rattle.network_rules.proofs.Tests.{both_true}
use Rattle.explore_network.proofs.TurnKinds.{named_steps, own_count}

not_lt : (a b : ℕ) → nat_lt a b ≡ false → b ≤ a
not_lt a b h = go (cases_lt a b)
  where
    go : (a < b) ⊎ (b ≤ a) → b ≤ a
    go (inl lt) = absurd (true≢false (sym (lt-ltb a b lt) ∙ h))
    go (inr le) = le

-- what is left of steps behind others, where as many of each turn came as in w
abbrev pub left_of : List Kept → List Kept → List Kept → List Kept
left_of w seen [] = []
left_of w seen (k ∷ ks) = cond (nat_lt (count_of (named k) seen) (count_of (named k) w)) (left_of w (seen ++ k ∷ []) ks) (k ∷ left_of w (seen ++ k ∷ []) ks)

count_left : (w seen ks : List Kept) (t : Turn) → count_of t (left_of w seen ks) ≡ count_of t ks - (count_of t w - count_of t seen)
count_left w seen [] t = omega arith
count_left w seen (k ∷ ks) t = go (is_of t k) refl (nat_lt (count_of (named k) seen) (count_of (named k) w)) refl (count_left w (seen ++ k ∷ []) ks t)
  where
    go : (b : Bool) → is_of t k ≡ b → (d : Bool) → nat_lt (count_of (named k) seen) (count_of (named k) w) ≡ d →
        count_of t (left_of w (seen ++ k ∷ []) ks) ≡ count_of t ks - (count_of t w - count_of t (seen ++ k ∷ [])) →
        count_of t (cond d (left_of w (seen ++ k ∷ []) ks) (k ∷ left_of w (seen ++ k ∷ []) ks)) ≡ count_of t (k ∷ ks) - (count_of t w - count_of t seen)
    go false out true is rest =
        let push = count_push t k seen in
        let none = ap one out in
        let here = count_cons t k ks in
        omega (arith, rest, push, none, here)
    go false out false is rest =
        let push = count_push t k seen in
        let none = ap one out in
        let here = count_cons t k ks in
        let there = count_cons t k (left_of w (seen ++ k ∷ []) ks) in
        omega (arith, rest, push, none, here, there)
    go true of true is rest =
        let push = count_push t k seen in
        let single = ap one of in
        let here = count_cons t k ks in
        let lt = ltb-true (count_of (named k) seen) (count_of (named k) w) is in
        let one_is = named_steps t k of seen in
        let two_is = named_steps t k of w in
        omega (arith, rest, push, single, here, lt, one_is, two_is)
    go true of false is rest =
        let push = count_push t k seen in
        let single = ap one of in
        let here = count_cons t k ks in
        let there = count_cons t k (left_of w (seen ++ k ∷ []) ks) in
        let le = not_lt (count_of (named k) seen) (count_of (named k) w) is in
        let one_is = named_steps t k of seen in
        let two_is = named_steps t k of w in
        omega (arith, rest, push, single, here, there, le, one_is, two_is)

-- of a node's own steps those behind the ones that came

ordered_cons : (n : ℕ) (k : Kept) (ks : List Kept) (b : Bool) → is_ordered n k ≡ b → ordered (k ∷ ks) n ≡ cond b (k ∷ ordered ks n) (ordered ks n)
ordered_cons n k ks b is = ap (λ b. cond b (k ∷ ordered ks n) (ordered ks n)) is

own_named : (n : ℕ) (k : Kept) → is_ordered n k ≡ true → (ks : List Kept) → count_of (named k) ks ≡ length (ordered ks n)
own_named n k is ks =
    let both = both_true (k.node == n) (not (is_delivery k.step)) is in
    own_count (named k) ks (no_delivery k.step (flip (is_delivery k.step) both.1)) ∙ ap (λ n. length (ordered ks n)) (eqb-true k.node n both.0)

ordered_left : (w seen ks : List Kept) (n : ℕ) → ordered (left_of w seen ks) n ≡ drop (length (ordered w n) - length (ordered seen n)) (ordered ks n)
ordered_left w seen [] n = none (length (ordered w n) - length (ordered seen n))
  where
    none : (m : ℕ) → ordered [] n ≡ drop m (ordered [] n)
    none zero = refl
    none (suc m) = refl
ordered_left w seen (k ∷ ks) n = go (is_ordered n k) refl (nat_lt (count_of (named k) seen) (count_of (named k) w)) refl (ordered_left w (seen ++ k ∷ []) ks n)
  where
    go : (b : Bool) → is_ordered n k ≡ b → (d : Bool) → nat_lt (count_of (named k) seen) (count_of (named k) w) ≡ d →
        ordered (left_of w (seen ++ k ∷ []) ks) n ≡ drop (length (ordered w n) - length (ordered (seen ++ k ∷ []) n)) (ordered ks n) →
        ordered (cond d (left_of w (seen ++ k ∷ []) ks) (k ∷ left_of w (seen ++ k ∷ []) ks)) n ≡ drop (length (ordered w n) - length (ordered seen n)) (ordered (k ∷ ks) n)
    go false out true is rest =
        rest ∙ (λ i. drop (length (ordered w n) - length (undone seen k n out i)) (ordered ks n)) ∙ ap (drop (length (ordered w n) - length (ordered seen n))) (sym (ordered_cons n k ks false out))
    go false out false is rest =
        ordered_cons n k (left_of w (seen ++ k ∷ []) ks) false out ∙ rest ∙ (λ i. drop (length (ordered w n) - length (undone seen k n out i)) (ordered ks n))
        ∙ ap (drop (length (ordered w n) - length (ordered seen n))) (sym (ordered_cons n k ks false out))
    go true own true is rest =
        let lt = ltb-true (count_of (named k) seen) (count_of (named k) w) is in
        let one_is = own_named n k own seen in
        let two_is = own_named n k own w in
        let long = ap length (done seen k n own) ∙ length-append (ordered seen n) (k ∷ []) in
        let less : length (ordered w n) - length (ordered seen n) ≡ suc (length (ordered w n) - length (ordered (seen ++ k ∷ []) n)) = omega (arith, lt, one_is, two_is, long) in
        rest ∙ ap (λ m. drop m (k ∷ ordered ks n)) (sym less) ∙ ap (drop (length (ordered w n) - length (ordered seen n))) (sym (ordered_cons n k ks true own))
    go true own false is rest =
        let le = not_lt (count_of (named k) seen) (count_of (named k) w) is in
        let one_is = own_named n k own seen in
        let two_is = own_named n k own w in
        let long = ap length (done seen k n own) ∙ length-append (ordered seen n) (k ∷ []) in
        let none : length (ordered w n) - length (ordered (seen ++ k ∷ []) n) ≡ 0 = omega (arith, le, one_is, two_is, long) in
        let none_too : length (ordered w n) - length (ordered seen n) ≡ 0 = omega (arith, le, one_is, two_is) in
        ordered_cons n k (left_of w (seen ++ k ∷ []) ks) true own ∙ ap (λ l. k ∷ l) (rest ∙ ap (λ m. drop m (ordered ks n)) none)
        ∙ ap (λ m. drop m (k ∷ ordered ks n)) (sym none_too) ∙ ap (drop (length (ordered w n) - length (ordered seen n))) (sym (ordered_cons n k ks true own))

drop_first : (xs ys : List Kept) → drop (length xs) (xs ++ ys) ≡ ys
drop_first [] ys = refl
drop_first (x ∷ xs) ys = drop_first xs ys

has_left : (ts : List Turn) (w seen ks : List Kept) → AllByRecursion (Has ts) ks → AllByRecursion (Has ts) (left_of w seen ks)
has_left ts w seen [] all = tt
has_left ts w seen (k ∷ ks) all = go (nat_lt (count_of (named k) seen) (count_of (named k) w)) (has_left ts w (seen ++ k ∷ []) ks all.1)
  where
    go : (b : Bool) → AllByRecursion (Has ts) (left_of w (seen ++ k ∷ []) ks) → AllByRecursion (Has ts) (cond b (left_of w (seen ++ k ∷ []) ks) (k ∷ left_of w (seen ++ k ∷ []) ks))
    go true rest = rest
    go false rest = (all.0, rest)

module _ (p : Plan) (q : Question) (plan : IsPlan p q) (w : List Kept) (counts : List ℕ) (c : Cluster) (at : IsAt p w counts c) where
  abbrev pub rest_of : List Kept
  rest_of = left_of w [] p.steps

  abbrev whole : List Kept
  whole = w ++ rest_of

  same : (n : ℕ) → ordered whole n ≡ ordered p.steps n
  same n =
      let later = (at.own n).0 in
      let is = (at.own n).1 in
      let from_all : length (ordered w n) - length (ordered [] n) ≡ length (ordered w n) = omega arith in
      filter-append (is_ordered n) w rest_of ∙ ap (λ (l : List Kept). ordered w n ++ l)
      (ordered_left w [] p.steps n ∙ ap (λ m. drop m (ordered p.steps n)) from_all ∙ (λ i. drop (length (ordered w n)) (is i)) ∙ drop_first (ordered w n) later) ∙ sym is

  count_whole : (t : Turn) → t.recorded ≡ count_of t p.steps → count_of t whole ≡ count_of t w + (t.recorded - count_of t w)
  count_whole t recorded = let both = count_append t w rest_of in let left = count_left w [] p.steps t in omega (arith, both, left, recorded)

  fits_one : (t : Turn) → t.recorded ≡ count_of t p.steps → count_of t w - t.recorded ≤ t.recorded → is_whole_by t.delivers t.recorded (count_of t whole) ≡ true
  fits_one t recorded twice = go t.delivers
    where
      go : (o : Option (ℕ × ℕ)) → is_whole_by o t.recorded (count_of t whole) ≡ true
      go None = le-leb t.recorded (count_of t whole) (let is = count_whole t recorded in omega (arith, is))
      go (Some m) = le-leb (count_of t whole - t.recorded) t.recorded (let is = count_whole t recorded in omega (arith, is, twice))

  fits : (ts : List Turn) → AllByRecursion (λ (t : Turn). t.recorded ≡ count_of t p.steps) ts → AllByRecursion (λ (t : Turn). count_of t w - t.recorded ≤ t.recorded) ts → FitsAll whole ts
  fits [] recorded twice = tt
  fits (t ∷ ts) recorded twice = (fits_one t recorded.0 twice.0, fits ts recorded.1 twice.1)

  none_missing : (ts : List Turn) → AllByRecursion (λ (t : Turn). t.recorded ≡ count_of t p.steps) ts → AllByRecursion (λ (t : Turn). t.recorded - count_of t whole ≡ 0) ts
  none_missing [] recorded = tt
  none_missing (t ∷ ts) recorded = ((let is = count_whole t recorded.0 in omega (arith, is)), none_missing ts recorded.1)

  no_more : (ts : List Turn) → AllByRecursion (λ (t : Turn). t.recorded ≡ count_of t p.steps) ts →
      AllByRecursion (λ (t : Turn). count_of t whole - t.recorded ≤ count_of t w - t.recorded) ts
  no_more [] recorded = tt
  no_more (t ∷ ts) recorded = ((let is = count_whole t recorded.0 in omega (arith, is)), no_more ts recorded.1)

  are : AreTurns p.steps p.turns
  are = turns_are p q plan

  ends : is_end p.turns (counts_of p.turns whole) p.lost p.again ≡ true
  ends = λ i. fits_whole p.turns whole [] (fits p.turns are.recorded at.within.twice) i && (
      le-leb (missing p.turns (counts_of p.turns whole) 0) p.lost
      (let is = missing_is p.turns whole [] in let none = total_zero (λ t. t.recorded - count_of t whole) p.turns (none_missing p.turns are.recorded) in omega (arith, is, none)) i
      && le-leb (extra p.turns (counts_of p.turns whole) 0) p.again
      (let is = extra_is p.turns whole [] in let was = extra_is p.turns w [] in
      let le = total_le (λ t. count_of t whole - t.recorded) (λ t. count_of t w - t.recorded) p.turns (no_more p.turns are.recorded) in let most = at.within.again in omega (arith, is, was, le, most)) i)

  all_recorded : AllByRecursion (Has p.turns) p.steps
  all_recorded = all_places (Has p.turns) p.steps (λ place k here. subst (λ (ts : List Turn). Has ts k) (sym plan.turns) (each_has p.steps p.count place k here))

  pub goes_on : IsNetworkRun p.steps p.lost p.again (w ++ rest_of)
  goes_on =
      ends_run p.steps whole p.lost p.again p.turns are all_recorded (all_append (Has p.turns) w rest_of (all_have p q plan w counts c at) (has_left p.turns w [] p.steps all_recorded))
      (λ n. ([], sym (same n) ∙ sym (append-nil (ordered whole n)))) ends same
