-- The turns of a run: each step is of one, and of no two.
use Rattle.std.proofs.Common.{◌≡◌, ◌⊎◌, inl, inr, ℕ, zero, suc, ◌+◌, ◌<◌, ◌≤◌, ◌==◌, ◌&&◌, Bool, true, false, cond, List, [], ◌∷◌, ◌++◌, length, slice_get, Option, Some, None, refl, sym, ap, ◌∙◌, subst, append_assoc, append-nil, true≢false, arith}
use Rattle.std.proofs.lemmas.Bool.{ne_eqb}
use Rattle.std.specs.List.{AllByRecursion}
use Rattle.std.specs.Option.{is_some}
use Rattle.journal_core.specs.Journals.{Kept}
use Rattle.network_rules.specs.declared.turn.Turn.{Turn}
use Rattle.explore_network.specs.Turns.{count_of, noted, noted_all, own_turns, place_from, place_of, turn_of, turns_of}
use Rattle.network_rules.specs.Turns.{delivery_of, is_of, same_message}
use Rattle.explore_network.proofs.TurnKinds.{of_named}

more_cases : (n m : ℕ) → (n < m) ⊎ (n ≡ m) → (suc n < suc m) ⊎ (suc n ≡ suc m)
more_cases n m (inl h) = inl (omega (arith, h))
more_cases n m (inr h) = inr (ap suc h)

cases : (n m : ℕ) → n ≤ m → (n < m) ⊎ (n ≡ m)
cases zero zero h = inr refl
cases zero (suc m) h = inl (omega arith)
cases (suc n) zero h = absurd (omega (arith, h))
cases (suc n) (suc m) h = more_cases n m (cases n m (omega (arith, h)))

-- where a step is found

pub record Found (ts : List Turn) (k : Kept) (i : ℕ) : Type 0 where
  pub turn : Turn
  pub at : slice_get ts i ≡ Some turn
  pub is : is_of turn k ≡ true

pub record FoundFrom (n : ℕ) (ts : List Turn) (k : Kept) (i : ℕ) : Type 0 where
  pub off : ℕ
  pub at : i ≡ n + off
  pub found : Found ts k off

found_from : (n : ℕ) (ts : List Turn) (k : Kept) (i : ℕ) → place_from n ts k ≡ Some i → FoundFrom n ts k i
found_from n [] k i h = absurd (cc)
found_from n (t ∷ ts) k i h = go (is_of t k) refl h (λ h. found_from (suc n) ts k i h)
  where
    go : (b : Bool) → is_of t k ≡ b → cond b (Some n) (place_from (suc n) ts k) ≡ Some i → (place_from (suc n) ts k ≡ Some i → FoundFrom (suc n) ts k i) → FoundFrom n (t ∷ ts) k i
    go true is h rest = record { off = 0; at = (let same : n ≡ i = cc in omega (arith, same)); found = record { turn = t; at = refl; is = is } }
    go false is h rest =
        let later = rest h in
        record { off = suc later.off; at = (let at = later.at in omega (arith, at)); found = record { turn = later.found.turn; at = later.found.at; is = later.found.is } }

pub found : (ts : List Turn) (k : Kept) (i : ℕ) → place_of ts k ≡ Some i → Found ts k i
found ts k i h = let f = found_from 0 ts k i h in let same : f.off ≡ i = (let at = f.at in omega (arith, at)) in subst (Found ts k) same f.found

pub missed : (n : ℕ) (ts : List Turn) (k : Kept) → place_from n ts k ≡ None → AllByRecursion (λ (t : Turn). is_of t k ≡ false) ts
missed n [] k h = tt
missed n (t ∷ ts) k h = go (is_of t k) refl h (λ h. missed (suc n) ts k h)
  where
    go : (b : Bool) → is_of t k ≡ b → cond b (Some n) (place_from (suc n) ts k) ≡ None → (place_from (suc n) ts k ≡ None → AllByRecursion (λ (t : Turn). is_of t k ≡ false) ts) →
        AllByRecursion (λ (t : Turn). is_of t k ≡ false) (t ∷ ts)
    go true is h rest = absurd (cc)
    go false is h rest = (is, rest h)

pub not_missed : (n i : ℕ) (ts : List Turn) (k : Kept) → Found ts k i → place_from n ts k ≡ None → ⊥
not_missed n i ts k f h = all_false ts i (missed n ts k h) f.at
  where
    all_false : (ts : List Turn) (i : ℕ) → AllByRecursion (λ (t : Turn). is_of t k ≡ false) ts → slice_get ts i ≡ Some f.turn → ⊥
    all_false [] i all at = absurd (cc)
    all_false (t ∷ ts) zero all at = let same : t ≡ f.turn = cc in true≢false (sym f.is ∙ ap (λ (t : Turn). is_of t k) (sym same) ∙ all.0)
    all_false (t ∷ ts) (suc i) all at = all_false ts i all.1 at

-- behind more turns

pub get_first : {X : Type 0} (xs ys : List X) (i : ℕ) (x : X) → slice_get xs i ≡ Some x → slice_get (xs ++ ys) i ≡ Some x
get_first [] ys i x h = absurd (cc)
get_first (y ∷ xs) ys zero x h = h
get_first (y ∷ xs) ys (suc i) x h = get_first xs ys i x h

pub get_next : {X : Type 0} (xs ys : List X) (y : X) → slice_get (xs ++ y ∷ ys) (length xs) ≡ Some y
get_next [] ys y = refl
get_next (x ∷ xs) ys y = get_next xs ys y

pub all_append : {X : Type 0} (P : X → Type 0) (xs ys : List X) → AllByRecursion P xs → AllByRecursion P ys → AllByRecursion P (xs ++ ys)
all_append P [] ys a b = b
all_append P (x ∷ xs) ys a b = (a.0, all_append P xs ys a.1 b)

abbrev pub Has : List Turn → Kept → Type 0
Has ts k = (i : ℕ) × Found ts k i

has_first : (ts more : List Turn) (k : Kept) → Has ts k → Has (ts ++ more) k
has_first ts more k (i, f) = (i, record { turn = f.turn; at = get_first ts more i f.turn f.at; is = f.is })

-- turns that are the same

abbrev pub same_turn : Turn → Turn → Bool
same_turn t u = (u.node == t.node) && same_message t.delivers u.delivers

abbrev pub AreApart : List Turn → Type 0
AreApart [] = Unit {0}
AreApart (t ∷ ts) = AllByRecursion (λ (u : Turn). same_turn t u ≡ false) ts × AreApart ts

apart_push : (ts : List Turn) (u : Turn) → AreApart ts → AllByRecursion (λ (t : Turn). same_turn t u ≡ false) ts → AreApart (ts ++ u ∷ [])
apart_push [] u a all = (tt, tt)
apart_push (t ∷ ts) u a all = (all_append (λ (v : Turn). same_turn t v ≡ false) ts (u ∷ []) a.0 (all.0, tt), apart_push ts u a.1 all.1)

-- a list of turns of steps j
pub record AreTurns (j : List Kept) (ts : List Turn) : Type 0 where
  pub recorded : AllByRecursion (λ (t : Turn). t.recorded ≡ count_of t j) ts
  pub apart : AreApart ts

module _ (j : List Kept) where
  push : (ts : List Turn) (node : ℕ) (delivers : Option (ℕ × ℕ)) → AreTurns j ts → AllByRecursion (λ (t : Turn). same_turn t (turn_of j node delivers) ≡ false) ts →
      AreTurns j (ts ++ turn_of j node delivers ∷ [])
  push ts node delivers a new = record {
    recorded = all_append (λ (t : Turn). t.recorded ≡ count_of t j) ts (turn_of j node delivers ∷ []) a.recorded (refl, tt);
    apart = apart_push ts (turn_of j node delivers) a.apart new;
  }

  note_one : (ts : List Turn) (k : Kept) → AreTurns j ts → AreTurns j (noted j ts k) × Has (noted j ts k) k
  note_one ts k a = go (place_of ts k) refl
    where
      go : (o : Option ℕ) → place_of ts k ≡ o →
          AreTurns j (cond (is_some o) ts (ts ++ turn_of j k.node (delivery_of k.step) ∷ [])) × Has (cond (is_some o) ts (ts ++ turn_of j k.node (delivery_of k.step) ∷ [])) k
      go (Some i) is = (a, (i, found ts k i is))
      go None is = (
        push ts k.node (delivery_of k.step) a (missed 0 ts k is),
        (length ts, record { turn = turn_of j k.node (delivery_of k.step); at = get_next ts [] (turn_of j k.node (delivery_of k.step)); is = of_named k }),
      )

  noted_more : (ts : List Turn) (k : Kept) → (more : List Turn) × (noted j ts k ≡ ts ++ more)
  noted_more ts k = go (place_of ts k)
    where
      go : (o : Option ℕ) → (more : List Turn) × (cond (is_some o) ts (ts ++ turn_of j k.node (delivery_of k.step) ∷ []) ≡ ts ++ more)
      go (Some i) = ([], sym (append-nil ts))
      go None = (turn_of j k.node (delivery_of k.step) ∷ [], refl)

  all_more : (ts : List Turn) (ks : List Kept) → (more : List Turn) × (noted_all j ts ks ≡ ts ++ more)
  unfolding noted_all
  all_more ts [] = ([], sym (append-nil ts))
  all_more ts (k ∷ ks) =
      let one = noted_more ts k in
      let rest = all_more (noted j ts k) ks in
      (one.0 ++ rest.0, rest.1 ∙ ap (λ (l : List Turn). l ++ rest.0) one.1 ∙ append_assoc ts one.0 rest.0)

  noted_turns : (ts : List Turn) (ks : List Kept) → AreTurns j ts → AreTurns j (noted_all j ts ks)
  unfolding noted_all
  noted_turns ts [] a = a
  noted_turns ts (k ∷ ks) a = noted_turns (noted j ts k) ks (note_one ts k a).0

  noted_has : (ts : List Turn) (ks : List Kept) (p : ℕ) (k : Kept) → AreTurns j ts → slice_get ks p ≡ Some k → Has (noted_all j ts ks) k
  unfolding noted_all
  noted_has ts [] p k a at = absurd (cc)
  noted_has ts (x ∷ ks) zero k a at =
      let same : x ≡ k = cc in
      let more = all_more (noted j ts x) ks in
      subst (Has (noted_all j (noted j ts x) ks)) same (subst (λ (l : List Turn). Has l x) (sym more.1) (has_first (noted j ts x) more.0 x (note_one ts x a).1))
  noted_has ts (x ∷ ks) (suc p) k a at = noted_has (noted j ts x) ks p k (note_one ts x a).0 at

  below : (n : ℕ) → AllByRecursion (λ (t : Turn). t.node < n) (own_turns j n)
  below zero = tt
  below (suc n) = all_append (λ (t : Turn). t.node < suc n) (own_turns j n) (turn_of j n None ∷ []) (wider (own_turns j n) (below n)) (omega arith, tt)
    where
      wider : (ts : List Turn) → AllByRecursion (λ (t : Turn). t.node < n) ts → AllByRecursion (λ (t : Turn). t.node < suc n) ts
      wider [] all = tt
      wider (t ∷ ts) all = ((let lt = all.0 in omega (arith, lt)), wider ts all.1)

  other_own : (n : ℕ) (ts : List Turn) → AllByRecursion (λ (t : Turn). t.node < n) ts → AllByRecursion (λ (t : Turn). same_turn t (turn_of j n None) ≡ false) ts
  other_own n [] all = tt
  other_own n (t ∷ ts) all =
      (ap (λ b. b && same_message t.delivers None) (ne_eqb n t.node (λ e. (let lt = all.0 in let same = e in absurd (omega (arith, lt, same))))), other_own n ts all.1)

  own_are : (n : ℕ) → AreTurns j (own_turns j n)
  own_are zero = record { recorded = tt; apart = tt }
  own_are (suc n) = push (own_turns j n) n None (own_are n) (other_own n (own_turns j n) (below n))

  long : (n : ℕ) → length (own_turns j n) ≡ n
  long zero = refl
  long (suc n) = more (own_turns j n) ∙ ap suc (long n)
    where
      more : (ts : List Turn) → length (ts ++ turn_of j n None ∷ []) ≡ suc (length ts)
      more [] = refl
      more (t ∷ ts) = ap suc (more ts)

  own_at : (n count : ℕ) → n < count → slice_get (own_turns j count) n ≡ Some (turn_of j n None)
  own_at n zero lt = absurd (omega (arith, lt))
  own_at n (suc count) lt = go (cases n count (omega (arith, lt))) (λ lt. own_at n count lt)
    where
      go : (n < count) ⊎ (n ≡ count) → (n < count → slice_get (own_turns j count) n ≡ Some (turn_of j n None)) → slice_get (own_turns j count ++ turn_of j count None ∷ []) n ≡ Some (turn_of j n None)
      go (inl lt) before = get_first (own_turns j count) (turn_of j count None ∷ []) n (turn_of j n None) (before lt)
      go (inr same) before =
          ap (slice_get (own_turns j count ++ turn_of j count None ∷ [])) (same ∙ sym (long count)) ∙ get_next (own_turns j count) [] (turn_of j count None) ∙ ap (λ n. Some (turn_of j n None)) (sym same)

  pub are_turns : (count : ℕ) → AreTurns j (turns_of j count)
  are_turns count = noted_turns (own_turns j count) j (own_are count)

  pub each_has : (count p : ℕ) (k : Kept) → slice_get j p ≡ Some k → Has (turns_of j count) k
  each_has count p k at = noted_has (own_turns j count) j p k (own_are count) at

  pub own_turn_at : (n count : ℕ) → n < count → slice_get (turns_of j count) n ≡ Some (turn_of j n None)
  own_turn_at n count lt =
      let more = all_more (own_turns j count) j in
      ap (λ (l : List Turn). slice_get l n) more.1 ∙ get_first (own_turns j count) more.0 n (turn_of j n None) (own_at n count lt)
