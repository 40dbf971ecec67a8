-- What comes next, by where the nodes stand.
use Rattle.std.proofs.Common.{◌≡◌, ◌≢◌, ◌⊎◌, inl, inr, ℕ, zero, suc, ◌+◌, ◌-◌, ◌<◌, ◌≤◌, ◌==◌, ◌&&◌, ◌||◌, not, nat_lt, nat_le, Bool, true, false, cond, if◌then◌else◌, List, [], ◌∷◌, ◌++◌, length, drop, set, get_or, slice_get, Option, Some, None, is_some, option_map, unwrap_or, refl, sym, ap, ◌∙◌, subst, append_assoc, append-nil, arith, true≢false, length-append}
use mir.Val.{bool_byte}
use Rattle.std.proofs.lemmas.Bool.{cases_eq, eqb-true, eq-eqb, ne_eqb, and_from, and_parts, lt-ltb, le-ltb, ltb-true, ltb-false, leb-true, le-leb}
use Rattle.std.proofs.lemmas.List.Elements.{filter-append}
use Rattle.std.proofs.lemmas.List.Sums.{length-filter, count_by-le-length}
use Rattle.std.proofs.lemmas.Option.{slice_get_within, slice_get-get_or}
use Rattle.std.specs.List.{list_any, AllByRecursion}
use Rattle.std.specs.Option.{option_and_then}
use Rattle.payload_core.specs.Messages.{numbered}
use Rattle.bench_core.proofs.Clusters.{get-set_same, get-set_other}
use Rattle.order_core.specs.declared.mark.Mark.{Mark}
use Rattle.order_core.specs.declared.ordering.Stand.{Stand}
use Rattle.order_core.specs.Turns.{sent_by, is_there, can_come, next, order_after}
use Rattle.order_core.specs.Marks.{of_mark}
use Rattle.order_core.specs.Stands.{first_of, is_sent, is_ready, left, next_at, sent_at, was_sent, AreStands, IsFirstReady, IsReadyAt}

-- what holds of each mark and its place
abbrev AllAt : (ℕ → Mark → Type 0) → ℕ → List Mark → Type 0
AllAt P place [] = Unit {0}
AllAt P place (m ∷ ms) = P place m × AllAt P (place + 1) ms

cases_lt : (a b : ℕ) → (a < b) ⊎ (b ≤ a)
cases_lt a b = go (nat_lt a b) refl
  where
    go : (c : Bool) → nat_lt a b ≡ c → (a < b) ⊎ (b ≤ a)
    go true is = inl (ltb-true a b is)
    go false is = inr (ltb-false a b is)

all_at : (P : ℕ → Mark → Type 0) (place : ℕ) (ms : List Mark) → ((i : ℕ) (m : Mark) → slice_get ms i ≡ Some m → P (place + i) m) → AllAt P place ms
all_at P place [] each = tt
all_at P place (m ∷ ms) each =
    let here : place + 0 ≡ place = omega arith in (
      subst (λ n. P n m) here (each 0 m refl),
      all_at P (place + 1) ms (λ i x at. let same : place + suc i ≡ (place + 1) + i = omega arith in subst (λ n. P n x) same (each (suc i) x at)),
    )

at_first : (a b : List Mark) (i : ℕ) (m : Mark) → slice_get a i ≡ Some m → slice_get (a ++ b) i ≡ Some m
at_first [] b i m h = absurd (cc)
at_first (x ∷ a) b zero m h = h
at_first (x ∷ a) b (suc i) m h = at_first a b i m h

and_false : (a b : Bool) → b ≡ false → (a && b) ≡ false
and_false true b none = none
and_false false b none = refl

-- the steps that stand before a place and are left
record Before (h : ℕ → ℕ) (place : ℕ) (before : List Mark) : Type 0 where
  low : AllByRecursion (λ (m : Mark). h m.node < place) before
  all : (n : ℕ) → h n < place → list_any (λ (x : Mark). x.node == n) before ≡ true

any_push : (n : ℕ) (b : List Mark) (x : Mark) → list_any (λ (y : Mark). y.node == n) b ≡ true → list_any (λ (y : Mark). y.node == n) (b ++ x ∷ []) ≡ true
any_push n [] x h = absurd (true≢false (sym h))
any_push n (y ∷ b) x h = go (y.node == n) h (any_push n b x)
  where
    go : (c : Bool) → (c || list_any (λ (y : Mark). y.node == n) b) ≡ true →
        (list_any (λ (y : Mark). y.node == n) b ≡ true → list_any (λ (y : Mark). y.node == n) (b ++ x ∷ []) ≡ true) →
        (c || list_any (λ (y : Mark). y.node == n) (b ++ x ∷ [])) ≡ true
    go true h later = refl
    go false h later = later h

any_last : (n : ℕ) (b : List Mark) (x : Mark) → x.node ≡ n → list_any (λ (y : Mark). y.node == n) (b ++ x ∷ []) ≡ true
any_last n [] x is = ap (λ c. c || false) (eq-eqb x.node n is)
any_last n (y ∷ b) x is = go (y.node == n) (any_last n b x is)
  where
    go : (c : Bool) → list_any (λ (y : Mark). y.node == n) (b ++ x ∷ []) ≡ true → (c || list_any (λ (y : Mark). y.node == n) (b ++ x ∷ [])) ≡ true
    go true later = refl
    go false later = later

low_push : (h : ℕ → ℕ) (place : ℕ) (b : List Mark) (x : Mark) → AllByRecursion (λ (m : Mark). h m.node < place) b → h x.node ≤ place →
    AllByRecursion (λ (m : Mark). h m.node < place + 1) (b ++ x ∷ [])
low_push h place [] x low is = (omega arith, tt)
low_push h place (y ∷ b) x low is = (let l = low.0 in omega (arith, l), low_push h place b x low.1 is)

low_more : (h : ℕ → ℕ) (place : ℕ) (b : List Mark) → AllByRecursion (λ (m : Mark). h m.node < place) b → AllByRecursion (λ (m : Mark). h m.node < place + 1) b
low_more h place [] low = tt
low_more h place (y ∷ b) low = (let l = low.0 in omega (arith, l), low_more h place b low.1)

-- none of them is of a node whose next step doesn't stand before the place
none_of : (h : ℕ → ℕ) (place n : ℕ) (b : List Mark) → AllByRecursion (λ (m : Mark). h m.node < place) b → place ≤ h n →
    list_any (λ (y : Mark). y.node == n) b ≡ false
none_of h place n [] low high = refl
none_of h place n (y ∷ b) low high =
    let other : y.node ≢ n = λ e. let same : h y.node ≡ h n = ap h e in let l = low.0 in absurd (omega (arith, l, same, high)) in
    ap (λ c. c || list_any (λ (y : Mark). y.node == n) b) (ne_eqb y.node n other) ∙ none_of h place n b low.1 high

module _ (first : List Mark) (h : ℕ → ℕ) where
  -- a step that can't come: a next step stands there for its own node alone, and where it is the next one of its node, its message wasn't sent
  pub record Waits (place : ℕ) (m : Mark) : Type 0 where
    pub own : (n : ℕ) → h n ≡ place → m.node ≡ n
    pub unsent : h m.node ≡ place → is_there of_mark first m.delivers ≡ false

  waits_can : (place : ℕ) (m : Mark) (b : List Mark) → Waits place m → Before h place b → h m.node ≤ place → can_come of_mark first b m ≡ false
  waits_can place m b w is low = go (cases_eq (h m.node) place)
    where
      go : (h m.node ≡ place) ⊎ (h m.node ≢ place) → (not (list_any (λ (x : Mark). x.node == m.node) b) && is_there of_mark first m.delivers) ≡ false
      go (inl same) = and_false (not (list_any (λ (x : Mark). x.node == m.node) b)) (is_there of_mark first m.delivers) (w.unsent same)
      go (inr other) = ap (λ c. not c && is_there of_mark first m.delivers) (is.all m.node (omega arith))

  -- steps that can't come come later
  record Passed (place : ℕ) (before js rest : List Mark) : Type 0 where
    same : next of_mark first before (left h place (js ++ rest)) ≡ next of_mark first (before ++ left h place js) (left h (place + length js) rest)
    is : Before h (place + length js) (before ++ left h place js)

  pass : (js rest before : List Mark) (place : ℕ) → AllAt Waits place js → Before h place before → Passed place before js rest
  pass [] rest before place waits is =
      let end : place ≡ place + 0 = omega arith in
      record {
        same = ap (λ (b : List Mark). next of_mark first b (left h place rest)) (sym (append-nil before))
            ∙ ap (λ n. next of_mark first (before ++ []) (left h n rest)) end;
        is = subst (λ (b : List Mark). Before h (place + 0) b) (sym (append-nil before)) (subst (λ n. Before h n before) end is);
      }
  pass (x ∷ js) rest before place waits is =
      let p = go (nat_lt place (h x.node)) refl (λ (b : List Mark) (is : Before h (place + 1) b). pass js rest b (place + 1) waits.1 is) in
      record { same = p.same; is = p.is }
    where
      end : (place + 1) + length js ≡ place + suc (length js)
      end = omega arith

      go : (c : Bool) → nat_lt place (h x.node) ≡ c → ((b : List Mark) → Before h (place + 1) b → Passed (place + 1) b js rest) → record {
        same : next of_mark first before (if c then left h (place + 1) (js ++ rest) else x ∷ left h (place + 1) (js ++ rest)) ≡
            next of_mark first (before ++ (if c then left h (place + 1) js else x ∷ left h (place + 1) js)) (left h (place + suc (length js)) rest);
        is : Before h (place + suc (length js)) (before ++ (if c then left h (place + 1) js else x ∷ left h (place + 1) js));
      }
      go true test more =
          let high : place < h x.node = ltb-true place (h x.node) test in
          let here : Before h (place + 1) before = record { low = low_more h place before is.low; all = λ n l. is.all n (below n l high) } in
          let later = more before here in
          record {
            same = later.same ∙ ap (λ n. next of_mark first (before ++ left h (place + 1) js) (left h n rest)) end;
            is = subst (λ n. Before h n (before ++ left h (place + 1) js)) end later.is;
          }
        where
          below : (n : ℕ) → h n < place + 1 → place < h x.node → h n < place
          below n l high = at (cases_eq (h n) place)
            where
              at : (h n ≡ place) ⊎ (h n ≢ place) → h n < place
              at (inl e) = let same : h x.node ≡ h n = ap h (waits.0.own n e) in absurd (omega (arith, same, e, high))
              at (inr d) = omega (arith, l, d)
      go false test more =
          let low : h x.node ≤ place = ltb-false place (h x.node) test in
          let here : Before h (place + 1) (before ++ x ∷ []) =
          record { low = low_push h place before x is.low low; all = λ n l. all_then n (cases_eq (h n) place) l } in
          let later = more (before ++ x ∷ []) here in
          let cut : (before ++ x ∷ []) ++ left h (place + 1) js ≡ before ++ x ∷ left h (place + 1) js = append_assoc before (x ∷ []) (left h (place + 1) js) in
          record {
            same = ap (λ c. if c then Some (x, before ++ left h (place + 1) (js ++ rest)) else next of_mark first (before ++ x ∷ []) (left h (place + 1) (js ++ rest)))
                (waits_can place x before waits.0 is low)
                ∙ later.same
                ∙ ap (λ n. next of_mark first ((before ++ x ∷ []) ++ left h (place + 1) js) (left h n rest)) end
                ∙ ap (λ (b : List Mark). next of_mark first b (left h (place + suc (length js)) rest)) cut;
            is = subst (λ (b : List Mark). Before h (place + suc (length js)) b) cut (subst (λ n. Before h n ((before ++ x ∷ []) ++ left h (place + 1) js)) end later.is);
          }
        where
          all_then : (n : ℕ) → (h n ≡ place) ⊎ (h n ≢ place) → h n < place + 1 → list_any (λ (y : Mark). y.node == n) (before ++ x ∷ []) ≡ true
          all_then n (inl e) l = any_last n before x (waits.0.own n e)
          all_then n (inr d) l = any_push n before x (is.all n (omega (arith, l, d)))

  nothing_before : Before h 0 []
  nothing_before = record { low = tt; all = λ n l. absurd (omega (arith, l)) }

  -- none can come
  pub none_next : (ks : List Mark) → ((i : ℕ) (x : Mark) → slice_get ks i ≡ Some x → Waits i x) → next of_mark first [] (left h 0 ks) ≡ None
  none_next ks waits =
      let p = pass ks [] [] 0 (all_at Waits 0 ks (λ i x at. let same : i ≡ 0 + i = omega arith in subst (λ n. Waits n x) same (waits i x at))) nothing_before in
      ap (λ (l : List Mark). next of_mark first [] (left h 0 l)) (sym (append-nil ks)) ∙ p.same

-- the first step of a node from a place on

pub first_low : (n place : ℕ) (ms : List Mark) → place ≤ first_of n place ms
first_low n place [] = omega arith
first_low n place (m ∷ ms) = go (m.node == n) (first_low n (place + 1) ms)
  where
    go : (c : Bool) → place + 1 ≤ first_of n (place + 1) ms → place ≤ (if c then place else first_of n (place + 1) ms)
    go true later = omega arith
    go false later = omega (arith, later)

first_least : (n place : ℕ) (ms : List Mark) (i : ℕ) (x : Mark) → slice_get ms i ≡ Some x → x.node ≡ n → first_of n place ms ≤ place + i
first_least n place [] i x at is = absurd (cc)
first_least n place (m ∷ ms) zero x at is =
    let same : m ≡ x = cc in
    let test : (m.node == n) ≡ true = eq-eqb m.node n (ap (λ (m : Mark). m.node) same ∙ is) in
    let here : first_of n place (m ∷ ms) ≡ place = ap (λ c. if c then place else first_of n (place + 1) ms) test in
    omega (arith, here)
first_least n place (m ∷ ms) (suc i) x at is = go (m.node == n) (first_least n (place + 1) ms i x at is)
  where
    go : (c : Bool) → first_of n (place + 1) ms ≤ (place + 1) + i → (if c then place else first_of n (place + 1) ms) ≤ place + suc i
    go true later = omega arith
    go false later = omega (arith, later)

first_own : (n place : ℕ) (ms : List Mark) (i : ℕ) (x : Mark) → slice_get ms i ≡ Some x → first_of n place ms ≡ place + i → x.node ≡ n
first_own n place [] i x at is = absurd (cc)
first_own n place (m ∷ ms) zero x at is = go (m.node == n) refl is
  where
    go : (c : Bool) → (m.node == n) ≡ c → (if c then place else first_of n (place + 1) ms) ≡ place + 0 → x.node ≡ n
    go true test is = let same : x ≡ m = cc in ap (λ (m : Mark). m.node) same ∙ eqb-true m.node n test
    go false test is = let low = first_low n (place + 1) ms in absurd (omega (arith, is, low))
first_own n place (m ∷ ms) (suc i) x at is = go (m.node == n) is (first_own n (place + 1) ms i x at)
  where
    go : (c : Bool) → (if c then place else first_of n (place + 1) ms) ≡ place + suc i → (first_of n (place + 1) ms ≡ (place + 1) + i → x.node ≡ n) → x.node ≡ n
    go true is later = absurd (omega (arith, is))
    go false is later = later (omega (arith, is))

pub get_drop : (xs : List Mark) (n i : ℕ) → slice_get (drop n xs) i ≡ slice_get xs (n + i)
get_drop xs zero i = let same : i ≡ 0 + i = omega arith in ap (slice_get xs) same
get_drop [] (suc n) i = refl
get_drop (x ∷ xs) (suc n) i = let same : suc (n + i) ≡ suc n + i = omega arith in get_drop xs n i ∙ ap (slice_get (x ∷ xs)) same

-- what stands at a place of the whole
pub first_at : (ks : List Mark) (n from : ℕ) (x : Mark) → slice_get ks (first_of n from (drop from ks)) ≡ Some x → x.node ≡ n
first_at ks n from x at =
    let low = first_low n from (drop from ks) in
    let i : ℕ = first_of n from (drop from ks) - from in
    let same : first_of n from (drop from ks) ≡ from + i = omega (arith, low) in
    first_own n from (drop from ks) i x (get_drop ks from i ∙ ap (slice_get ks) (sym same) ∙ at) same

first_before : (ks : List Mark) (n from place : ℕ) (x : Mark) → slice_get ks place ≡ Some x → from ≤ place → x.node ≡ n → first_of n from (drop from ks) ≤ place
first_before ks n from place x at low is =
    let i : ℕ = place - from in
    let same : place ≡ from + i = omega (arith, low) in
    let least = first_least n from (drop from ks) i x (get_drop ks from i ∙ ap (slice_get ks) (sym same) ∙ at) is in
    omega (arith, least, same)

-- what is left

left_append : (h : ℕ → ℕ) (place : ℕ) (a b : List Mark) → left h place (a ++ b) ≡ left h place a ++ left h (place + length a) b
left_append h place [] b = let same : place ≡ place + 0 = omega arith in ap (λ n. left h n b) same
left_append h place (x ∷ a) b = go (nat_lt place (h x.node)) (left_append h (place + 1) a b)
  where
    same : (place + 1) + length a ≡ place + suc (length a)
    same = omega arith

    go : (c : Bool) → left h (place + 1) (a ++ b) ≡ left h (place + 1) a ++ left h ((place + 1) + length a) b →
        (if c then left h (place + 1) (a ++ b) else x ∷ left h (place + 1) (a ++ b)) ≡
        (if c then left h (place + 1) a else x ∷ left h (place + 1) a) ++ left h (place + suc (length a)) b
    go true later = later ∙ ap (λ n. left h (place + 1) a ++ left h n b) same
    go false later = ap (λ (l : List Mark). x ∷ l) (later ∙ ap (λ n. left h (place + 1) a ++ left h n b) same)

left_alike : (h g : ℕ → ℕ) (place : ℕ) (ms : List Mark) → AllAt (λ n x. nat_lt n (h x.node) ≡ nat_lt n (g x.node)) place ms → left h place ms ≡ left g place ms
left_alike h g place [] same = refl
left_alike h g place (x ∷ ms) same =
    ap (λ c. if c then left h (place + 1) ms else x ∷ left h (place + 1) ms) same.0
    ∙ ap (λ (l : List Mark). if nat_lt place (g x.node) then l else x ∷ l) (left_alike h g (place + 1) ms same.1)

-- all is left where no step stands behind the next one of its node
pub all_left : (h : ℕ → ℕ) (ks : List Mark) → ((i : ℕ) (x : Mark) → slice_get ks i ≡ Some x → h x.node ≤ i) → left h 0 ks ≡ ks
all_left h ks each = go 0 ks (all_at (λ n x. h x.node ≤ n) 0 ks (λ i x at. let low = each i x at in omega (arith, low)))
  where
    go : (place : ℕ) (ms : List Mark) → AllAt (λ n x. h x.node ≤ n) place ms → left h place ms ≡ ms
    go place [] low = refl
    go place (x ∷ ms) low =
        ap (λ c. if c then left h (place + 1) ms else x ∷ left h (place + 1) ms) (le-ltb place (h x.node) low.0)
        ∙ ap (λ (l : List Mark). x ∷ l) (go (place + 1) ms low.1)

-- a list, cut at a place
record Cut (ks : List Mark) (place : ℕ) (m : Mark) : Type 0 where
  before : List Mark
  after : List Mark
  is : ks ≡ before ++ m ∷ after
  long : length before ≡ place

cut : (ks : List Mark) (place : ℕ) (m : Mark) → slice_get ks place ≡ Some m → Cut ks place m
cut [] place m at = absurd (cc)
cut (x ∷ ks) zero m at = let same : x ≡ m = cc in record { before = []; after = ks; is = ap (λ (y : Mark). y ∷ ks) same; long = refl }
cut (x ∷ ks) (suc place) m at =
    let c = cut ks place m at in
    record { before = x ∷ c.before; after = c.after; is = ap (λ (l : List Mark). x ∷ l) c.is; long = ap suc c.long }

get_behind : (a b : List Mark) (m : Mark) (i : ℕ) → slice_get (a ++ m ∷ b) ((length a + 1) + i) ≡ slice_get b i
get_behind [] b m i = let same : (0 + 1) + i ≡ suc i = omega arith in ap (slice_get (m ∷ b)) same
get_behind (x ∷ a) b m i =
    let same : (suc (length a) + 1) + i ≡ suc ((length a + 1) + i) = omega arith in ap (slice_get (x ∷ (a ++ m ∷ b))) same ∙ get_behind a b m i

-- a step comes, and its node stands at the next one
module _ (first ks : List Mark) (h g : ℕ → ℕ) (place : ℕ) (m : Mark) (at : slice_get ks place ≡ Some m) (here : h m.node ≡ place)
    (other : (n : ℕ) → n ≢ m.node → g n ≡ h n) (moved : g m.node ≡ first_of m.node (place + 1) (drop (place + 1) ks))
    (there : is_there of_mark first m.delivers ≡ true) (waits : (i : ℕ) (x : Mark) → slice_get ks i ≡ Some x → i < place → Waits first h i x) where
  on : place < g m.node
  on = let low = first_low m.node (place + 1) (drop (place + 1) ks) in omega (arith, low, moved)

  alike : (i : ℕ) (x : Mark) → slice_get ks i ≡ Some x → i ≢ place → nat_lt i (h x.node) ≡ nat_lt i (g x.node)
  alike i x is apart = go (cases_eq x.node m.node) (cases_lt i place)
    where
      go : (x.node ≡ m.node) ⊎ (x.node ≢ m.node) → (i < place) ⊎ (place ≤ i) → nat_lt i (h x.node) ≡ nat_lt i (g x.node)
      go (inr d) side = ap (nat_lt i) (sym (other x.node d))
      go (inl e) (inl low) =
          let one : h x.node ≡ place = ap h e ∙ here in
          let two : g x.node ≡ g m.node = ap g e in
          lt-ltb i (h x.node) (omega (arith, one, low)) ∙ sym (lt-ltb i (g x.node) (omega (arith, two, low, on)))
      go (inl e) (inr high) =
          let one : h x.node ≡ place = ap h e ∙ here in
          let two : g x.node ≡ g m.node = ap g e in
          let least = first_before ks m.node (place + 1) i x is (omega (arith, high, apart)) e in
          le-ltb i (h x.node) (omega (arith, one, high)) ∙ sym (le-ltb i (g x.node) (omega (arith, two, moved, least)))

  c : Cut ks place m
  c = cut ks place m at

  in_before : (i : ℕ) (x : Mark) → slice_get c.before i ≡ Some x → (slice_get ks i ≡ Some x) × (i < place)
  in_before i x is = (
    ap (λ (l : List Mark). slice_get l i) c.is ∙ at_first c.before (m ∷ c.after) i x is,
    let low = slice_get_within c.before i x is in let long = c.long in omega (arith, low, long),
  )

  in_after : (i : ℕ) (x : Mark) → slice_get c.after i ≡ Some x → slice_get ks ((place + 1) + i) ≡ Some x
  in_after i x is =
      ap (λ (l : List Mark). slice_get l ((place + 1) + i)) c.is ∙ ap (λ n. slice_get (c.before ++ m ∷ c.after) ((n + 1) + i)) (sym c.long)
      ∙ get_behind c.before c.after m i ∙ is

  start : 0 + length c.before ≡ place
  start = let long = c.long in omega (arith, long)

  before_alike : left h 0 c.before ≡ left g 0 c.before
  before_alike = left_alike h g 0 c.before (all_at (λ n x. nat_lt n (h x.node) ≡ nat_lt n (g x.node)) 0 c.before
      (λ i x is. let b = in_before i x is in let low = b.1 in let same : i ≡ 0 + i = omega arith in
      subst (λ n. nat_lt n (h x.node) ≡ nat_lt n (g x.node)) same (alike i x b.0 (λ e. absurd (omega (arith, low, e))))))

  after_alike : left h (place + 1) c.after ≡ left g (place + 1) c.after
  after_alike = left_alike h g (place + 1) c.after (all_at (λ n x. nat_lt n (h x.node) ≡ nat_lt n (g x.node)) (place + 1) c.after
      (λ i x is. alike ((place + 1) + i) x (in_after i x is) (λ e. absurd (omega (arith, e)))))

  left_then : left g 0 ks ≡ left h 0 c.before ++ left h (place + 1) c.after
  left_then =
      ap (left g 0) c.is ∙ left_append g 0 c.before (m ∷ c.after) ∙ ap (λ n. left g 0 c.before ++ left g n (m ∷ c.after)) start
      ∙ ap (λ b. left g 0 c.before ++ (if b then left g (place + 1) c.after else m ∷ left g (place + 1) c.after)) (lt-ltb place (g m.node) on)
      ∙ ap (λ (l : List Mark). l ++ left g (place + 1) c.after) (sym before_alike)
      ∙ ap (λ (l : List Mark). left h 0 c.before ++ l) (sym after_alike)

  pub came : next of_mark first [] (left h 0 ks) ≡ Some (m, left g 0 ks)
  came =
      let p = pass first h c.before (m ∷ c.after) [] 0 (all_at (Waits first h) 0 c.before
      (λ i x is. let b = in_before i x is in let same : i ≡ 0 + i = omega arith in subst (λ n. Waits first h n x) same (waits i x b.0 b.1)))
      (nothing_before first h) in
      let low : place ≤ h m.node = omega (arith, here) in
      let none = none_of h place m.node (left h 0 c.before) (subst (λ n. AllByRecursion (λ (x : Mark). h x.node < n) (left h 0 c.before)) start p.is.low) low in
      let can : can_come of_mark first (left h 0 c.before) m ≡ true =
      and_from (not (list_any (λ (x : Mark). x.node == m.node) (left h 0 c.before))) (is_there of_mark first m.delivers) (ap not none) there in
      ap (λ (l : List Mark). next of_mark first [] (left h 0 l)) c.is
      ∙ p.same
      ∙ ap (λ n. next of_mark first (left h 0 c.before) (left h n (m ∷ c.after))) start
      ∙ ap (λ b. next of_mark first (left h 0 c.before) (if b then left h (place + 1) c.after else m ∷ left h (place + 1) c.after))
      (le-ltb place (h m.node) (omega (arith, here)))
      ∙ ap (λ b. if b then Some (m, left h 0 c.before ++ left h (place + 1) c.after) else next of_mark first (left h 0 c.before ++ m ∷ []) (left h (place + 1) c.after)) can
      ∙ ap (λ (l : List Mark). Some (m, l)) (sym left_then)

-- a message by its number
some_low : {A : Type 0} (xs : List A) (p : ℕ) → is_some (numbered xs p) ≡ true → (0 < p) × (p ≤ length xs)
some_low xs zero h = absurd (true≢false (sym h))
some_low [] (suc p) h = absurd (true≢false (sym h))
some_low (x ∷ xs) (suc zero) h = (omega arith, omega arith)
some_low (x ∷ xs) (suc (suc p)) h = let l = some_low xs (suc p) h in let low = l.1 in (omega arith, omega (arith, low))

low_some : {A : Type 0} (xs : List A) (p : ℕ) → 0 < p → p ≤ length xs → is_some (numbered xs p) ≡ true
low_some xs zero high low = absurd (omega (arith, high))
low_some [] (suc p) high low = absurd (omega (arith, low))
low_some (x ∷ xs) (suc zero) high low = refl
low_some (x ∷ xs) (suc (suc p)) high low = low_some xs (suc p) (omega arith) (omega (arith, low))

same_test : (a b : Bool) → (a ≡ true → b ≡ true) → (b ≡ true → a ≡ true) → a ≡ b
same_test true true f g = refl
same_test true false f g = sym (f refl)
same_test false true f g = g refl
same_test false false f g = refl

sent_one : {A : Type 0} (o : Option Stand) (p : ℕ) (xs : List A) → unwrap_or (option_map (λ (s : Stand). s.sent) o) 0 ≡ length xs → is_sent o p ≡ is_some (numbered xs p)
sent_one None p xs long =
    same_test false (is_some (numbered xs p)) (λ h. absurd (true≢false (sym h)))
    (λ h. let l = some_low xs p h in let high = l.0 in let low = l.1 in absurd (omega (arith, high, low, long)))
sent_one (Some s) p xs long =
    same_test (nat_lt 0 p && nat_le p s.sent) (is_some (numbered xs p))
    (λ h. let parts = and_parts (nat_lt 0 p) (nat_le p s.sent) h in
    let low = leb-true p s.sent parts.1 in
    low_some xs p (ltb-true 0 p parts.0) (omega (arith, low, long)))
    (λ h. let l = some_low xs p h in
    let low = l.1 in
    and_from (nat_lt 0 p) (nat_le p s.sent) (lt-ltb 0 p l.0) (le-leb p s.sent (omega (arith, low, long))))

pub sent_there : (first : List Mark) (ss : List Stand) (o : Option (ℕ × ℕ)) → ((n : ℕ) → sent_at ss n ≡ length (sent_by of_mark first n)) →
    was_sent ss o ≡ is_there of_mark first o
sent_there first ss None sent = refl
sent_there first ss (Some m) sent = sent_one (slice_get ss m.0) m.1 (sent_by of_mark first m.0) (sent m.0)

-- one more step sends
pub sent_push : (first : List Mark) (m : Mark) (n : ℕ) →
    length (sent_by of_mark (first ++ m ∷ []) n) ≡ length (sent_by of_mark first n) + cond ((m.node == n) && m.sends) 1 0
sent_push first m n =
    ap length (filter-append (λ k. (k.node == n) && k.sends) first (m ∷ []))
    ∙ length-append (sent_by of_mark first n) (cond ((m.node == n) && m.sends) (m ∷ []) [])
    ∙ ap (λ k. length (sent_by of_mark first n) + k) (go ((m.node == n) && m.sends))
  where
    go : (b : Bool) → length (cond b (m ∷ []) []) ≡ cond b 1 0
    go true = refl
    go false = refl

pub sent_few : (first : List Mark) (n : ℕ) → length (sent_by of_mark first n) ≤ length first
sent_few first n =
    let same = length-filter (λ (k : Mark). (k.node == n) && k.sends) first in
    let low = count_by-le-length (λ (k : Mark). (k.node == n) && k.sends) first in
    omega (arith, same, low)

-- what a node sent is no more than what came
pub sent_of : (ks first : List Mark) (ss : List Stand) (n : ℕ) (s : Stand) → AreStands ks first ss → slice_get ss n ≡ Some s → s.sent ≤ length first
sent_of ks first ss n s old stands =
    let counted = old.sent n in
    let now : sent_at ss n ≡ s.sent = ap (λ (o : Option Stand). unwrap_or (option_map (λ (s : Stand). s.sent) o) 0) stands in
    let few = sent_few first n in
    omega (arith, counted, now, few)

-- a test as a number
pub one_more : (b : Bool) → bool_byte b ≡ cond b 1 0
one_more true = refl
one_more false = refl

pub at_most_one : (b : Bool) → bool_byte b ≤ 1
at_most_one true = omega arith
at_most_one false = omega arith

-- where the nodes stand before the first step
pub begins : (ks : List Mark) (ss : List Stand) → ((n : ℕ) (s : Stand) → slice_get ss n ≡ Some s → (s.next ≡ first_of n 0 ks) × (s.sent ≡ 0)) → AreStands ks [] ss
begins ks ss each = record { own = λ n m at. own n m at (slice_get ss n) refl; sent = λ n. sent n (slice_get ss n) refl }
  where
    own : (n : ℕ) (m : Mark) → slice_get ks (next_at ks ss n) ≡ Some m → (o : Option Stand) → slice_get ss n ≡ o → m.node ≡ n
    own n m at None is =
        let past : next_at ks ss n ≡ length ks = ap (λ (o : Option Stand). unwrap_or (option_map (λ (s : Stand). s.next) o) (length ks)) is in
        let low = slice_get_within ks (next_at ks ss n) m at in
        absurd (omega (arith, past, low))
    own n m at (Some s) is =
        let next : next_at ks ss n ≡ s.next = ap (λ (o : Option Stand). unwrap_or (option_map (λ (s : Stand). s.next) o) (length ks)) is in
        first_at ks n 0 m (ap (slice_get ks) (sym (next ∙ (each n s is).0)) ∙ at)

    sent : (n : ℕ) (o : Option Stand) → slice_get ss n ≡ o → sent_at ss n ≡ 0
    sent n None is = ap (λ (o : Option Stand). unwrap_or (option_map (λ (s : Stand). s.sent) o) 0) is
    sent n (Some s) is = ap (λ (o : Option Stand). unwrap_or (option_map (λ (s : Stand). s.sent) o) 0) is ∙ (each n s is).1

pub all_begin : (ks : List Mark) (ss : List Stand) → ((n : ℕ) (s : Stand) → slice_get ss n ≡ Some s → (s.next ≡ first_of n 0 ks) × (s.sent ≡ 0)) →
    ((i : ℕ) (m : Mark) → slice_get ks i ≡ Some m → m.node < length ss) → left (next_at ks ss) 0 ks ≡ ks
all_begin ks ss each known = all_left (next_at ks ss) ks (λ i x at. go i x at (slice_get ss x.node) refl)
  where
    go : (i : ℕ) (x : Mark) → slice_get ks i ≡ Some x → (o : Option Stand) → slice_get ss x.node ≡ o → next_at ks ss x.node ≤ i
    go i x at None is =
        let some = slice_get-get_or ss x.node (record { next = 0; sent = 0 }) (known i x at) in
        absurd (let none : None ≡ Some (get_or ss x.node (record { next = 0; sent = 0 })) = sym is ∙ some in cc)
    go i x at (Some s) is =
        let next : next_at ks ss x.node ≡ s.next = ap (λ (o : Option Stand). unwrap_or (option_map (λ (s : Stand). s.next) o) (length ks)) is in
        let first = (each x.node s is).0 in
        let least = first_before ks x.node 0 i x at (omega arith) refl in
        omega (arith, next, first, least)

module _ (ks first : List Mark) (ss : List Stand) (place : ℕ) (old : AreStands ks first ss) (is : IsFirstReady ks ss place) where
  -- the steps before the place can't come
  waiting : (i : ℕ) (x : Mark) → slice_get ks i ≡ Some x → i < place → Waits first (next_at ks ss) i x
  waiting i x at low = record {
    own = λ n here. old.own n x (ap (slice_get ks) here ∙ at);
    unsent = λ here. go here (slice_get ss x.node) refl;
  }
    where
      go : next_at ks ss x.node ≡ i → (o : Option Stand) → slice_get ss x.node ≡ o → is_there of_mark first x.delivers ≡ false
      go here None none =
          let past : next_at ks ss x.node ≡ length ks = ap (λ (o : Option Stand). unwrap_or (option_map (λ (s : Stand). s.next) o) (length ks)) none in
          let within = slice_get_within ks i x at in
          absurd (omega (arith, past, here, within))
      go here (Some s) some =
          let next : s.next ≡ i = sym (ap (λ (o : Option Stand). unwrap_or (option_map (λ (s : Stand). s.next) o) (length ks)) some) ∙ here in
          sym (sent_there first ss x.delivers old.sent) ∙ ap (is_ready ss) (sym (ap (slice_get ks) next ∙ at))
          ∙ is.others x.node s some (omega (arith, next, low))

  -- no step is there, so none can come
  pub stuck : slice_get ks place ≡ None → next of_mark first [] (left (next_at ks ss) 0 ks) ≡ None
  stuck none = none_next first (next_at ks ss) ks (λ i x at. waiting i x at (low i x at (cases_lt i place)))
    where
      low : (i : ℕ) (x : Mark) → slice_get ks i ≡ Some x → (i < place) ⊎ (place ≤ i) → i < place
      low i x at (inl l) = l
      low i x at (inr high) =
          let within = slice_get_within ks i x at in
          let some = slice_get-get_or ks place x (omega (arith, within, high)) in
          absurd (let bad : None ≡ Some (get_or ks place x) = sym none ∙ some in cc)

  reads : (n : ℕ) (s : Stand) → slice_get ss n ≡ Some s → next_at ks ss n ≡ s.next
  reads n s some = ap (λ (o : Option Stand). unwrap_or (option_map (λ (s : Stand). s.next) o) (length ks)) some

  -- its node is one of them
  pub placed : (m : Mark) → slice_get ks place ≡ Some m → (s : Stand) × (slice_get ss m.node ≡ Some s)
  placed m at =
      let ready : IsReadyAt ks ss place = is.ready (slice_get_within ks place m at) in
      let own = old.own ready.0 m (ap (slice_get ks) (reads ready.0 ready.1 ready.2 ∙ ready.3) ∙ at) in
      (ready.1, ap (slice_get ss) own ∙ ready.2)

  -- the step at the place comes, and its node stands behind it
  module _ (m : Mark) (s t : Stand) (at : slice_get ks place ≡ Some m) (stands : slice_get ss m.node ≡ Some s)
      (next_is : t.next ≡ first_of m.node (place + 1) (drop (place + 1) ks)) (sent_is : t.sent ≡ s.sent + cond m.sends 1 0) where
    ready : IsReadyAt ks ss place
    ready = is.ready (slice_get_within ks place m at)

    here : next_at ks ss m.node ≡ place
    here =
        let next : next_at ks ss ready.0 ≡ place = reads ready.0 ready.1 ready.2 ∙ ready.3 in
        ap (next_at ks ss) (old.own ready.0 m (ap (slice_get ks) next ∙ at)) ∙ next

    there : is_there of_mark first m.delivers ≡ true
    there = sym (sent_there first ss m.delivers old.sent) ∙ ap (is_ready ss) (sym at) ∙ ready.4

    abbrev later : List Stand
    later = set ss m.node t

    stood : slice_get later m.node ≡ Some t
    stood = get-set_same ss m.node s t stands

    other : (n : ℕ) → n ≢ m.node → slice_get later n ≡ slice_get ss n
    other n apart = get-set_other ss m.node n t apart

    next_then : next_at ks later m.node ≡ first_of m.node (place + 1) (drop (place + 1) ks)
    next_then = ap (λ (o : Option Stand). unwrap_or (option_map (λ (s : Stand). s.next) o) (length ks)) stood ∙ next_is

    next_other : (n : ℕ) → n ≢ m.node → next_at ks later n ≡ next_at ks ss n
    next_other n apart = ap (λ (o : Option Stand). unwrap_or (option_map (λ (s : Stand). s.next) o) (length ks)) (other n apart)

    pub comes : next of_mark first [] (left (next_at ks ss) 0 ks) ≡ Some (m, left (next_at ks (set ss m.node t)) 0 ks)
    comes = came first ks (next_at ks ss) (next_at ks later) place m at here next_other next_then there waiting

    own_then : (n : ℕ) (x : Mark) → slice_get ks (next_at ks later n) ≡ Some x → (n ≡ m.node) ⊎ (n ≢ m.node) → x.node ≡ n
    own_then n x found (inl e) =
        first_at ks m.node (place + 1) x (ap (slice_get ks) (sym (ap (next_at ks later) e ∙ next_then)) ∙ found) ∙ sym e
    own_then n x found (inr apart) = old.own n x (ap (slice_get ks) (sym (next_other n apart)) ∙ found)

    sent_then : (n : ℕ) → (n ≡ m.node) ⊎ (n ≢ m.node) → sent_at later n ≡ length (sent_by of_mark (first ++ m ∷ []) n)
    sent_then n (inl e) =
        let now : sent_at later n ≡ t.sent = ap (sent_at later) e ∙ ap (λ (o : Option Stand). unwrap_or (option_map (λ (s : Stand). s.sent) o) 0) stood in
        let before : sent_at ss n ≡ s.sent = ap (sent_at ss) e ∙ ap (λ (o : Option Stand). unwrap_or (option_map (λ (s : Stand). s.sent) o) 0) stands in
        let test : ◌≡◌ {A = ℕ} (cond ((m.node == n) && m.sends) 1 0) (cond m.sends 1 0) =
        ap (λ b. cond (b && m.sends) 1 0) (eq-eqb m.node n (sym e)) in
        let counted = old.sent n in
        let more = sent_push first m n in
        omega (arith, now, before, test, counted, more, sent_is)
    sent_then n (inr apart) =
        let now : sent_at later n ≡ sent_at ss n = ap (λ (o : Option Stand). unwrap_or (option_map (λ (s : Stand). s.sent) o) 0) (other n apart) in
        let test : ◌≡◌ {A = ℕ} (cond ((m.node == n) && m.sends) 1 0) 0 =
        ap (λ b. cond (b && m.sends) 1 0) (ne_eqb m.node n (λ e. apart (sym e))) in
        let counted = old.sent n in
        let more = sent_push first m n in
        omega (arith, now, test, counted, more)

    pub stands_then : AreStands ks (first ++ m ∷ []) (set ss m.node t)
    stands_then = record { own = λ n x found. own_then n x found (cases_eq n m.node); sent = λ n. sent_then n (cases_eq n m.node) }

-- so far as the turns go
pub stops : (n : ℕ) (first rest : List Mark) → 0 < n → next of_mark first [] rest ≡ None → order_after of_mark n first rest ≡ None
stops zero first rest low none = absurd (omega (arith, low))
stops (suc n) first rest low none = ap (option_and_then (λ t. order_after of_mark n (first ++ t.0 ∷ []) t.1)) none

pub goes_on : (n less : ℕ) (first rest left : List Mark) (m : Mark) → n ≡ suc less → next of_mark first [] rest ≡ Some (m, left) →
    order_after of_mark n first rest ≡ order_after of_mark less (first ++ m ∷ []) left
goes_on n less first rest left m is next_is =
    ap (λ n. order_after of_mark n first rest) is ∙ ap (option_and_then (λ t. order_after of_mark less (first ++ t.0 ∷ []) t.1)) next_is
