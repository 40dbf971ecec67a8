-- An order of what the nodes did is found where there is one.
use Rattle.std.proofs.Common.{◌≡◌, ◌≢◌, ℕ, zero, suc, ◌+◌, ◌==◌, ◌&&◌, ◌||◌, not, Bool, true, false, cond, if◌then◌else◌, List, [], ◌∷◌, ◌++◌, length, Option, Some, None, refl, sym, ap, ◌∙◌, subst, append_assoc, append-nil, true≢false, arith, length-append}
use Rattle.std.proofs.lemmas.Bool.{eqb-false, ne_eqb, and_parts, and_from, not-true}
use Rattle.std.specs.List.{list_any}
use Rattle.std.specs.Option.{option_and_then}
use Rattle.node_core.specs.Operations.{Operation, delivers, sends}
use Rattle.journal_core.specs.Journals.{Kept}
use Rattle.order_core.specs.Turns.{can_come, next, order_after}
use Rattle.order_core.specs.Turns as turns
use Rattle.order_core.specs.Orders.{of_step, own, SameOwn, is_there, AreBehind, IsOrderOf, order_of}
use Rattle.order_core.specs.Laws.{OrderOfLaw, FoundRunLaw}
use Rattle.order_core.proofs.Lists.{NoneOf, around, first_around, own_cons, own_first, own_head, nothing_left, same_left, SentMore, count_push, behind_first, behind_more}
use Rattle.order_core.proofs.SameOwn.{behind_holds, order_runs_holds}

-- the test of the nodes
none_any : (n : ℕ) (ks : List Kept) → NoneOf n ks → list_any (λ k. k.node == n) ks ≡ false
none_any n [] none = refl
none_any n (k ∷ ks) none = ap (λ b. b || list_any (λ k. k.node == n) ks) (ne_eqb k.node n none.0) ∙ none_any n ks none.1

any_none : (n : ℕ) (ks : List Kept) → list_any (λ k. k.node == n) ks ≡ false → NoneOf n ks
any_none n [] h = tt
any_none n (k ∷ ks) h = go (k.node == n) refl h (any_none n ks)
  where
    go : (b : Bool) → (k.node == n) ≡ b → (b || list_any (λ k. k.node == n) ks) ≡ false → (list_any (λ k. k.node == n) ks ≡ false → NoneOf n ks) →
        (k.node ≢ n) × NoneOf n ks
    go true is h later = absurd (true≢false h)
    go false is h later = (eqb-false k.node n is, later h)

-- what is next, and what stands around it
record Next (first whole : List Kept) (k : Kept) (left : List Kept) : Type 0 where
  before : List Kept
  after : List Kept
  is : whole ≡ before ++ k ∷ after
  left_is : left ≡ before ++ after
  none : NoneOf k.node before
  there : is_there first (delivers k.step) ≡ true

next_is : (first before ks : List Kept) (t : Kept × List Kept) → next of_step first before ks ≡ Some t → Next first (before ++ ks) t.0 t.1
next_is first before [] t h = absurd (cc)
next_is first before (x ∷ ks) t h = go (can_come of_step first before x) refl h (next_is first (before ++ x ∷ []) ks t)
  where
    go : (b : Bool) → can_come of_step first before x ≡ b → (if b then Some (x, before ++ ks) else next of_step first (before ++ x ∷ []) ks) ≡ Some t →
        (next of_step first (before ++ x ∷ []) ks ≡ Some t → Next first ((before ++ x ∷ []) ++ ks) t.0 t.1) → Next first (before ++ x ∷ ks) t.0 t.1
    go true is h later =
        let parts = and_parts (not (list_any (λ y. y.node == x.node) before)) (is_there first (delivers x.step)) is in
        let same : ◌≡◌ {A = Kept × List Kept} (x, before ++ ks) t = cc in
        subst (λ (t : Kept × List Kept). Next first (before ++ x ∷ ks) t.0 t.1) same
        (record { before = before; after = ks; is = refl; left_is = refl; none = any_none x.node before (not-true _ parts.0); there = parts.1 })
    go false is h later = subst (λ (l : List Kept). Next first l t.0 t.1) (append_assoc before (x ∷ []) ks) (later h)

next_some : (first before b a : List Kept) (k : Kept) → NoneOf k.node (before ++ b) → is_there first (delivers k.step) ≡ true →
    (t : Kept × List Kept) × (next of_step first before (b ++ k ∷ a) ≡ Some t)
next_some first before [] a k none there =
    let none_before = subst (NoneOf k.node) (append-nil before) none in
    let can : can_come of_step first before k ≡ true = and_from _ _ (ap not (none_any k.node before none_before)) there in
    ((k, before ++ a), ap (λ c. if c then Some (k, before ++ a) else next of_step first (before ++ k ∷ []) a) can)
next_some first before (x ∷ b) a k none there =
    go (can_come of_step first before x) (next_some first (before ++ x ∷ []) b a k (subst (NoneOf k.node) (sym (append_assoc before (x ∷ []) b)) none) there)
  where
    go : (c : Bool) → (t : Kept × List Kept) × (next of_step first (before ++ x ∷ []) (b ++ k ∷ a) ≡ Some t) →
        (t : Kept × List Kept) × ((if c then Some (x, before ++ (b ++ k ∷ a)) else next of_step first (before ++ x ∷ []) (b ++ k ∷ a)) ≡ Some t)
    go true later = ((x, before ++ (b ++ k ∷ a)), refl)
    go false later = later

-- one less is left
one_less : (whole left before after : List Kept) (k : Kept) (n : ℕ) → whole ≡ before ++ k ∷ after → left ≡ before ++ after → length whole ≡ suc n → length left ≡ n
one_less whole left before after k n is left_is long =
    let a : length whole ≡ length before + suc (length after) = ap length is ∙ length-append before (k ∷ after) in
    let b : length left ≡ length before + length after = ap length left_is ∙ length-append before after in
    omega (arith, long, a, b)

no_step : (ks : List Kept) → length ks ≡ zero → ks ≡ []
no_step [] h = refl
no_step (k ∷ ks) h = absurd (omega (arith, h))

-- the steps of each node, with the next one first
next_own : (first whole left : List Kept) (k : Kept) (n : ℕ) → Next first whole k left → own whole n ≡ own (k ∷ left) n
next_own first whole left k n a =
    ap (λ (l : List Kept). own l n) a.is ∙ own_first a.before a.after k n a.none ∙ ap (λ (l : List Kept). own (k ∷ l) n) (sym a.left_is)

-- what is found is an order
record Found (first rest all : List Kept) : Type 0 where
  steps : List Kept
  is : all ≡ first ++ steps
  same : SameOwn rest steps
  behind : AreBehind first steps

found_after : (n : ℕ) (first rest all : List Kept) → length rest ≡ n → order_after of_step n first rest ≡ Some all → Found first rest all
found_after zero first rest all long h =
    let none = no_step rest long in
    record { steps = []; is = let e : first ≡ all = cc in sym e ∙ sym (append-nil first); same = λ n. ap (λ (l : List Kept). own l n) none; behind = tt }
found_after (suc n) first rest all long h = go (next of_step first [] rest) refl h (λ t long h. found_after n (first ++ t.0 ∷ []) t.1 all long h)
  where
    go : (o : Option (Kept × List Kept)) → next of_step first [] rest ≡ o → option_and_then (λ t. order_after of_step n (first ++ t.0 ∷ []) t.1) o ≡ Some all →
        ((t : Kept × List Kept) → length t.1 ≡ n → order_after of_step n (first ++ t.0 ∷ []) t.1 ≡ Some all → Found (first ++ t.0 ∷ []) t.1 all) → Found first rest all
    go None is h more = absurd (cc)
    go (Some t) is h more =
        let a = next_is first [] rest t is in
        let later = more t (one_less rest t.1 a.before a.after t.0 n a.is a.left_is long) h in
        record {
          steps = t.0 ∷ later.steps;
          is = later.is ∙ append_assoc first (t.0 ∷ []) later.steps;
          same = λ m. next_own first rest t.1 t.0 m a ∙ own_cons t.0 t.1 m ∙ ap (λ (l : List Operation). cond (t.0.node == m) (t.0.step ∷ l) l) (later.same m)
              ∙ sym (own_cons t.0 later.steps m);
          behind = (a.there, later.behind);
        }

-- a step of the same node that is the same sends the same
more_alike : (first : List Kept) (k j : Kept) → k.node ≡ j.node → k.step ≡ j.step → SentMore (first ++ k ∷ []) (first ++ j ∷ [])
more_alike first k j node step n =
    let a = count_push first k n in
    let b = count_push first j n in
    let same : ◌≡◌ {A = ℕ} (cond ((k.node == n) && sends k.step) 1 0) (cond ((j.node == n) && sends j.step) 1 0) =
    ap (λ m. cond ((m == n) && sends k.step) 1 0) node ∙ ap (λ s. cond ((j.node == n) && sends s) 1 0) step in
    omega (arith, a, b, same)

-- an order goes on from what is next
record GoesOn (first rest : List Kept) (t : Kept × List Kept) : Type 0 where
  steps : List Kept
  same : SameOwn t.1 steps
  behind : AreBehind (first ++ t.0 ∷ []) steps
  less : (n : ℕ) → length rest ≡ suc n → length t.1 ≡ n

goes_on : (first rest js : List Kept) (t : Kept × List Kept) → next of_step first [] rest ≡ Some t → SameOwn rest js → AreBehind first js → GoesOn first rest t
goes_on first rest js t is same behind =
    let a = next_is first [] rest t is in
    let head : own js t.0.node ≡ t.0.step ∷ own t.1 t.0.node = sym (same t.0.node) ∙ next_own first rest t.1 t.0 t.0.node a ∙ own_head t.0 t.1 in
    let b = around js t.0.node t.0.step (own t.1 t.0.node) head in
    let left = b.before ++ b.after in
    let none = subst (λ n. NoneOf n b.before) (sym b.node) b.none in
    let brought : AreBehind first (b.at ∷ left) =
    behind_first first b.before b.after b.at (ap (λ s. is_there first (delivers s)) b.step ∙ a.there) (subst (AreBehind first) b.is behind) in
    record {
      steps = left;
      same = same_left t.1 left t.0 b.at (sym b.node) (sym b.step)
          (λ m. sym (next_own first rest t.1 t.0 m a) ∙ same m ∙ ap (λ (l : List Kept). own l m) b.is ∙ own_first b.before b.after b.at m none);
      behind = behind_more (first ++ b.at ∷ []) (first ++ t.0 ∷ []) left (more_alike first b.at t.0 b.node b.step) brought.1;
      less = λ n long. one_less rest t.1 a.before a.after t.0 n a.is a.left_is long;
    }

-- and where there is an order, one is found
finds_after : (n : ℕ) (first rest js : List Kept) → length rest ≡ n → SameOwn rest js → AreBehind first js → (all : List Kept) × (order_after of_step n first rest ≡ Some all)
finds_after zero first rest js long same behind = (first, refl)
finds_after (suc n) first rest [] long same behind = absurd (let none = ap length (nothing_left rest same) in omega (arith, long, none))
finds_after (suc n) first rest (j ∷ js) long same behind =
    let a = first_around rest js j same in
    let none = subst (λ n. NoneOf n a.before) (sym a.node) a.none in
    let some = next_some first [] a.before a.after a.at none (ap (λ s. is_there first (delivers s)) a.step ∙ behind.0) in
    let is : next of_step first [] rest ≡ Some some.0 = ap (next of_step first []) a.is ∙ some.1 in
    let on = goes_on first rest (j ∷ js) some.0 is same behind in
    let later = finds_after n (first ++ some.0.0 ∷ []) some.0.1 on.steps (on.less n long) on.same on.behind in
    (later.0, ap (option_and_then (λ t. order_after of_step n (first ++ t.0 ∷ []) t.1)) is ∙ later.1)

pub is_one_holds : (ks js : List Kept) → order_of ks ≡ Some js → IsOrderOf ks js
unfolding turns.order_of
is_one_holds ks js h =
    let f = found_after (length ks) [] ks js refl h in
    record { own = λ n. f.same n ∙ ap (λ (l : List Kept). own l n) (sym f.is); behind = subst (AreBehind []) (sym f.is) f.behind }

pub order_of_holds : OrderOfLaw
unfolding turns.order_of
order_of_holds = record { is_one = is_one_holds; finds = λ ks js order. finds_after (length ks) [] ks js refl order.own order.behind }

pub found_run_holds : FoundRunLaw
unfolding turns.order_of
found_run_holds l count ks js c same run =
    let found = finds_after (length ks) [] ks js refl same (behind_holds l count js c run) in
    let order = is_one_holds ks found.0 found.1 in (
      found.0,
      found.1,
      order.own,
      order_runs_holds l count js found.0 c (record { own = λ n. sym (same n) ∙ order.own n; behind = order.behind }) run,
    )
