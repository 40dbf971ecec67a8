-- The steps of each node, of a list from which one is taken out, and what stands behind what.
use Rattle.std.proofs.Common.{◌≡◌, ◌≢◌, ℕ, zero, suc, ◌+◌, ◌≤◌, ◌==◌, ◌&&◌, Bool, true, false, cond, List, [], ◌∷◌, ◌++◌, length, map, Option, Some, None, is_some, refl, sym, ap, ◌∙◌, subst, true≢false, arith, length-append}
use Rattle.std.proofs.lemmas.Bool.{eqb-true, eqb-false, eq-eqb}
use Rattle.std.proofs.lemmas.List.Elements.{filter-append}
use Rattle.std.specs.List.{AllByRecursion}
use Rattle.payload_core.specs.Messages.{numbered}
use Rattle.node_core.specs.Operations.{Operation, delivers, sends}
use Rattle.journal_core.specs.Journals.{Kept, own_steps, sent_by}
use Rattle.order_core.specs.Orders.{own, SameOwn, is_there, AreBehind}

-- no step of the node
abbrev pub NoneOf : ℕ → List Kept → Type 0
NoneOf n ks = AllByRecursion (λ (k : Kept). k.node ≢ n) ks

pub own_cons : (k : Kept) (ks : List Kept) (n : ℕ) → own (k ∷ ks) n ≡ cond (k.node == n) (k.step ∷ own ks n) (own ks n)
own_cons k ks n = go (k.node == n)
  where
    go : (b : Bool) → map (λ (k : Kept). k.step) (cond b (k ∷ own_steps ks n) (own_steps ks n)) ≡ cond b (k.step ∷ own ks n) (own ks n)
    go true = refl
    go false = refl

-- two steps of different nodes, in either order
two : (p q : Bool) (x k : Operation) (l : List Operation) → (p ≡ true → q ≡ true → ⊥) →
    cond p (x ∷ cond q (k ∷ l) l) (cond q (k ∷ l) l) ≡ cond q (k ∷ cond p (x ∷ l) l) (cond p (x ∷ l) l)
two true true x k l apart = absurd (apart refl refl)
two true false x k l apart = refl
two false q x k l apart = refl

-- a step before which none of its node stands may as well be the first
pub own_first : (before after : List Kept) (k : Kept) (n : ℕ) → NoneOf k.node before → own (before ++ k ∷ after) n ≡ own (k ∷ (before ++ after)) n
own_first [] after k n none = refl
own_first (x ∷ before) after k n none =
    own_cons x (before ++ k ∷ after) n
    ∙ ap (λ (l : List Operation). cond (x.node == n) (x.step ∷ l) l) (own_first before after k n none.1 ∙ own_cons k (before ++ after) n)
    ∙ two (x.node == n) (k.node == n) x.step k.step (own (before ++ after) n) (λ a b. none.0 (eqb-true x.node n a ∙ sym (eqb-true k.node n b)))
    ∙ ap (λ (l : List Operation). cond (k.node == n) (k.step ∷ l) l) (sym (own_cons x (before ++ after) n))
    ∙ sym (own_cons k (x ∷ (before ++ after)) n)

-- the next step of a node, and what stands around it
pub record Around (ks : List Kept) (n : ℕ) (s : Operation) : Type 0 where
  pub before : List Kept
  pub at : Kept
  pub after : List Kept
  pub is : ks ≡ before ++ at ∷ after
  pub none : NoneOf n before
  pub node : at.node ≡ n
  pub step : at.step ≡ s

pub around : (ks : List Kept) (n : ℕ) (s : Operation) (more : List Operation) → own ks n ≡ s ∷ more → Around ks n s
around [] n s more h = absurd (cc)
around (x ∷ xs) n s more h = go (x.node == n) refl (sym (own_cons x xs n) ∙ h) (around xs n s more)
  where
    go : (b : Bool) → (x.node == n) ≡ b → cond b (x.step ∷ own xs n) (own xs n) ≡ s ∷ more → (own xs n ≡ s ∷ more → Around xs n s) → Around (x ∷ xs) n s
    go true is h later = record { before = []; at = x; after = xs; is = refl; none = tt; node = eqb-true x.node n is; step = cc }
    go false is h later =
        let a = later h in
        record {
          before = x ∷ a.before;
          at = a.at;
          after = a.after;
          is = ap (λ (l : List Kept). x ∷ l) a.is;
          none = (eqb-false x.node n is, a.none);
          node = a.node;
          step = a.step;
        }

tail_same : (b : Bool) (s : Operation) (xs ys : List Operation) → cond b (s ∷ xs) xs ≡ cond b (s ∷ ys) ys → xs ≡ ys
tail_same true s xs ys h = cc
tail_same false s xs ys h = h

-- what is left of two lists with the same steps of each node, after the same step
pub same_left : (ks js : List Kept) (k j : Kept) → k.node ≡ j.node → k.step ≡ j.step → SameOwn (k ∷ ks) (j ∷ js) → SameOwn ks js
same_left ks js k j node step same n =
    tail_same (j.node == n) j.step (own ks n) (own js n)
    (ap (λ m. cond (m == n) (j.step ∷ own ks n) (own ks n)) (sym node)
    ∙ ap (λ s. cond (k.node == n) (s ∷ own ks n) (own ks n)) (sym step)
    ∙ sym (own_cons k ks n) ∙ same n ∙ own_cons j js n)

-- the first of a list is the next of its node
pub own_head : (j : Kept) (js : List Kept) → own (j ∷ js) j.node ≡ j.step ∷ own js j.node
own_head j js = own_cons j js j.node ∙ ap (λ b. cond b (j.step ∷ own js j.node) (own js j.node)) (eq-eqb j.node j.node refl)

pub nothing_left : (ks : List Kept) → SameOwn ks [] → ks ≡ []
nothing_left [] same = refl
nothing_left (k ∷ ks) same = absurd (let e : k.step ∷ own ks k.node ≡ [] = sym (own_head k ks) ∙ same k.node in cc)

-- as many are there

pub is_some_longer : {A B : Type 0} (xs : List A) (ys : List B) (p : ℕ) → length xs ≤ length ys → is_some (numbered xs p) ≡ true → is_some (numbered ys p) ≡ true
is_some_longer xs ys zero h is = absurd (true≢false (sym is))
is_some_longer [] ys (suc p) h is = absurd (true≢false (sym is))
is_some_longer (x ∷ xs) [] (suc p) h is = absurd (omega (arith, h))
is_some_longer (x ∷ xs) (y ∷ ys) (suc zero) h is = refl
is_some_longer (x ∷ xs) (y ∷ ys) (suc (suc p)) h is = is_some_longer xs ys (suc p) (omega (arith, h)) is

-- the later steps sent as many messages of each node
abbrev pub SentMore : List Kept → List Kept → Type 0
SentMore first later = (n : ℕ) → length (sent_by first n) ≤ length (sent_by later n)

pub there_more : (first later : List Kept) (o : Option (ℕ × ℕ)) → SentMore first later → is_there first o ≡ true → is_there later o ≡ true
there_more first later None more h = refl
there_more first later (Some m) more h = is_some_longer (sent_by first m.0) (sent_by later m.0) m.1 (more m.0) h

pub count_push : (first : List Kept) (k : Kept) (n : ℕ) → length (sent_by (first ++ k ∷ []) n) ≡ length (sent_by first n) + cond ((k.node == n) && sends k.step) 1 0
count_push first k n =
    ap length (filter-append (λ j. (j.node == n) && sends j.step) first (k ∷ []))
    ∙ length-append (sent_by first n) (cond ((k.node == n) && sends k.step) (k ∷ []) [])
    ∙ ap (λ m. length (sent_by first n) + m) (go ((k.node == n) && sends k.step))
  where
    go : (b : Bool) → length (cond b (k ∷ []) []) ≡ cond b 1 0
    go true = refl
    go false = refl

pub more_push : (first later : List Kept) (k : Kept) → SentMore first later → SentMore (first ++ k ∷ []) (later ++ k ∷ [])
more_push first later k more n =
    let a = count_push first k n in
    let b = count_push later k n in
    let h = more n in
    omega (arith, a, b, h)

pub more_behind : (first : List Kept) (k : Kept) → SentMore first (first ++ k ∷ [])
more_behind first k n = let a = count_push first k n in omega (arith, a)

-- the order of two steps doesn't matter
pub more_two : (first : List Kept) (x k : Kept) → SentMore ((first ++ x ∷ []) ++ k ∷ []) ((first ++ k ∷ []) ++ x ∷ [])
more_two first x k n =
    let a = count_push (first ++ x ∷ []) k n in
    let b = count_push first x n in
    let c = count_push (first ++ k ∷ []) x n in
    let d = count_push first k n in
    omega (arith, a, b, c, d)

pub behind_more : (first later ks : List Kept) → SentMore first later → AreBehind first ks → AreBehind later ks
behind_more first later [] more h = tt
behind_more first later (k ∷ ks) more h =
    (there_more first later (delivers k.step) more h.0, behind_more (first ++ k ∷ []) (later ++ k ∷ []) ks (more_push first later k more) h.1)

-- a step whose message is there may come first
pub behind_first : (first before after : List Kept) (k : Kept) → is_there first (delivers k.step) ≡ true → AreBehind first (before ++ k ∷ after) →
    AreBehind first (k ∷ (before ++ after))
behind_first first [] after k there h = h
behind_first first (x ∷ before) after k there h =
    let later = behind_first (first ++ x ∷ []) before after k (there_more first (first ++ x ∷ []) (delivers k.step) (more_behind first x) there) h.1 in (
      there,
      (
        there_more first (first ++ k ∷ []) (delivers x.step) (more_behind first k) h.0,
        behind_more ((first ++ x ∷ []) ++ k ∷ []) ((first ++ k ∷ []) ++ x ∷ []) (before ++ after) (more_two first x k) later.1,
      ),
    )

-- what holds of each step by its node and what it is holds in each order

all_out : (P : Kept → Type 0) (before after : List Kept) (k : Kept) → AllByRecursion P (before ++ k ∷ after) → P k × AllByRecursion P (before ++ after)
all_out P [] after k all = all
all_out P (x ∷ before) after k all = let later = all_out P before after k all.1 in (later.0, (all.0, later.1))

-- what is left of steps of which the nodes did the same, without the first of the others
pub left_same : (ks js : List Kept) (j : Kept) (a : Around ks j.node j.step) → SameOwn ks (j ∷ js) → SameOwn (a.before ++ a.after) js
left_same ks js j a same =
    let none = subst (λ n. NoneOf n a.before) (sym a.node) a.none in
    same_left (a.before ++ a.after) js a.at j a.node a.step
    (λ n. sym (own_first a.before a.after a.at n none) ∙ ap (λ (l : List Kept). own l n) (sym a.is) ∙ same n)

pub first_around : (ks js : List Kept) (j : Kept) → SameOwn ks (j ∷ js) → Around ks j.node j.step
first_around ks js j same = around ks j.node j.step (own js j.node) (same j.node ∙ own_head j js)

pub same_all : (P : ℕ → Operation → Type 0) (ks js : List Kept) → SameOwn ks js → AllByRecursion (λ (k : Kept). P k.node k.step) ks → AllByRecursion (λ (k : Kept). P k.node k.step) js
same_all P ks [] same all = tt
same_all P ks (j ∷ js) same all =
    let a = first_around ks js j same in
    let parts = all_out (λ (k : Kept). P k.node k.step) a.before a.after a.at (subst (AllByRecursion (λ (k : Kept). P k.node k.step)) a.is all) in
    (subst (P j.node) a.step (subst (λ n. P n a.at.step) a.node parts.0), same_all P (a.before ++ a.after) js (left_same ks js j a same) parts.1)

pub same_length : (ks js : List Kept) → SameOwn ks js → length ks ≡ length js
same_length ks [] same = ap length (nothing_left ks same)
same_length ks (j ∷ js) same =
    let a = first_around ks js j same in
    let later = same_length (a.before ++ a.after) js (left_same ks js j a same) in
    let one = ap length a.is ∙ length-append a.before (a.at ∷ a.after) in
    let two = length-append a.before a.after in
    omega (arith, later, one, two)
