-- The numbers of the steps of a kind, with one step more and one less.
use Rattle.std.proofs.Common.{◌≡◌, ℕ, suc, ◌+◌, ◌-◌, ◌<◌, ◌==◌, ◌&&◌, not, nat_lt, Bool, true, false, cond, if◌then◌else◌, List, [], ◌∷◌, ◌++◌}
use Rattle.std.proofs.Common.{length, take, Option, Some, None, option_map, refl, sym, ap, ◌∙◌, arith, append-nil}
use Rattle.std.specs.List.{filter}
use Rattle.std.proofs.lemmas.Bool.{eqb-true, lt-ltb}
use Rattle.journal_core.specs.Numbers.{RisesAbove, place_of, first_above, all_but, least}
use Rattle.journal_core.specs.Journals.{Kept, NumbersRise, AreBelow, own_steps, sent_by, find_number, first_consequence, without, numbers}
use Rattle.node_core.specs.Operations.{sends}
use Rattle.journal_core.specs.Causes.{Causes, IsIndexOf}
use Rattle.journal_core.proofs.NumberLists.{all_but_none, rises_lower, one_more}
use Rattle.journal_core.proofs.Consequences.{later_first, out_of, consequence_is}
use Rattle.journal_core.proofs.Each.{each_imp, none_first, first_none}

-- the numbers of a kind, with one step more and one less

pub numbers_push : (f : Kept → Bool) (ks : List Kept) (k : Kept) → numbers (filter f (ks ++ k ∷ [])) ≡ numbers (filter f ks) ++ cond (f k)
    (k.number ∷ []) []
numbers_push f [] k = go (f k)
  where
    go : (b : Bool) → numbers (cond b (k ∷ []) []) ≡ cond b (k.number ∷ []) []
    go true = refl
    go false = refl
numbers_push f (j ∷ ks) k = go (f j) (numbers_push f ks k)
  where
    go : (b : Bool) → numbers (filter f (ks ++ k ∷ [])) ≡ numbers (filter f ks) ++ cond (f k) (k.number ∷ []) [] →
        numbers (cond b (j ∷ filter f (ks ++ k ∷ [])) (filter f (ks ++ k ∷ []))) ≡ numbers (cond b (j ∷ filter f ks) (filter f ks)) ++ cond (f k)
        (k.number ∷ []) []
    go true more = ap (λ (l : List ℕ). j.number ∷ l) more
    go false more = more

pub push_yes : (f : Kept → Bool) (ks : List Kept) (k : Kept) → f k ≡ true → numbers (filter f (ks ++ k ∷ [])) ≡ numbers
    (filter f ks) ++ k.number ∷ []
push_yes f ks k is = numbers_push f ks k ∙ ap (λ b. numbers (filter f ks) ++ cond b (k.number ∷ []) []) is

pub push_no : (f : Kept → Bool) (ks : List Kept) (k : Kept) → f k ≡ false → numbers (filter f (ks ++ k ∷ [])) ≡ numbers (filter f ks)
push_no f ks k is = numbers_push f ks k ∙ ap (λ b. numbers (filter f ks) ++ cond b (k.number ∷ []) []) is ∙ append-nil (numbers (filter f ks))

pub numbers_out : (n : ℕ) (f : Kept → Bool) (ks : List Kept) → numbers (filter f (without ks n)) ≡ all_but n (numbers (filter f ks))
numbers_out n f [] = refl
numbers_out n f (k ∷ ks) = go (k.number == n) (f k) refl refl (numbers_out n f ks)
  where
    go : (b d : Bool) → (k.number == n) ≡ b → f k ≡ d → numbers (filter f (without ks n)) ≡ all_but n (numbers (filter f ks)) →
        numbers (filter f (cond (not b) (k ∷ without ks n) (without ks n))) ≡ all_but n (numbers (cond (f k) (k ∷ filter f ks) (filter f ks)))
    go true true at is more = rw (is, at) more
    go true false at is more = rw is more
    go false true at is more = rw (is, at) (ap (λ (l : List ℕ). k.number ∷ l) more)
    go false false at is more = rw is more

pub out_no : (n : ℕ) (k : Kept) (f : Kept → Bool) (ks : List Kept) → NumbersRise 0 ks → find_number ks n ≡ Some k → f k ≡ false → numbers
    (filter f (without ks n)) ≡ numbers (filter f ks)
out_no n k f ks rises found not = numbers_out n f ks ∙ all_but_none n (numbers (filter f ks)) (out_of 0 n k f ks rises found not)

pub rises_end : (a n : ℕ) (f : Kept → Bool) (ks : List Kept) → a < n → AreBelow n ks → NumbersRise a ks → RisesAbove a
    (numbers (filter f ks) ++ n ∷ [])
rises_end a n f [] low below rises = (low, tt)
rises_end a n f (k ∷ ks) low below rises = go (f k) (rises_end k.number n f ks below.0 below.1 rises.1)
  where
    go : (b : Bool) → RisesAbove k.number (numbers (filter f ks) ++ n ∷ []) → RisesAbove a
        (numbers (cond b (k ∷ filter f ks) (filter f ks)) ++ n ∷ [])
    go true more = (rises.0, more)
    go false more = rises_lower a k.number (numbers (filter f ks) ++ n ∷ []) (let first = rises.0 in omega arith) more

-- the last number is taken away

pub all_but_last : (a n : ℕ) (ns : List ℕ) (p : ℕ) → RisesAbove a ns → place_of ns n ≡ Some p → first_above n ns ≡ None → take (length ns - 1) ns ≡
    all_but n ns
all_but_last a n [] p rises at none = absurd (cc)
all_but_last a n (m ∷ []) p rises at none = go (m == n) at
  where
    go : (b : Bool) → (if b then Some 0 else None) ≡ Some p → take (length (m ∷ []) - 1) (m ∷ []) ≡ cond (not b) (m ∷ []) []
    go true at = refl
    go false at = absurd (cc)
all_but_last a n (m ∷ x ∷ ns) p rises at none = go (m == n) refl (nat_lt n m) refl at none (λ q. all_but_last m n (x ∷ ns) q rises.1)
  where
    short : take (length (m ∷ x ∷ ns) - 1) (m ∷ x ∷ ns) ≡ m ∷ take (length (x ∷ ns) - 1) (x ∷ ns)
    short = let e : length (m ∷ x ∷ ns) - 1 ≡ suc (length (x ∷ ns) - 1) = omega arith in ap (λ i. take i (m ∷ x ∷ ns)) e

    go : (b : Bool) → (m == n) ≡ b → (d : Bool) → nat_lt n m ≡ d → (if b then Some 0 else option_map (λ q. q + 1) (place_of (x ∷ ns) n)) ≡ Some p →
        (if d then Some m else first_above n (x ∷ ns)) ≡ None →
        ((q : ℕ) → place_of (x ∷ ns) n ≡ Some q → first_above n (x ∷ ns) ≡ None → take (length (x ∷ ns) - 1) (x ∷ ns) ≡ all_but n (x ∷ ns)) → take
        (length (m ∷ x ∷ ns) - 1) (m ∷ x ∷ ns) ≡ cond (not b) (m ∷ all_but n (x ∷ ns)) (all_but n (x ∷ ns))
    go b is true more at none rest = absurd (cc)
    go true is false more at none rest =
        let same = eqb-true m n is in
        let first = rises.1.0 in
        absurd (let wrong : Some x ≡ None = ap (λ b. if b then Some x else first_above n ns) (sym (lt-ltb n x (omega arith))) ∙ none in cc)
    go false is false more at none rest = let q = one_more (place_of (x ∷ ns) n) p at in short ∙ ap (λ (l : List ℕ). m ∷ l) (rest q.0 q.1 none)

least_none : (a b : Option ℕ) → least a b ≡ None → a ≡ None
least_none None b h = refl
least_none (Some x) None h = absurd (cc)
least_none (Some x) (Some y) h = absurd (cc)

weaken : (a b l : Bool) → (a && l) ≡ false → ((a && b) && l) ≡ false
weaken false b l h = refl
weaken true false l h = refl
weaken true true l h = h

pub sent_none : (n node : ℕ) (ks : List Kept) → first_above n (numbers (own_steps ks node)) ≡ None → first_above n (numbers (sent_by ks node)) ≡
    None
sent_none n node ks none =
    sym (later_first (λ j. (j.node == node) && sends j.step) n ks)
    ∙ first_none _ ks (each_imp _ _ (λ j. weaken (j.node == node) (sends j.step) (nat_lt n j.number)) ks
    (none_first (λ j. (j.node == node) && nat_lt n j.number) ks (later_first (λ j. j.node == node) n ks ∙ none)))

pub nothing_later : (ks : List Kept) (n : ℕ) (k : Kept) (c : Causes) → NumbersRise 0 ks → find_number ks n ≡ Some k → IsIndexOf ks ks k.node c →
    first_consequence ks n ≡ None → first_above n (numbers (own_steps ks k.node)) ≡ None
nothing_later ks n k c rises found is none = ap (first_above n) (sym is.own) ∙ least_none _ _ (sym (consequence_is ks n k c rises found is) ∙ none)
