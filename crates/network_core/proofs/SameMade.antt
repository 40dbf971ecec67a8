-- Runs in which each node does the same besides deliveries have as many steps of each other sort: they make as many entries, and
-- are as long, deliveries apart.
use Rattle.std.proofs.Common.{◌≡◌, ℕ, suc, ◌+◌, ◌==◌, ◌&&◌, not, Bool, true, false, cond, if◌then◌else◌, List, [], ◌∷◌, ◌++◌, filter, length, length-append, refl, sym, ap, ◌∙◌, arith, true≢false}
use Rattle.std.proofs.lemmas.Bool.{eq-eqb}
use Rattle.std.proofs.lemmas.List.Elements.{filter-append}
use Rattle.std.proofs.Math.Bool.{and-false}
use Rattle.node_core.specs.Operations.{Operation, Join, Leave, LeaveAll, Update, Broadcast, Extract, Deliver, Request, Answer, Up, Down, Permdown}
use Rattle.journal_core.specs.Journals.{Kept}
use Rattle.network_core.specs.NetworkRuns.{deliveries, how_many, is_delivery, is_ordered, ordered}
use Rattle.network_core.specs.Room.{makes, made}
use Rattle.network_core.specs.Settling.{LengthLaw}
use Rattle.network_core.proofs.Counts.{count_append}
use Rattle.network_core.proofs.EagerSteps.{Around, around, of_node, same_filter}

delivers_none : (s : Operation) → is_delivery s ≡ true → makes s ≡ false
delivers_none (Deliver sender number) h = refl
delivers_none (Join p) h = absurd (true≢false (sym h))
delivers_none (Update p) h = absurd (true≢false (sym h))
delivers_none (Leave pid topic key) h = refl
delivers_none (LeaveAll pid) h = refl
delivers_none Broadcast h = refl
delivers_none (Extract names) h = refl
delivers_none Request h = refl
delivers_none (Answer sender number) h = refl
delivers_none (Up name) h = refl
delivers_none (Down name) h = refl
delivers_none (Permdown name) h = refl

-- a delivery is no ordered step
pub not_ordered : (n : ℕ) (x : Kept) → is_delivery x.step ≡ true → is_ordered n x ≡ false
not_ordered n x is = ap (λ b. (x.node == n) && not b) is ∙ and-false (x.node == n)

is_own : (x : Kept) → is_delivery x.step ≡ false → is_ordered x.node x ≡ true
is_own x is = λ i. eq-eqb x.node x.node refl i && not (is i)

-- steps of a sort that no delivery is of

module _ (sort : Operation → Bool) (other : (s : Operation) → is_delivery s ≡ true → sort s ≡ false) where
  abbrev of_sort : List Kept → ℕ
  of_sort ks = length (filter (λ k. sort k.step) ks)

  both_parts : (xs ys : List Kept) → of_sort (xs ++ ys) ≡ of_sort xs + of_sort ys
  both_parts xs ys = ap length (filter-append (λ k. sort k.step) xs ys) ∙ length-append (filter (λ k. sort k.step) xs) (filter (λ k. sort k.step) ys)

  skipped : (x : Kept) (xs : List Kept) → is_delivery x.step ≡ true → of_sort (x ∷ xs) ≡ of_sort xs
  skipped x xs is = ap (λ b. length (cond b (x ∷ filter (λ k. sort k.step) xs) (filter (λ k. sort k.step) xs))) (other x.step is)

  none_of_sort : (r : List Kept) → ((n : ℕ) → ordered r n ≡ []) → of_sort r ≡ 0
  none_of_sort [] own = refl
  none_of_sort (x ∷ xs) own = go (is_delivery x.step) refl (none_of_sort xs)
    where
      go : (b : Bool) → is_delivery x.step ≡ b → (((n : ℕ) → ordered xs n ≡ []) → of_sort xs ≡ 0) → of_sort (x ∷ xs) ≡ 0
      go true is later = skipped x xs is ∙ later (λ n. ap (λ b. cond b (x ∷ ordered xs n) (ordered xs n)) (sym (not_ordered n x is)) ∙ own n)
      go false is later = absurd (let h : x ∷ ordered xs x.node ≡ [] = ap (λ b. cond b (x ∷ ordered xs x.node) (ordered xs x.node)) (sym (is_own x is)) ∙ own x.node in cc)

  same_sort : (j r : List Kept) → ((n : ℕ) → ordered r n ≡ ordered j n) → of_sort r ≡ of_sort j
  same_sort [] r own = none_of_sort r own
  same_sort (k ∷ js) r own = go (is_delivery k.step) refl (λ r own. same_sort js r own)
    where
      go : (b : Bool) → is_delivery k.step ≡ b → ((r : List Kept) → ((n : ℕ) → ordered r n ≡ ordered js n) → of_sort r ≡ of_sort js) → of_sort r ≡ of_sort (k ∷ js)
      go true is later = later r (λ n. own n ∙ ap (λ b. cond b (k ∷ ordered js n) (ordered js n)) (not_ordered n k is)) ∙ sym (skipped k js is)
      go false is later = with_parts (around k.node r (ordered js k.node) k (own k.node ∙ ap (λ b. cond b (k ∷ ordered js k.node) (ordered js k.node)) (is_own k is)))
        where
          with_parts : Around k.node r k → of_sort r ≡ of_sort (k ∷ js)
          with_parts a =
              let same = later (a.before ++ a.after) left in
              let whole = ap of_sort a.is ∙ both_parts a.before (k ∷ a.after) in
              let parts = both_parts a.before a.after in
              let here = both_parts (k ∷ []) a.after in
              let there = both_parts (k ∷ []) js in
              omega (arith, same, whole, parts, here, there)
            where
              moved : (n : ℕ) → ordered (k ∷ (a.before ++ a.after)) n ≡ ordered r n
              moved n = same_filter k.node [] r k a (is_ordered n) (is_ordered n k) refl (of_node k.node [] r k a n)

              left : (n : ℕ) → ordered (a.before ++ a.after) n ≡ ordered js n
              left n = pick (is_ordered n k) (moved n ∙ own n)
                where
                  pick : (b : Bool) → cond b (k ∷ ordered (a.before ++ a.after) n) (ordered (a.before ++ a.after) n) ≡ cond b (k ∷ ordered js n) (ordered js n) →
                      ordered (a.before ++ a.after) n ≡ ordered js n
                  pick true h = cc
                  pick false h = h

pub made_is : (ks : List Kept) → made ks ≡ length (filter (λ k. makes k.step) ks)
made_is [] = refl
made_is (k ∷ ks) = go (makes k.step) (made_is ks)
  where
    go : (b : Bool) → made ks ≡ length (filter (λ k. makes k.step) ks) →
        (if b then made ks + 1 else made ks) ≡ length (cond b (k ∷ filter (λ k. makes k.step) ks) (filter (λ k. makes k.step) ks))
    go true h = omega (arith, h)
    go false h = h

pub same_made : (j r : List Kept) → ((n : ℕ) → ordered r n ≡ ordered j n) → made r ≡ made j
same_made j r own = made_is r ∙ same_sort makes delivers_none j r own ∙ sym (made_is j)

-- how long a run is

abbrev is_else : Operation → Bool
is_else s = not (is_delivery s)

long : (ks : List Kept) → length ks ≡ length (filter (λ k. is_else k.step) ks) + length (deliveries ks)
long [] = omega arith
long (k ∷ ks) = go (is_delivery k.step) (long ks)
  where
    go : (b : Bool) → length ks ≡ length (filter (λ k. is_else k.step) ks) + length (deliveries ks) →
        suc (length ks) ≡ length (cond (not b) (k ∷ filter (λ k. is_else k.step) ks) (filter (λ k. is_else k.step) ks)) + length (cond b (k ∷ deliveries ks) (deliveries ks))
    go true h = omega (arith, h)
    go false h = omega (arith, h)

all_count : (ks : List Kept) → how_many (λ n s. true) ks ≡ length ks
all_count [] = refl
all_count (k ∷ ks) = let later = all_count ks in omega (arith, later)

pub length_holds : LengthLaw
length_holds j r lost again run =
    let here = long r in
    let there = long j in
    let same = same_sort is_else (λ s is. ap not is) j r run.own in
    let all = run.delivered (λ n s. true) in
    let one = count_append (λ n s. true) (deliveries r) run.missing in
    let two = count_append (λ n s. true) (deliveries j) run.repeated in
    let deliveries_of = all_count (deliveries r) in
    let recorded = all_count (deliveries j) in
    let repeated = all_count run.repeated in
    let few = run.few_repeated in
    omega (arith, here, there, same, all, one, two, deliveries_of, recorded, repeated, few)
