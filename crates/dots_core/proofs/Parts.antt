-- The dots of a list of parts, by what they are at a name and a clock.
use Rattle.std.proofs.Common.{◌≡◌, ◌≢◌, ◌⊎◌, inl, inr, ℕ, zero, suc, ◌+◌, ◌<◌, ◌≤◌, ◌==◌, nat_lt, nat_le, ◌&&◌, ◌||◌, not, Bool, true, false, List, [], ◌∷◌}
use Rattle.std.proofs.Common.{◌++◌, map, length, get_or, slice_set, Contains, refl, sym, ap, subst, ◌∙◌, arith, true≢false, get_or-set_same}
use Rattle.std.proofs.Common.{get_or-set_other, length-set, ext_get_or}
use Rattle.std.proofs.Math.Bool.{and-false, and-true, and_comm, and-or_distrib_left, or-false, or_assoc}
use Rattle.std.proofs.lemmas.List.{get_or_default}
use Rattle.std.proofs.lemmas.Bool.{eq-eqb, eqb-true, ne_eqb, cases_eq, cases_lt, false_from_ne_true, and_parts, and_from}
use Rattle.std.proofs.lemmas.Bool.Decides.{nat_tests}
use Rattle.std.specs.List.{list_any}
use Rattle.std.specs.FinSet as set
use Rattle.dots_core.specs.declared.dot.Dot.{Dot}
use Rattle.dots_core.specs.Dots.{IsValid, Dots, dot, dot_cmp, of_names}
use Rattle.dots_core.specs.Clocks.{Clocks, RisesAbove, no_clocks, is_among, holds, IsCanonical, Gains, Loses}
use Rattle.dots_core.specs.Contexts.{IsContext, IsCloud, IsCloudOf, IsPartOf, OnePartLaw, others, part_dots, PartLaw, with_part}
use Rattle.dots_core.specs.Parts.{count_down, dots_from, dots_of_parts, part_at, AllCanonical, AreParts}
use Rattle.dots_core.proofs.Order.{dot_total, is_dot, is_dot-true, is_dot_same}
use Rattle.dots_core.proofs.Sets.{contains-retain, contains-insert, contains-union, and_alike, same_dots}
use Rattle.dots_core.proofs.Clocks.{same_tests, among_place, among_at, among-append, not_among, rises_lower, holds_low, holds_high}
use Rattle.dots_core.proofs.Clocks.{holds_next, holds_valid, same_rising, same_clocks}

-- the clocks of a name

is_dot-fields : (q : Dot) (n k : ℕ) → is_dot q (dot n k) ≡ ((q.name == n) && (q.clock == k))
is_dot-fields q n k =
    same_tests _ _
    (λ h. let e = is_dot-true q (dot n k) h in
    and_from (q.name == n) (q.clock == k) (eq-eqb q.name n (ap (λ (d : Dot). d.name) e))
    (eq-eqb q.clock k (ap (λ (d : Dot). d.clock) e)))
    (λ h. let e = and_parts (q.name == n) (q.clock == k) h in let name : q.name ≡ n = eqb-true q.name n e.0 in
    let clock : q.clock ≡ k = eqb-true q.clock k e.1 in
    let same : q ≡ dot n k = λ i. record { name = name i; clock = clock i } in ap (λ d. is_dot d (dot n k)) same ∙ is_dot_same (dot n k))

any-append : {X : Type 0} (p : X → Bool) (xs ys : List X) → list_any p (xs ++ ys) ≡ (list_any p xs || list_any p ys)
any-append p [] ys = refl
any-append p (x ∷ xs) ys = ap (λ b. p x || b) (any-append p xs ys) ∙ sym (or_assoc (p x) (list_any p xs) (list_any p ys))

any-dots : (q : Dot) (n : ℕ) (ks : List ℕ) → list_any (is_dot q) (map (dot n) ks) ≡ ((q.name == n) && is_among q.clock ks)
any-dots q n [] = sym (and-false (q.name == n))
any-dots q n (k ∷ ks) =
    (λ i. is_dot-fields q n k i || any-dots q n ks i) ∙ sym (and-or_distrib_left (q.name == n) (q.clock == k) (is_among q.clock ks))

among-count_down : (k c : ℕ) → is_among k (count_down c) ≡ (nat_lt 0 k && nat_le k c)
among-count_down k zero = grind (arith, nat_tests)
among-count_down k (suc c) = ap (λ b. (k == suc c) || b) (among-count_down k c) ∙ grind (arith, nat_tests)

pub any-part : (q : Dot) (n : ℕ) (p : Clocks) → list_any (is_dot q) (map (dot n) (count_down p.clock ++ p.cloud)) ≡ ((q.name == n) && holds p q.clock)
any-part q n p =
    any-dots q n (count_down p.clock ++ p.cloud)
    ∙ ap (λ b. (q.name == n) && b)
    (among-append q.clock (count_down p.clock) p.cloud ∙ ap (λ b. b || is_among q.clock p.cloud) (among-count_down q.clock p.clock))

pub holds_none : (k : ℕ) → holds no_clocks k ≡ false
holds_none k = grind (arith, nat_tests)

below : (q : Dot) (n : ℕ) (ps : List Clocks) → q.name < n → list_any (is_dot q) (dots_from n ps) ≡ false
below q n [] h = refl
below q n (p ∷ ps) h =
    let no : (q.name == n) ≡ false = ne_eqb q.name n (λ e. absurd (omega arith)) in
    any-append (is_dot q) (map (dot n) (count_down p.clock ++ p.cloud)) (dots_from (suc n) ps)
    ∙ ap (λ b. b || list_any (is_dot q) (dots_from (suc n) ps)) (any-part q n p ∙ ap (λ b. b && holds p q.clock) no)
    ∙ below q (suc n) ps (omega arith)

from : (q : Dot) (n : ℕ) (ps : List Clocks) (j : ℕ) → q.name ≡ n + j → list_any (is_dot q) (dots_from n ps) ≡ holds (part_at ps j) q.clock
from q n [] j e = sym (holds_none q.clock)
from q n (p ∷ ps) zero e =
    let yes : (q.name == n) ≡ true = eq-eqb q.name n (omega arith) in
    any-append (is_dot q) (map (dot n) (count_down p.clock ++ p.cloud)) (dots_from (suc n) ps)
    ∙ ap (λ b. b || list_any (is_dot q) (dots_from (suc n) ps)) (any-part q n p ∙ ap (λ b. b && holds p q.clock) yes)
    ∙ ap (λ b. holds p q.clock || b) (below q (suc n) ps (omega arith)) ∙ or-false (holds p q.clock)
from q n (p ∷ ps) (suc j) e =
    let no : (q.name == n) ≡ false = ne_eqb q.name n (λ t. absurd (omega arith)) in
    any-append (is_dot q) (map (dot n) (count_down p.clock ++ p.cloud)) (dots_from (suc n) ps)
    ∙ ap (λ b. b || list_any (is_dot q) (dots_from (suc n) ps)) (any-part q n p ∙ ap (λ b. b && holds p q.clock) no)
    ∙ from q (suc n) ps j (omega arith)

-- a dot is in the set where its name's part has its clock
pub contains-dots_of_parts : (ps : List Clocks) (q : Dot) → set.contains (dots_of_parts ps) q ≡ holds (part_at ps q.name) q.clock
contains-dots_of_parts ps q = set.contains-from_list dot_total (dots_from 0 ps) q ∙ from q 0 ps q.name (omega arith)

pub part_past : (ps : List Clocks) (n : ℕ) → length ps ≤ n → part_at ps n ≡ no_clocks
part_past [] n h = refl
part_past (p ∷ ps) zero h = absurd (omega arith)
part_past (p ∷ ps) (suc n) h = part_past ps n (omega arith)

pub canonical_at : (ps : List Clocks) (n : ℕ) → AllCanonical ps → IsCanonical (part_at ps n)
canonical_at [] n h = record { last = omega arith; rises = tt }
canonical_at (p ∷ ps) zero h = h.0
canonical_at (p ∷ ps) (suc n) h = canonical_at ps n h.1

pub canonical_set : (ps : List Clocks) (n : ℕ) (p : Clocks) → AllCanonical ps → IsCanonical p → AllCanonical (slice_set ps n p)
canonical_set [] n p h k = tt
canonical_set (x ∷ ps) zero p h k = (k, h.1)
canonical_set (x ∷ ps) (suc n) p h k = (h.0, canonical_set ps n p h.1 k)

pub parts_set : (ps : List Clocks) (n : ℕ) (p : Clocks) → AreParts ps → IsCanonical p → AreParts (slice_set ps n p)
parts_set ps n p h k = record { names = length-set ps n p ∙ h.names; canonical = canonical_set ps n p h.canonical k }

-- each dot of the set may be in a set
pub valid_dot : (ps : List Clocks) (q : Dot) → AreParts ps → set.contains (dots_of_parts ps) q ≡ true → IsValid q
valid_dot ps q h t =
    let held : holds (part_at ps q.name) q.clock ≡ true = sym (contains-dots_of_parts ps q) ∙ t in
    let clock = holds_valid (part_at ps q.name) q.clock (canonical_at ps q.name h.canonical) held in
    record { name = go held (cases_lt q.name 32); first = omega arith; last = clock.1 }
  where
    go : holds (part_at ps q.name) q.clock ≡ true → (q.name < 32) ⊎ (32 ≤ q.name) → q.name < 32
    go held (inl lt) = lt
    go held (inr le) =
        let past : part_at ps q.name ≡ no_clocks = part_past ps q.name (omega (arith, h.names)) in
        absurd (true≢false (sym held ∙ ap (λ p. holds p q.clock) past ∙ holds_none q.clock))

-- one part changes

pub at_set : (ps : List Clocks) (n : ℕ) (p : Clocks) (j : ℕ) → n < length ps → (P : Clocks → Type 0) → (j ≡ n → P p) →
    (j ≢ n → P (part_at ps j)) → P (part_at (slice_set ps n p) j)
at_set ps n p j h P same other = go (cases_eq j n)
  where
    go : (j ≡ n) ⊎ (j ≢ n) → P (part_at (slice_set ps n p) j)
    go (inl e) = subst P (sym (ap (part_at (slice_set ps n p)) e ∙ get_or-set_same ps n p no_clocks h)) (same e)
    go (inr d) = subst P (sym (get_or-set_other ps n j p no_clocks d)) (other d)

pub dots_of_parts-gains : (ps : List Clocks) (n k : ℕ) (p : Clocks) → n < length ps → Gains (part_at ps n) k p →
    dots_of_parts (slice_set ps n p) ≡ set.insert (dots_of_parts ps) (dot n k)
dots_of_parts-gains ps n k p h gains = same_dots _ _ (λ q.
    contains-dots_of_parts (slice_set ps n p) q
    ∙ at_set ps n p q.name h (λ x. holds x q.clock ≡ (((q.name == n) && (q.clock == k)) || holds (part_at ps q.name) q.clock))
    (λ e. gains q.clock ∙ sym ((λ i. (eq-eqb q.name n e i && (q.clock == k)) || holds (part_at ps (e i)) q.clock)))
    (λ d. sym (ap (λ b. (b && (q.clock == k)) || holds (part_at ps q.name) q.clock) (ne_eqb q.name n d)))
    ∙ sym (contains-insert (dots_of_parts ps) (dot n k) q ∙ (λ i. is_dot-fields q n k i || contains-dots_of_parts ps q i)))

pub dots_of_parts-loses : (ps : List Clocks) (n k : ℕ) (p : Clocks) → n < length ps → Loses (part_at ps n) k p →
    dots_of_parts (slice_set ps n p) ≡ set.remove (dots_of_parts ps) (dot n k)
dots_of_parts-loses ps n k p h loses = same_dots _ _ (λ q.
    contains-dots_of_parts (slice_set ps n p) q
    ∙ at_set ps n p q.name h (λ x. holds x q.clock ≡ (not ((q.name == n) && (q.clock == k)) && holds (part_at ps q.name) q.clock))
    (λ e. loses q.clock ∙ sym ((λ i. not (eq-eqb q.name n e i && (q.clock == k)) && holds (part_at ps (e i)) q.clock)))
    (λ d. sym (ap (λ b. not (b && (q.clock == k)) && holds (part_at ps q.name) q.clock) (ne_eqb q.name n d)))
    ∙ sym (set.contains-remove dot_total (dots_of_parts ps) (dot n k) q
    ∙ (λ i. not (is_dot-fields q n k i) && contains-dots_of_parts ps q i)))

-- the dots of the other names stay
pub others_set : (ps : List Clocks) (n : ℕ) (p : Clocks) → n < length ps →
    others n (dots_of_parts (slice_set ps n p)) ≡ others n (dots_of_parts ps)
others_set ps n p h = same_dots _ _ (λ q.
    contains-retain (dots_of_parts (slice_set ps n p)) (λ d. not (d.name == n)) q
    ∙ and_alike _ _ (not (q.name == n)) (λ other.
    contains-dots_of_parts (slice_set ps n p) q
    ∙ at_set ps n p q.name h (λ x. holds x q.clock ≡ holds (part_at ps q.name) q.clock)
    (λ e. absurd (true≢false (sym other ∙ ap not (eq-eqb q.name n e)))) (λ d. refl)
    ∙ sym (contains-dots_of_parts ps q))
    ∙ sym (contains-retain (dots_of_parts ps) (λ d. not (d.name == n)) q))

-- a name without clocks
pub dropped : (ps : List Clocks) (n : ℕ) → n < length ps → dots_of_parts (slice_set ps n no_clocks) ≡ others n (dots_of_parts ps)
dropped ps n h = same_dots _ _ (λ q.
    contains-dots_of_parts (slice_set ps n no_clocks) q
    ∙ at_set ps n no_clocks q.name h (λ x. holds x q.clock ≡ (holds (part_at ps q.name) q.clock && not (q.name == n)))
    (λ e. holds_none q.clock ∙ sym (ap (λ b. holds (part_at ps q.name) q.clock && not b) (eq-eqb q.name n e)
    ∙ and-false (holds (part_at ps q.name) q.clock)))
    (λ d. sym (ap (λ b. holds (part_at ps q.name) q.clock && not b) (ne_eqb q.name n d) ∙ and-true (holds (part_at ps q.name) q.clock)))
    ∙ sym (contains-retain (dots_of_parts ps) (λ d. not (d.name == n)) q ∙ ap (λ b. b && not (q.name == n)) (contains-dots_of_parts ps q)))

-- lists of parts with the same dots are one
pub same_parts : (ps qs : List Clocks) → AreParts ps → AreParts qs → dots_of_parts ps ≡ dots_of_parts qs → ps ≡ qs
same_parts ps qs h k e = ext_get_or no_clocks ps qs (h.names ∙ sym k.names) (λ n _.
    same_clocks (part_at ps n) (part_at qs n) (canonical_at ps n h.canonical) (canonical_at qs n k.canonical) (λ c.
    sym (contains-dots_of_parts ps (dot n c)) ∙ ap (λ s. set.contains s (dot n c)) e ∙ contains-dots_of_parts qs (dot n c)))

-- contexts and clouds

among_contains : (xs : List ℕ) (k : ℕ) → is_among k xs ≡ true → Contains xs k
among_contains xs k h = let p = among_place xs k h in (p.0, p.1, get_or_default xs p.0 k 0 p.1 ∙ p.2)

contains_among : (xs : List ℕ) (k : ℕ) → Contains xs k → is_among k xs ≡ true
contains_among xs k h = among_at xs h.0 k h.1 (get_or_default xs h.0 0 k h.1 ∙ h.2)

pub context_at : (ps : List Clocks) (n : ℕ) → AreParts ps → IsContext (dots_of_parts ps) n (part_at ps n).clock
context_at ps n h =
    let canonical = canonical_at ps n h.canonical in
    record {
      all = λ k le. (
        (λ t. let v = holds_valid (part_at ps n) k canonical (sym (contains-dots_of_parts ps (dot n k)) ∙ t) in v.0),
        (λ pos. contains-dots_of_parts ps (dot n k) ∙ holds_low (part_at ps n) k pos le),
      );
      greatest = contains-dots_of_parts ps (dot n ((part_at ps n).clock + 1)) ∙ holds_next (part_at ps n) canonical;
    }

pub cloud_at : (ps : List Clocks) (n : ℕ) → AreParts ps → IsCloud (dots_of_parts ps) n (part_at ps n).clock (part_at ps n).cloud
cloud_at ps n h =
    let p = part_at ps n in
    let canonical = canonical_at ps n h.canonical in
    record {
      rises = rises_lower p.clock (p.clock + 1) p.cloud (omega arith) canonical.rises;
      others = λ k lt. (
        (λ t. among_contains p.cloud k (sym (holds_high p k lt) ∙ sym (contains-dots_of_parts ps (dot n k)) ∙ t)),
        (λ c. contains-dots_of_parts ps (dot n k) ∙ holds_high p k lt ∙ contains_among p.cloud k c),
      );
    }

pub part_is : (ps : List Clocks) (n : ℕ) → AreParts ps → IsPartOf (dots_of_parts ps) n (part_at ps n)
part_is ps n h = record { context = context_at ps n h; cloud = cloud_at ps n h }

-- there is one context clock
pub one_context : (s : Dots) (n b c : ℕ) → IsContext s n b → IsContext s n c → b ≡ c
one_context s n b c h k = let le = no_less b c h k in let ge = no_less c b k h in omega arith
  where
    no_less : (b c : ℕ) → IsContext s n b → IsContext s n c → c ≤ b
    no_less b c h k = go (cases_lt b c)
      where
        go : (b < c) ⊎ (c ≤ b) → c ≤ b
        go (inl lt) = absurd (true≢false (sym ((k.all (b + 1) (omega arith)).1 (omega arith)) ∙ h.greatest))
        go (inr le) = le

pub cloud_of_at : (ps : List Clocks) (n : ℕ) → AreParts ps → IsCloudOf (dots_of_parts ps) n (part_at ps n).cloud
cloud_of_at ps n h c k =
    subst (λ z. IsCloud (dots_of_parts ps) n z (part_at ps n).cloud)
    (one_context (dots_of_parts ps) n (part_at ps n).clock c (context_at ps n h) k) (cloud_at ps n h)

up_to : (c k : ℕ) → (k ≤ c) ⊎ (c < k)
up_to c k = go (cases_lt c k)
  where
    go : (c < k) ⊎ (k ≤ c) → (k ≤ c) ⊎ (c < k)
    go (inl lt) = inr lt
    go (inr le) = inl le

-- a name has one part
pub one_part_law : OnePartLaw
one_part_law s name p q h k = λ i. record { clock = clock i; cloud = cloud i }
  where
    clock : p.clock ≡ q.clock
    clock = one_context s name p.clock q.clock h.context k.context

    up : RisesAbove p.clock q.cloud
    up = rises_lower p.clock q.clock q.cloud (omega (arith, clock)) k.cloud.rises

    above : (n : ℕ) → (n ≤ p.clock) ⊎ (p.clock < n) → is_among n p.cloud ≡ is_among n q.cloud
    above n (inl le) = not_among p.clock p.cloud n h.cloud.rises le ∙ sym (not_among p.clock q.cloud n up le)
    above n (inr lt) =
        let lt' : q.clock < n = omega (arith, clock) in
        same_tests _ _
        (λ a. contains_among q.cloud n ((k.cloud.others n lt').0 ((h.cloud.others n lt).1 (among_contains p.cloud n a))))
        (λ a. contains_among p.cloud n ((h.cloud.others n lt).0 ((k.cloud.others n lt').1 (among_contains q.cloud n a))))

    cloud : p.cloud ≡ q.cloud
    cloud = same_rising p.clock p.cloud q.cloud h.cloud.rises up (λ n. above n (up_to p.clock n))

-- a set is given by one part and the other names
pub part_law : PartLaw
part_law s t name part h k e = same_dots s t (λ q. go q (cases_eq q.name name))
  where
    at_clock : (clock : ℕ) → (clock ≤ part.clock) ⊎ (part.clock < clock) → set.contains s (dot name clock) ≡ set.contains t (dot name clock)
    at_clock clock (inl le) =
        same_tests _ _ (λ a. (k.context.all clock le).1 ((h.context.all clock le).0 a))
        (λ a. (h.context.all clock le).1 ((k.context.all clock le).0 a))
    at_clock clock (inr lt) =
        same_tests _ _ (λ a. (k.cloud.others clock lt).1 ((h.cloud.others clock lt).0 a))
        (λ a. (h.cloud.others clock lt).1 ((k.cloud.others clock lt).0 a))

    kept : (s : Dots) (q : Dot) → q.name ≢ name → set.contains (others name s) q ≡ set.contains s q
    kept s q d =
        contains-retain s (λ d. not (d.name == name)) q ∙ ap (λ b. set.contains s q && not b) (ne_eqb q.name name d)
        ∙ and-true (set.contains s q)

    go : (q : Dot) → (q.name ≡ name) ⊎ (q.name ≢ name) → set.contains s q ≡ set.contains t q
    go q (inl n) =
        let is : q ≡ dot name q.clock = λ i. record { name = n i; clock = q.clock } in
        ap (set.contains s) is ∙ at_clock q.clock (up_to part.clock q.clock) ∙ sym (ap (set.contains t) is)
    go q (inr d) = sym (kept s q d) ∙ ap (λ u. set.contains u q) e ∙ kept t q d

-- the part that the code reads, and what it puts in its place

pub read_part : (ps : List Clocks) (i n : ℕ) (d : Clocks) → AreParts ps → i ≡ n → n < 32 → get_or ps i d ≡ part_at ps n
read_part ps i n d h e lt =
    let within : i < length ps = omega (arith, h.names) in get_or_default ps i d no_clocks within ∙ ap (part_at ps) e

pub held_at : (ps : List Clocks) (i : ℕ) (q : Dot) (d : Clocks) (s : Dots) → AreParts ps → i ≡ q.name → q.name < 32 → dots_of_parts ps ≡ s →
    holds (get_or ps i d) q.clock ≡ set.contains s q
held_at ps i q d s h e lt view =
    ap (λ p. holds p q.clock) (read_part ps i q.name d h e lt) ∙ sym (contains-dots_of_parts ps q) ∙ ap (λ s. set.contains s q) view

pub absent : (ps : List Clocks) (q : Dot) → AreParts ps → 32 ≤ q.name → set.contains (dots_of_parts ps) q ≡ false
absent ps q h le = false_from_ne_true _ (λ t. let v = valid_dot ps q h t in let name = v.name in absurd (omega arith))

pub insert_at : (ps : List Clocks) (i : ℕ) (q : Dot) (d p : Clocks) (s : Dots) → AreParts ps → i ≡ q.name → q.name < 32 →
    dots_of_parts ps ≡ s → Gains (get_or ps i d) q.clock p → dots_of_parts (slice_set ps i p) ≡ set.insert s q
insert_at ps i q d p s h e lt view gains =
    let at : get_or ps i d ≡ part_at ps i = read_part ps i i d h refl (omega arith) in
    dots_of_parts-gains ps i q.clock p (omega (arith, h.names)) (subst (λ z. Gains z q.clock p) at gains)
    ∙ (λ j. set.insert (view j) (dot (e j) q.clock))

pub remove_at : (ps : List Clocks) (i : ℕ) (q : Dot) (d p : Clocks) (s : Dots) → AreParts ps → i ≡ q.name → q.name < 32 →
    dots_of_parts ps ≡ s → Loses (get_or ps i d) q.clock p → dots_of_parts (slice_set ps i p) ≡ set.remove s q
remove_at ps i q d p s h e lt view loses =
    let at : get_or ps i d ≡ part_at ps i = read_part ps i i d h refl (omega arith) in
    dots_of_parts-loses ps i q.clock p (omega (arith, h.names)) (subst (λ z. Loses z q.clock p) at loses)
    ∙ (λ j. set.remove (view j) (dot (e j) q.clock))

pub part_read : (ps : List Clocks) (i n : ℕ) (d : Clocks) (s : Dots) → AreParts ps → i ≡ n → n < 32 → dots_of_parts ps ≡ s →
    IsPartOf s n (get_or ps i d)
part_read ps i n d s h e lt view =
    subst (λ s. IsPartOf s n (get_or ps i d)) view
    (subst (IsPartOf (dots_of_parts ps) n) (sym (read_part ps i n d h e lt)) (part_is ps n h))

pub part_put : (ps : List Clocks) (i n : ℕ) (p : Clocks) → AreParts ps → i ≡ n → n < 32 → IsCanonical p →
    IsPartOf (dots_of_parts (slice_set ps i p)) n p
part_put ps i n p h e lt canonical =
    let same : part_at (slice_set ps i p) n ≡ p = ap (part_at (slice_set ps i p)) (sym e)
    ∙ get_or-set_same ps i p no_clocks (omega (arith, h.names)) in
    subst (IsPartOf (dots_of_parts (slice_set ps i p)) n) same (part_is (slice_set ps i p) n (parts_set ps i p h canonical))

pub rest_put : (ps : List Clocks) (i n : ℕ) (p : Clocks) (s : Dots) → AreParts ps → i ≡ n → n < 32 → dots_of_parts ps ≡ s →
    others n (dots_of_parts (slice_set ps i p)) ≡ others n s
rest_put ps i n p s h e lt view =
    ap (λ m. others m (dots_of_parts (slice_set ps i p))) (sym e) ∙ others_set ps i p (omega (arith, h.names))
    ∙ (λ j. others (e j) (view j))

pub drop_at : (ps : List Clocks) (i n : ℕ) (p : Clocks) (s : Dots) → AreParts ps → i ≡ n → n < 32 → p ≡ no_clocks → dots_of_parts ps ≡ s →
    dots_of_parts (slice_set ps i p) ≡ others n s
drop_at ps i n p s h e lt none view =
    ap (λ p. dots_of_parts (slice_set ps i p)) none ∙ dropped ps i (omega (arith, h.names)) ∙ (λ j. others (e j) (view j))

-- the empty set

pub none_canonical : IsCanonical no_clocks
none_canonical = record { last = omega arith; rises = tt }

canonical_each : (ps : List Clocks) → ((n : ℕ) → n < length ps → part_at ps n ≡ no_clocks) → AllCanonical ps
canonical_each [] h = tt
canonical_each (p ∷ ps) h =
    (subst IsCanonical (sym (h 0 (omega arith))) none_canonical, canonical_each ps (λ n lt. h (suc n) (omega arith)))

pub no_parts : (ps : List Clocks) → length ps ≡ 32 → ((n : ℕ) → n < length ps → part_at ps n ≡ no_clocks) → AreParts ps
no_parts ps l h = record { names = l; canonical = canonical_each ps h }

pub empty_set : (ps : List Clocks) → ((n : ℕ) → n < length ps → part_at ps n ≡ no_clocks) → dots_of_parts ps ≡ set.empty
empty_set ps h =
    same_dots _ _ (λ q. contains-dots_of_parts ps q ∙ ap (λ p. holds p q.clock) (go q.name (cases_lt q.name (length ps)))
    ∙ holds_none q.clock ∙ sym (set.contains-empty dot_cmp q))
  where
    go : (n : ℕ) → (n < length ps) ⊎ (length ps ≤ n) → part_at ps n ≡ no_clocks
    go n (inl lt) = h n lt
    go n (inr le) = part_past ps n le

pub empty_part : (ps : List Clocks) (n : ℕ) → AreParts ps → dots_of_parts ps ≡ set.empty → part_at ps n ≡ no_clocks
empty_part ps n h e = same_clocks (part_at ps n) no_clocks (canonical_at ps n h.canonical) none_canonical (λ k.
    sym (contains-dots_of_parts ps (dot n k)) ∙ ap (λ s. set.contains s (dot n k)) e ∙ set.contains-empty dot_cmp (dot n k)
    ∙ sym (holds_none k))

-- lists of parts that agree at each name
pub agreeing_parts : (ps qs : List Clocks) → AreParts ps → AreParts qs → ((n : ℕ) → n < 32 → part_at ps n ≡ part_at qs n) → ps ≡ qs
agreeing_parts ps qs h k same = ext_get_or no_clocks ps qs (h.names ∙ sym k.names) (λ n lt. same n (omega (arith, h.names)))

-- the dots of some names, part by part
pub chosen_dots : (ps qs : List Clocks) (p : ℕ → Bool) (s : Dots) → ((n k : ℕ) → holds (part_at qs n) k ≡ (p n && holds (part_at ps n) k)) →
    dots_of_parts ps ≡ s → dots_of_parts qs ≡ of_names p s
chosen_dots ps qs p s h view = same_dots _ _ (λ q.
    contains-dots_of_parts qs q ∙ h q.name q.clock ∙ and_comm (p q.name) (holds (part_at ps q.name) q.clock)
    ∙ ap (λ b. b && p q.name) (sym (contains-dots_of_parts ps q))
    ∙ ap (λ s. set.contains s q && p q.name) view ∙ sym (contains-retain s (λ d. p d.name) q))

-- the set with one part put in its place

pub contains-with_part : (n : ℕ) (p : Clocks) (s : Dots) (q : Dot) →
    set.contains (with_part n p s) q ≡ ((set.contains s q && not (q.name == n)) || ((q.name == n) && holds p q.clock))
contains-with_part n p s q =
    contains-union (others n s) (part_dots n p) q
    ∙ (λ i. contains-retain s (λ d. not (d.name == n)) q i ||
    (set.contains-from_list dot_total (map (dot n) (count_down p.clock ++ p.cloud)) q ∙ any-part q n p) i)

in_place : (t a h x : Bool) → (t ≡ true → x ≡ h) → (t ≡ false → x ≡ a) → x ≡ ((a && not t) || (t && h))
in_place true a h x f k = f refl ∙ sym (ap (λ b. b || h) (and-false a))
in_place false a h x f k = k refl ∙ sym (or-false (a && true) ∙ and-true a)

pub set_is_with_part : (ps : List Clocks) (i n : ℕ) (p : Clocks) (s : Dots) → AreParts ps → i ≡ n → n < 32 → dots_of_parts ps ≡ s →
    dots_of_parts (slice_set ps i p) ≡ with_part n p s
set_is_with_part ps i n p s h e lt view = same_dots _ _ (λ q.
    contains-dots_of_parts (slice_set ps i p) q
    ∙ at_set ps i p q.name (omega (arith, h.names)) (λ x. holds x q.clock ≡ ((set.contains s q && not (q.name == n)) || ((q.name == n) && holds p q.clock)))
    (λ same. in_place (q.name == n) (set.contains s q) (holds p q.clock) (holds p q.clock) (λ _. refl)
    (λ no. absurd (true≢false (sym (eq-eqb q.name n (same ∙ e)) ∙ no))))
    (λ other. in_place (q.name == n) (set.contains s q) (holds p q.clock) (holds (part_at ps q.name) q.clock)
    (λ yes. absurd (other (eqb-true q.name n yes ∙ sym e))) (λ _. sym (contains-dots_of_parts ps q) ∙ ap (λ s. set.contains s q) view))
    ∙ sym (contains-with_part n p s q))

pub read_is_with_part : (ps : List Clocks) (i n : ℕ) (d : Clocks) (s : Dots) → AreParts ps → i ≡ n → n < 32 → dots_of_parts ps ≡ s →
    with_part n (get_or ps i d) s ≡ s
read_is_with_part ps i n d s h e lt view = same_dots _ _ (λ q.
    contains-with_part n (get_or ps i d) s q
    ∙ sym (in_place (q.name == n) (set.contains s q) (holds (get_or ps i d) q.clock) (set.contains s q)
    (λ yes. let same : q.name ≡ n = eqb-true q.name n yes in sym (held_at ps i q d s h (e ∙ sym same) (omega (arith, same, lt)) view))
    (λ _. refl)))

pub with_part_others : (n : ℕ) (p : Clocks) (s : Dots) → with_part n p (others n s) ≡ with_part n p s
with_part_others n p s = same_dots _ _ (λ q.
    contains-with_part n p (others n s) q
    ∙ ap (λ b. (b && not (q.name == n)) || ((q.name == n) && holds p q.clock)) (contains-retain s (λ d. not (d.name == n)) q)
    ∙ ap (λ b. b || ((q.name == n) && holds p q.clock)) (twice (set.contains s q) (q.name == n))
    ∙ sym (contains-with_part n p s q))
  where
    twice : (a t : Bool) → ((a && not t) && not t) ≡ (a && not t)
    twice true true = refl
    twice true false = refl
    twice false t = refl
