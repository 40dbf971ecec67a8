-- The context clock and the cloud that a set of dots answers are those of the definition.
use Rattle.std.proofs.lemmas.List.{get_or_default}
use Rattle.std.proofs.Common.{◌≡◌, ◌⊎◌, inl, inr, ℕ, ◌+◌, ◌<◌, ◌≤◌, ◌==◌, nat_lt, nat_le, ◌&&◌, ◌||◌, Bool, true, false, List, [], ◌∷◌, if◌then◌else◌, refl}
use Rattle.std.proofs.Common.{sym, ap, ◌∙◌, arith, true≢false, Contains}
use Rattle.std.specs.List.{list_any}
use Rattle.std.specs.FinSet as set
use Rattle.std.proofs.lemmas.Bool.{eq-eqb, eqb-true, eqb-false, cases_lt, or_left, or_right}
use Rattle.std.proofs.lemmas.Bool.Decides.{nat_tests}
use Rattle.dots_core.specs.declared.dot.Dot.{Dot}
use Rattle.dots_core.specs.Dots.{Dots, dot, AreValid, IsValid}
use Rattle.dots_core.specs.Clocks.{Clocks, is_among, holds, RisesAbove, IsCanonical}
use Rattle.dots_core.specs.Contexts.{IsContext, IsCloud, IsPartOf}
use Rattle.dots_core.proofs.Order.{is_dot, is_dot-true, is_dot_same}
use Rattle.dots_core.proofs.Clocks.{same_tests, or_swap, among_at, among_place, not_among, holds_low, holds_high, same_clocks, absorbs, absorbed_canonical}
use Rattle.dots_core.proofs.Clocks.{holds_next, holds_valid, rises_lower}
use Rattle.report_core.specs.Dots.{with_clock, clocks_in, part_of, clock_of, cloud_of}
use Rattle.report_core.specs.Laws.{DotsLaw}

-- a clock among rising ones

rises-with : (b k : ℕ) (xs : List ℕ) → b < k → k ≤ 1000000000 → RisesAbove b xs → RisesAbove b (with_clock k xs)
rises-with b k [] low high rises = (low, high, tt)
rises-with b k (x ∷ xs) low high rises = go (nat_lt k x) refl (k == x) refl (λ above. rises-with x k xs above high rises.2)
  where
    go : (s : Bool) → nat_lt k x ≡ s → (t : Bool) → (k == x) ≡ t → (x < k → RisesAbove x (with_clock k xs)) →
        RisesAbove b (if s then k ∷ x ∷ xs else (if t then x ∷ xs else x ∷ with_clock k xs))
    go true below t same rest = let lt : k < x = grind (arith, nat_tests) in (low, high, (lt, rises.1, rises.2))
    go false below true same rest = rises
    go false below false same rest =
        (rises.0, rises.1, rest (let ge : x ≤ k = grind (arith, nat_tests) in let ne = eqb-false k x same in omega arith))

among-with : (j k : ℕ) (xs : List ℕ) → is_among j (with_clock k xs) ≡ ((j == k) || is_among j xs)
among-with j k [] = refl
among-with j k (x ∷ xs) = go (nat_lt k x) (k == x) refl (among-with j k xs)
  where
    twice : (a b : Bool) → (a || b) ≡ (a || (a || b))
    twice true b = refl
    twice false b = refl

    go : (s t : Bool) → (k == x) ≡ t → is_among j (with_clock k xs) ≡ ((j == k) || is_among j xs) →
        is_among j (if s then k ∷ x ∷ xs else (if t then x ∷ xs else x ∷ with_clock k xs)) ≡ ((j == k) || ((j == x) || is_among j xs))
    go true t same rest = refl
    go false true same rest = twice (j == x) (is_among j xs) ∙ ap (λ y. (j == y) || ((j == x) || is_among j xs)) (sym (eqb-true k x same))
    go false false same rest = ap (λ b. (j == x) || b) rest ∙ or_swap (j == x) (j == k) (is_among j xs)

contains_of : (xs : List ℕ) (k : ℕ) → is_among k xs ≡ true → Contains xs k
contains_of xs k h = let p = among_place xs k h in (p.0, p.1, get_or_default xs p.0 k 0 p.1 ∙ p.2)

among_of : (xs : List ℕ) (k : ℕ) → Contains xs k → is_among k xs ≡ true
among_of xs k h = among_at xs h.0 k h.1 (get_or_default xs h.0 0 k h.1 ∙ h.2)

-- whether a dot is that of a name and a clock
is_dot-parts : (name k : ℕ) (d : Dot) → is_dot (dot name k) d ≡ ((d.name == name) && (k == d.clock))
is_dot-parts name k d = same_tests (is_dot (dot name k) d) ((d.name == name) && (k == d.clock)) there back
  where
    there : is_dot (dot name k) d ≡ true → ((d.name == name) && (k == d.clock)) ≡ true
    there h =
        let e = is_dot-true (dot name k) d h in
        ap (λ b. b && (k == d.clock)) (eq-eqb d.name name (ap (λ (x : Dot). x.name) (sym e)))
        ∙ eq-eqb k d.clock (ap (λ (x : Dot). x.clock) e)

    back : ((d.name == name) && (k == d.clock)) ≡ true → is_dot (dot name k) d ≡ true
    back h = go (d.name == name) refl (k == d.clock) refl h
      where
        go : (a : Bool) → (d.name == name) ≡ a → (b : Bool) → (k == d.clock) ≡ b → (a && b) ≡ true → is_dot (dot name k) d ≡ true
        go true e true f h =
            ap (λ (n : ℕ). is_dot (dot n k) d) (sym (eqb-true d.name name e))
            ∙ ap (λ (c : ℕ). is_dot (dot d.name c) d) (eqb-true k d.clock f) ∙ is_dot_same d
        go true e false f h = absurd (true≢false (sym h))
        go false e b f h = absurd (true≢false (sym h))

among-in : (name k : ℕ) (ds : List Dot) → is_among k (clocks_in name ds) ≡ list_any (is_dot (dot name k)) ds
among-in name k [] = refl
among-in name k (d ∷ ds) = go (d.name == name) refl (among-in name k ds)
  where
    go : (b : Bool) → (d.name == name) ≡ b → is_among k (clocks_in name ds) ≡ list_any (is_dot (dot name k)) ds
        → is_among k (if b then with_clock d.clock (clocks_in name ds) else clocks_in name ds) ≡
        (is_dot (dot name k) d || list_any (is_dot (dot name k)) ds)
    go true e rest =
        among-with k d.clock (clocks_in name ds) ∙ ap (λ b. (k == d.clock) || b) rest
        ∙ ap (λ b. b || list_any (is_dot (dot name k)) ds) (sym (is_dot-parts name k d ∙ ap (λ a. a && (k == d.clock)) e))
    go false e rest =
        rest ∙ ap (λ b. b || list_any (is_dot (dot name k)) ds) (sym (is_dot-parts name k d ∙ ap (λ a. a && (k == d.clock)) e))

rises-in : (name : ℕ) (ds : List Dot) → ((d : Dot) → list_any (is_dot d) ds ≡ true → IsValid d) → RisesAbove 0 (clocks_in name ds)
rises-in name [] valid = tt
rises-in name (d ∷ ds) valid = go (d.name == name) (rises-in name ds (λ e h. valid e (or_right (is_dot e d) _ h)))
  where
    go : (b : Bool) → RisesAbove 0 (clocks_in name ds) →
        RisesAbove 0 (if b then with_clock d.clock (clocks_in name ds) else clocks_in name ds)
    go true rest = let v = valid d (or_left (is_dot d d) _ (is_dot_same d)) in rises-with 0 d.clock (clocks_in name ds) v.first v.last rest
    go false rest = rest

module _ (s : Dots) (name : ℕ) (valid : AreValid s) where
  abbrev clocks : List ℕ
  clocks = clocks_in name (set.items s)

  among-clocks : (k : ℕ) → is_among k clocks ≡ set.contains s (dot name k)
  among-clocks k = among-in name k (set.items s) ∙ sym (set.contains-items s (dot name k))

  rises-clocks : RisesAbove 0 clocks
  rises-clocks = rises-in name (set.items s) (λ d h. valid d (set.contains-items s d ∙ h))

  pub holds-part : (k : ℕ) → holds (part_of s name) k ≡ set.contains s (dot name k)
  unfolding part_of
  holds-part k = absorbs 0 clocks rises-clocks k ∙ none ∙ among-clocks k
    where
      none : holds (record { clock = 0; cloud = clocks }) k ≡ is_among k clocks
      none = let no : (nat_lt 0 k && nat_le k 0) ≡ false = grind (arith, nat_tests) in ap (λ b. b || is_among k clocks) no

  canonical-part : IsCanonical (part_of s name)
  unfolding part_of
  canonical-part = absorbed_canonical 0 clocks (omega arith) rises-clocks

  -- that part is the one of the definition
  pub printed-part : IsPartOf s name (record { clock = clock_of s name; cloud = cloud_of s name })
  unfolding clock_of cloud_of
  printed-part = record {
    context = record {
      all = λ k low. (
        (λ there. let valid_clock = holds_valid (part_of s name) k canonical-part (holds-part k ∙ there) in valid_clock.0),
        (λ positive. sym (holds-part k) ∙ holds_low (part_of s name) k positive low),
      );
      greatest = sym (holds-part ((part_of s name).clock + 1)) ∙ holds_next (part_of s name) canonical-part;
    };
    cloud = record {
      rises = rises_lower (part_of s name).clock ((part_of s name).clock + 1) (part_of s name).cloud (omega arith) canonical-part.rises;
      others = λ k high. (
        (λ there. contains_of (part_of s name).cloud k (sym (holds_high (part_of s name) k high) ∙ holds-part k ∙ there)),
        (λ among. sym (holds-part k) ∙ holds_high (part_of s name) k high ∙ among_of (part_of s name).cloud k among),
      );
    };
  }

  -- what was answered is that part
  module _ (c : ℕ) (cloud : List ℕ) (context : IsContext s name c) (others : IsCloud s name c cloud) where
    abbrev given : Clocks
    given = record { clock = c; cloud = cloud }

    last : c ≤ 1000000000
    last = go (cases_lt 0 c)
      where
        go : (0 < c) ⊎ (c ≤ 0) → c ≤ 1000000000
        go (inl pos) = let v = valid (dot name c) ((context.all c (omega arith)).1 pos) in v.last
        go (inr none) = omega arith

    not_next : is_among (c + 1) cloud ≡ true → ⊥
    not_next h = true≢false (sym ((others.others (c + 1) (omega arith)).1 (contains_of cloud (c + 1) h)) ∙ context.greatest)

    higher : (xs : List ℕ) → RisesAbove c xs → (is_among (c + 1) xs ≡ true → ⊥) → RisesAbove (c + 1) xs
    higher [] rises next = tt
    higher (x ∷ xs) rises next = (go (cases_lt (c + 1) x), rises.1, rises.2)
      where
        go : (c + 1 < x) ⊎ (x ≤ c + 1) → c + 1 < x
        go (inl lt) = lt
        go (inr le) = let low = rises.0 in let at : c + 1 ≡ x = omega arith in absurd (next (or_left (c + 1 == x) _ (eq-eqb (c + 1) x at)))

    canonical-given : IsCanonical given
    canonical-given = record { last = last; rises = higher cloud others.rises not_next }

    holds-given : (k : ℕ) → holds given k ≡ set.contains s (dot name k)
    holds-given k = go (cases_lt c k)
      where
        go : (c < k) ⊎ (k ≤ c) → holds given k ≡ set.contains s (dot name k)
        go (inl lt) = same_tests (holds given k) (set.contains s (dot name k))
            (λ h. (others.others k lt).1 (contains_of cloud k (sym (holds_high given k lt) ∙ h)))
            (λ h. holds_high given k lt ∙ among_of cloud k ((others.others k lt).0 h))
        go (inr le) =
            same_tests (holds given k) (set.contains s (dot name k)) (λ h. (context.all k le).1 (positive h))
            (λ h. holds_low given k ((context.all k le).0 h) le)
          where
            positive : holds given k ≡ true → 0 < k
            positive h = elim (cases_lt 0 k) as (λ _. 0 < k) [
              | inl lt ↦ lt
              | inr none ↦ let at : k ≡ 0 = omega arith in
                  absurd (true≢false (sym h ∙ ap (holds given) at ∙ not_among c cloud 0 others.rises (omega arith)))
            ]

    same : given ≡ part_of s name
    same = same_clocks given (part_of s name) canonical-given canonical-part (λ k. holds-given k ∙ sym (holds-part k))

    pub clock_is : c ≡ clock_of s name
    unfolding clock_of
    clock_is = ap (λ (p : Clocks). p.clock) same

    pub cloud_is : cloud ≡ cloud_of s name
    unfolding cloud_of
    cloud_is = ap (λ (p : Clocks). p.cloud) same

pub dots_hold : DotsLaw
dots_hold s name valid = printed-part s name valid
