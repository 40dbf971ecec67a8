-- The hops of a delivery give how each dot stands behind it.
use Rattle.std.proofs.Common.{◌≡◌, ◌≢◌, ◌⊎◌, inl, inr, ℕ, zero, suc, ◌+◌, ◌<◌, ◌≤◌, ◌==◌, ◌&&◌, nat_lt, Bool, true, false, if◌then◌else◌, List, [], ◌∷◌, ◌++◌, flat_map, Option, Some, None, is_some, refl, sym, ap, ◌∙◌, subst, true≢false, arith, append_assoc, append-nil}
use Rattle.std.proofs.lemmas.Bool.Decides.{nat_tests}
use Rattle.std.proofs.lemmas.Bool.{cases_eq, cases_lt, eq-eqb, eqb-true, le-ltb, ne_eqb}
use Rattle.std.proofs.lemmas.List.Elements.{Contains-append_cases, Contains-append_left, Contains-append_right, Contains-push, Contains-push_cases}
use Rattle.std.specs.FinMap as fin
use Rattle.std.specs.FinSet as set
use Rattle.std.specs.List.{Contains}
use Rattle.dots_core.specs.declared.dot.Dot.{Dot}
use Rattle.dots_core.specs.Absorbed.{numbers}
use Rattle.dots_core.specs.Dots.{AreValid, Dots, dot}
use Rattle.store_core.specs.Laws.{IsStore}
use Rattle.payload_core.specs.Messages.{Message}
use Rattle.payload_core.specs.Presences.{Presence}
use Rattle.store_core.specs.Stores.{Store, standing, store_of}
use Rattle.replica_core.specs.Deliveries.{is_other_known, merged}
use Rattle.replica_core.specs.Replicas.{Replica}
use Rattle.replica_core.proofs.Deliveries.{standing_holds}
use Rattle.report_core.specs.Dots.{clock_of, cloud_of}
use Rattle.report_core.proofs.OnePart.{printed-part}
use Rattle.page_data.specs.Carried.{clocks_of, hop, hops_if, hops_of, hops_to}
use Rattle.page_data.specs.Laws.{HopsLaw, stands_by}

-- the hops of one name

module _ (here coming : Store) (name : ℕ) (d : Dot) where
  abbrev rises : ℕ → Bool
  rises c = nat_lt (standing here (dot name c)) (standing coming (dot name c))

  -- what the hop of one clock leaves
  abbrev by_one : ℕ → ℕ → ℕ
  by_one c before = if rises c then (if (name == d.name) && (c == d.clock) then standing coming (dot name c) else before) else before

  one : (c before : ℕ) (rest : List ℕ) → stands_by (hop here coming name c ++ rest) d before ≡ stands_by rest d (by_one c before)
  unfolding stands_by
  one c before rest = go (rises c)
    where
      go : (b : Bool) →
          stands_by ((if b then name ∷ c ∷ standing coming (dot name c) ∷ [] else []) ++ rest) d before
          ≡ stands_by rest d (if b then (if (name == d.name) && (c == d.clock) then standing coming (dot name c) else before) else before)
      go true = refl
      go false = refl

  next : (c before : ℕ) (cs rest : List ℕ) →
      stands_by (flat_map (hop here coming name) (c ∷ cs) ++ rest) d before ≡ stands_by (flat_map (hop here coming name) cs ++ rest) d (by_one c before)
  next c before cs rest =
      ap (λ l. stands_by l d before) (append_assoc (hop here coming name c) (flat_map (hop here coming name) cs) rest)
      ∙ one c before (flat_map (hop here coming name) cs ++ rest)

  -- of another name
  apart : (name == d.name) ≡ false → (cs rest : List ℕ) (before : ℕ) → stands_by (flat_map (hop here coming name) cs ++ rest) d before ≡ stands_by rest d before
  apart other [] rest before = refl
  apart other (c ∷ cs) rest before =
      next c before cs rest ∙ ap (stands_by (flat_map (hop here coming name) cs ++ rest) d) (stays (rises c)) ∙ apart other cs rest before
    where
      stays : (b : Bool) → (if b then (if (name == d.name) && (c == d.clock) then standing coming (dot name c) else before) else before) ≡ before
      stays true = ap (λ t. if t && (c == d.clock) then standing coming (dot name c) else before) other
      stays false = refl

-- the hops of the dot's own name

module _ (here coming : Store) (d : Dot) where
  itself : (d.name == d.name) ≡ true
  itself = eq-eqb d.name d.name refl

  -- no other clock than the dot's is looked at
  by_other : (c before : ℕ) → (c == d.clock) ≡ false → by_one here coming d.name d c before ≡ before
  by_other c before other = go (rises here coming d.name d c)
    where
      go : (b : Bool) → (if b then (if (d.name == d.name) && (c == d.clock) then standing coming (dot d.name c) else before) else before) ≡ before
      go true = ap (λ t. if (d.name == d.name) && t then standing coming (dot d.name c) else before) other ∙ last (d.name == d.name)
        where
          last : (b : Bool) → (if b && false then standing coming (dot d.name c) else before) ≡ before
          last true = refl
          last false = refl
      go false = refl

  by_own : (c before : ℕ) → (c == d.clock) ≡ true →
      by_one here coming d.name d c before ≡ (if nat_lt (standing here d) (standing coming d) then standing coming d else before)
  by_own c before own =
      let same : c ≡ d.clock = eqb-true c d.clock own in
      ap (λ k. if nat_lt (standing here (dot d.name k)) (standing coming (dot d.name k)) then (if (d.name == d.name) && (c == d.clock) then standing coming (dot d.name k) else before) else before) same
      ∙ ap (λ t. if nat_lt (standing here d) (standing coming d) then (if t && (c == d.clock) then standing coming d else before) else before) itself
      ∙ ap (λ t. if nat_lt (standing here d) (standing coming d) then (if t then standing coming d else before) else before) own

  -- where it doesn't rise it stays
  low_stays : nat_lt (standing here d) (standing coming d) ≡ false → (cs rest : List ℕ) (before : ℕ) →
      stands_by (flat_map (hop here coming d.name) cs ++ rest) d before ≡ stands_by rest d before
  low_stays low [] rest before = refl
  low_stays low (c ∷ cs) rest before =
      next here coming d.name d c before cs rest ∙ ap (stands_by (flat_map (hop here coming d.name) cs ++ rest) d) (go (c == d.clock) refl)
      ∙ low_stays low cs rest before
    where
      go : (b : Bool) → (c == d.clock) ≡ b → by_one here coming d.name d c before ≡ before
      go true own = by_own c before own ∙ ap (λ t. if t then standing coming d else before) low
      go false other = by_other c before other

  -- where it stands so already it stays so
  high_stays : (cs rest : List ℕ) →
      stands_by (flat_map (hop here coming d.name) cs ++ rest) d (standing coming d) ≡ stands_by rest d (standing coming d)
  high_stays [] rest = refl
  high_stays (c ∷ cs) rest =
      next here coming d.name d c (standing coming d) cs rest ∙ ap (stands_by (flat_map (hop here coming d.name) cs ++ rest) d) (go (c == d.clock) refl)
      ∙ high_stays cs rest
    where
      go : (b : Bool) → (c == d.clock) ≡ b → by_one here coming d.name d c (standing coming d) ≡ standing coming d
      go true own = by_own c (standing coming d) own ∙ either (nat_lt (standing here d) (standing coming d))
        where
          either : (b : Bool) → (if b then standing coming d else standing coming d) ≡ standing coming d
          either true = refl
          either false = refl
      go false other = by_other c (standing coming d) other

  -- where it rises, and its clock is looked at, it comes to stand so
  high_comes : nat_lt (standing here d) (standing coming d) ≡ true → (cs rest : List ℕ) (before : ℕ) → Contains cs d.clock →
      stands_by (flat_map (hop here coming d.name) cs ++ rest) d before ≡ stands_by rest d (standing coming d)
  high_comes high [] rest before among = let lt = among.1 in absurd (omega arith)
  high_comes high (c ∷ cs) rest before among =
      next here coming d.name d c before cs rest ∙ go (c == d.clock) refl (high_comes high cs rest before)
    where
      later : (c == d.clock) ≡ false → Contains (c ∷ []) d.clock ⊎ Contains cs d.clock → Contains cs d.clock
      later other (inl first) = first_of (Contains-push_cases [] c d.clock first)
        where
          first_of : Contains [] d.clock ⊎ (c ≡ d.clock) → Contains cs d.clock
          first_of (inl none) = let lt = none.1 in absurd (omega arith)
          first_of (inr same) = absurd (true≢false (sym (eq-eqb c d.clock same) ∙ other))
      later other (inr rest) = rest

      go : (b : Bool) → (c == d.clock) ≡ b → (Contains cs d.clock → stands_by (flat_map (hop here coming d.name) cs ++ rest) d before ≡ stands_by rest d (standing coming d)) →
          stands_by (flat_map (hop here coming d.name) cs ++ rest) d (by_one here coming d.name d c before) ≡ stands_by rest d (standing coming d)
      go true own more =
          ap (stands_by (flat_map (hop here coming d.name) cs ++ rest) d)
          (by_own c before own ∙ ap (λ t. if t then standing coming d else before) high)
          ∙ high_stays cs rest
      go false other more =
          ap (stands_by (flat_map (hop here coming d.name) cs ++ rest) d) (by_other c before other)
          ∙ more (later other (Contains-append_cases (c ∷ []) cs d.clock among))

-- which clocks are looked at

among_numbers : (a n k : ℕ) → a ≤ k → k < a + n → Contains (numbers a n) k
among_numbers a zero k low high = absurd (omega (arith, low, high))
among_numbers a (suc n) k low high = go (cases_eq k a) (λ above. among_numbers (suc a) n k above (omega (arith, high)))
  where
    go : (k ≡ a) ⊎ (k ≢ a) → (suc a ≤ k → Contains (numbers (suc a) n) k) → Contains (a ∷ numbers (suc a) n) k
    go (inl same) more = subst (Contains (a ∷ numbers (suc a) n)) (sym same) (Contains-append_left (a ∷ []) (numbers (suc a) n) a (Contains-push [] a))
    go (inr other) more = Contains-append_right (a ∷ []) (numbers (suc a) n) k (more (above (cases_lt a k)))
      where
        above : (a < k) ⊎ (k ≤ a) → suc a ≤ k
        above (inl h) = omega (arith, h)
        above (inr h) = absurd (other (omega (arith, h, low)))

among_clocks : (s : Dots) (d : Dot) → AreValid s → set.contains s d ≡ true → Contains (clocks_of s d.name) d.clock
unfolding clocks_of
among_clocks s d valid there = go (cases_lt (clock_of s d.name) d.clock)
  where
    go : (clock_of s d.name < d.clock) ⊎ (d.clock ≤ clock_of s d.name) → Contains (numbers 1 (clock_of s d.name) ++ cloud_of s d.name) d.clock
    go (inl high) =
        Contains-append_right (numbers 1 (clock_of s d.name)) (cloud_of s d.name) d.clock (((printed-part s d.name valid).cloud.others d.clock high).0 there)
    go (inr low) =
        let first = (valid d there).first in
        Contains-append_left (numbers 1 (clock_of s d.name)) (cloud_of s d.name) d.clock
        (among_numbers 1 (clock_of s d.name) d.clock (omega (arith, first)) (omega (arith, low)))

-- of each name in turn

module _ (r : Replica) (m : Message) (d : Dot) (sound : IsStore r.store) (seen : IsStore (store_of m)) (valid : AreValid m.seen) where
  abbrev here : ℕ
  here = standing r.store d

  abbrev coming : ℕ
  coming = standing (store_of m) d

  abbrev there : ℕ
  there = standing (merged m r).store d

  -- a dot that comes to stand higher is in the message
  in_message : nat_lt here coming ≡ true → set.contains m.seen d ≡ true
  in_message high = go (set.contains m.seen d) refl (fin.get m.entries d) refl
    where
      go : (b : Bool) → set.contains m.seen d ≡ b → (o : Option Presence) → fin.get m.entries d ≡ o → b ≡ true
      go true is o at = refl
      go false is (Some p) at = absurd (true≢false (sym (seen d (ap is_some at)) ∙ is))
      go false is None at =
          let none : coming ≡ 0 = ap (λ o. if is_some o then 1 else (if set.contains m.seen d then 2 else 0)) at ∙ ap (λ b. if b then 2 else 0) is in
          let low : nat_lt here coming ≡ false = le-ltb here coming (omega (arith, none)) in absurd (true≢false (sym high ∙ low))

  skip : (kept : Bool) (n : ℕ) → (n == d.name) ≡ false → (rest : List ℕ) (before : ℕ) →
      stands_by (hops_if kept r.store m n ++ rest) d before ≡ stands_by rest d before
  unfolding hops_of
  skip true n other rest before = apart r.store (store_of m) n d other (clocks_of m.seen n) rest before
  skip false n other rest before = refl

  own : (rest : List ℕ) → stands_by (hops_if (is_other_known r d.name) r.store m d.name ++ rest) d here ≡ stands_by rest d there
  unfolding hops_of
  own rest = go (is_other_known r d.name) refl (nat_lt here coming) refl
    where
      go : (kept : Bool) → is_other_known r d.name ≡ kept → (up : Bool) → nat_lt here coming ≡ up →
          stands_by (hops_if kept r.store m d.name ++ rest) d here ≡ stands_by rest d there
      go false is up at = ap (stands_by rest d) (sym ((standing_holds m r sound seen).others d is))
      go true is true high =
          let greater = (standing_holds m r sound seen).known d is in
          let above : here < coming = grind (arith, nat_tests) in
          high_comes r.store (store_of m) d high (clocks_of m.seen d.name) rest here (among_clocks m.seen d valid (in_message high))
          ∙ ap (stands_by rest d) (omega (arith, greater, above))
      go true is false low =
          let greater = (standing_holds m r sound seen).known d is in
          let below : coming ≤ here = grind (arith, nat_tests) in
          low_stays r.store (store_of m) d low (clocks_of m.seen d.name) rest here ∙ ap (stands_by rest d) (omega (arith, greater, below))

  none_yet : (n : ℕ) → n ≤ d.name → (rest : List ℕ) (before : ℕ) → stands_by (hops_to r m n ++ rest) d before ≡ stands_by rest d before
  unfolding hops_to
  none_yet zero low rest before = refl
  none_yet (suc n) low rest before =
      ap (λ l. stands_by l d before) (append_assoc (hops_to r m n) (hops_if (is_other_known r n) r.store m n) rest)
      ∙ none_yet n (omega (arith, low)) (hops_if (is_other_known r n) r.store m n ++ rest) before
      ∙ skip (is_other_known r n) n (ne_eqb n d.name (λ e. omega (arith, e, low))) rest before

  all : (n : ℕ) → d.name < n → (rest : List ℕ) → stands_by (hops_to r m n ++ rest) d here ≡ stands_by rest d there
  unfolding hops_to
  all zero low rest = absurd (omega (arith, low))
  all (suc n) low rest = go (cases_eq d.name n) (all n)
    where
      go : (d.name ≡ n) ⊎ (d.name ≢ n) → (d.name < n → (rest : List ℕ) → stands_by (hops_to r m n ++ rest) d here ≡ stands_by rest d there) →
          stands_by ((hops_to r m n ++ hops_if (is_other_known r n) r.store m n) ++ rest) d here ≡ stands_by rest d there
      go (inl same) more =
          ap (λ l. stands_by l d here) (append_assoc (hops_to r m n) (hops_if (is_other_known r n) r.store m n) rest)
          ∙ none_yet n (omega (arith, same)) (hops_if (is_other_known r n) r.store m n ++ rest) here
          ∙ subst (λ k. stands_by (hops_if (is_other_known r k) r.store m k ++ rest) d here ≡ stands_by rest d there) same (own rest)
      go (inr other) more =
          ap (λ l. stands_by l d here) (append_assoc (hops_to r m n) (hops_if (is_other_known r n) r.store m n) rest)
          ∙ more (below (cases_lt d.name n)) (hops_if (is_other_known r n) r.store m n ++ rest)
          ∙ skip (is_other_known r n) n (ne_eqb n d.name (λ e. other (sym e))) rest there
        where
          below : (d.name < n) ⊎ (n ≤ d.name) → d.name < n
          below (inl h) = h
          below (inr h) = absurd (other (omega (arith, h, low)))

pub hops_hold : HopsLaw
unfolding stands_by
hops_hold r m count d sound seen valid low =
    ap (λ l. stands_by l d (standing r.store d)) (sym (append-nil (hops_to r m count))) ∙ all r m d sound seen valid count low []
