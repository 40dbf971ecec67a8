-- Sets of names, as lists of rising numbers.
use Rattle.std.proofs.Common.{◌≡◌, ◌≢◌, ℕ, ◌+◌, ◌-◌, ◌++◌, append_assoc, append-nil, ◌<◌, ◌≤◌, zero, suc, List, [], ◌∷◌, map, Bool, true, false, if◌then◌else◌, ◌&&◌, ◌||◌, ◌==◌, Some, None, refl, sym, ap, ap₂, ◌∙◌, arith}
use Rattle.std.specs.Prelude.{nat_lt, nat_le}
use Rattle.std.proofs.lemmas.Bool.{eqb-true, eqb-false, ne_eqb, eq-eqb, ltb-true, ltb-false, lt-ltb, leb-true, le-leb}
use Rattle.std.specs.Cmp.{unsigned_tied}
use Rattle.std.proofs.lemmas.Cmp.{nat_cmp_total}
use Rattle.std.specs.Ordering.{nat_cmp}
use Rattle.std.specs.FinSet as set
use Rattle.std.specs.FinSet.{nat_cmp-IsAntisymmetric}
use Rattle.serde_json.specs.Data.{Data, Items, no_items, item}
use Rattle.serde_json.specs.View.{items_of}
use Rattle.dots_core.specs.Names.{Names, AreNamesBelow}
use Rattle.event_core.specs.Format.{whole, numbers_from, numbers_of}
use Rattle.event_core.specs.Decoding.{number_of, names_from}
use Rattle.event_core.proofs.Lists.{bind_some, tested, both, whole_is}

-- another number is in the set with n exactly where it is in the set
contains_other : (names : Names) (n q : ℕ) → q ≢ n → set.contains (set.insert names n) q ≡ set.contains names q
contains_other names n q other =
    set.contains-insert nat_cmp_total names n q ∙ ap (λ b. b || set.contains names q) (unsigned_tied q n ∙ ne_eqb q n other)

below_it : (q n : ℕ) → q ≢ n → q < n + 1 → q < n
below_it q n other below = omega (arith, other, below)

contains_itself : (names : Names) (n : ℕ) → set.contains (set.insert names n) n ≡ true
contains_itself names n = set.contains-insert nat_cmp_total names n n ∙ ap (λ b. b || set.contains names n) (unsigned_tied n n ∙ eq-eqb n n refl)

-- the next number comes first, where it is in the set
next_number : (names : Names) (first count : ℕ) → numbers_from names first (suc count) ≡
    (if set.contains names first then first ∷ numbers_from names (first + 1) count else numbers_from names (first + 1) count)
unfolding numbers_from
next_number names first count = refl

no_number : (names : Names) (first : ℕ) → numbers_from names first 0 ≡ []
unfolding numbers_from
no_number names first = refl

-- of the numbers that are left after k
abbrev Rest : Names → ℕ → List ℕ
Rest names k = numbers_from names k (32 - k)

with_next : (names : Names) (k : ℕ) (b : Bool) → k < 32 → set.contains names k ≡ b →
    Rest names k ≡ (if b then k ∷ Rest names (k + 1) else Rest names (k + 1))
with_next names k b below is =
    let one_more : 32 - k ≡ suc (32 - (k + 1)) = omega (arith, below) in
    ap (numbers_from names k) one_more ∙ next_number names k (32 - (k + 1)) ∙ ap (λ b. if b then k ∷ Rest names (k + 1) else Rest names (k + 1)) is

-- the numbers so far, and then those that are left: one that is in the set moves over, another is passed

pub number_taken : (names : Names) (k : ℕ) (before after all : List ℕ) → k < 32 → set.contains names k ≡ true → after ≡ before ++ k ∷ [] →
    before ++ numbers_from names k (32 - k) ≡ all → after ++ numbers_from names (k + 1) (32 - (k + 1)) ≡ all
number_taken names k before after all below is more h =
    ap (λ ns. ns ++ Rest names (k + 1)) more ∙ append_assoc before (k ∷ []) (Rest names (k + 1))
    ∙ ap (λ ns. before ++ ns) (sym (with_next names k true below is)) ∙ h

pub number_passed : (names : Names) (k : ℕ) (before after all : List ℕ) → k < 32 → set.contains names k ≡ false → after ≡ before →
    before ++ numbers_from names k (32 - k) ≡ all → after ++ numbers_from names (k + 1) (32 - (k + 1)) ≡ all
number_passed names k before after all below is same h =
    ap (λ ns. ns ++ Rest names (k + 1)) same ∙ ap (λ ns. before ++ ns) (sym (with_next names k false below is)) ∙ h

pub numbers_end : (names : Names) (k : ℕ) (before all : List ℕ) → 32 ≤ k → before ++ numbers_from names k (32 - k) ≡ all → before ≡ all
numbers_end names k before all above h =
    let none : 32 - k ≡ 0 = omega (arith, above) in
    sym (append-nil before) ∙ ap (λ ns. before ++ ns) (sym (ap (numbers_from names k) none ∙ no_number names k)) ∙ h

-- the numbers from one on are the same where none is left out
skip_to : (names : Names) (gap first count : ℕ) → ((q : ℕ) → first ≤ q → q < first + gap → set.contains names q ≡ false) →
    numbers_from names first (gap + count) ≡ numbers_from names (first + gap) count
skip_to names zero first count none = ap₂ (numbers_from names) (omega arith) (omega arith)
skip_to names (suc gap) first count none =
    let more : suc gap + count ≡ suc (gap + count) = omega arith in
    let further : first + 1 + gap ≡ first + suc gap = omega arith in
    ap (numbers_from names first) more
    ∙ next_number names first (gap + count)
    ∙ ap (λ b. if b then first ∷ numbers_from names (first + 1) (gap + count) else numbers_from names (first + 1) (gap + count))
    (none first (omega arith) (omega arith))
    ∙ skip_to names gap (first + 1) count (λ q above below. none q (omega (arith, above)) (omega (arith, below)))
    ∙ ap (λ n. numbers_from names n count) further

none_from : (names : Names) (count first : ℕ) → ((q : ℕ) → first ≤ q → set.contains names q ≡ false) → numbers_from names first count ≡ []
none_from names zero first none = no_number names first
none_from names (suc count) first none =
    next_number names first count
    ∙ ap (λ b. if b then first ∷ numbers_from names (first + 1) count else numbers_from names (first + 1) count) (none first (omega arith))
    ∙ none_from names count (first + 1) (λ q above. none q (omega (arith, above)))

module _ (names : Names) (least : ℕ) (d : Data) (ds : Items) where
  -- the next number is above those before, and below 32
  pub record Next (chosen : Names) : Type 0 where
    pub n : ℕ
    pub is : d ≡ whole n
    pub above : least ≤ n
    pub below : n < 32
    pub rest : names_from (n + 1) (set.insert names n) ds ≡ Some chosen

  pub next : (chosen : Names) → names_from least names (item d ds) ≡ Some chosen → Next chosen
  next chosen e =
      let n = bind_some (number_of d) (λ n. if nat_le least n && nat_lt n 32 then names_from (n + 1) (set.insert names n) ds else None) chosen e in
      let t = tested (nat_le least n.0 && nat_lt n.0 32) (names_from (n.0 + 1) (set.insert names n.0) ds) chosen n.2 in
      let parts = both (nat_le least n.0) (nat_lt n.0 32) t.0 in
      record {
        n = n.0;
        is = whole_is d n.0 n.1;
        above = leb-true least n.0 parts.0;
        below = ltb-true n.0 32 parts.1;
        rest = t.1;
      }

same_names : (names chosen : Names) → Some names ≡ Some chosen → names ≡ chosen
same_names names chosen e = cc

-- of the names below the next number nothing more is read
unchanged : (ds : Items) (least : ℕ) (names chosen : Names) → names_from least names ds ≡ Some chosen → (q : ℕ) → q < least →
    set.contains chosen q ≡ set.contains names q
unchanged no_items least names chosen e q below = ap (λ (s : Names). set.contains s q) (sym (same_names names chosen e))
unchanged (item d ds) least names chosen e q below =
    let x = next names least d ds chosen e in
    unchanged ds (x.n + 1) (set.insert names x.n) chosen x.rest q (omega (arith, x.above, below))
    ∙ contains_other names x.n q (λ same. omega (arith, x.above, below, same))

-- a number read after some others: these are below it, and it is in the set
module _ (names : Names) (least : ℕ) (d : Data) (ds : Items) (chosen : Names) (x : Next names least d ds chosen) where
  there : set.contains chosen x.n ≡ true
  there = unchanged ds (x.n + 1) (set.insert names x.n) chosen x.rest x.n (omega arith) ∙ contains_itself names x.n

  passed : ((q : ℕ) → least ≤ q → set.contains names q ≡ false) → (q : ℕ) → least ≤ q → q < least + (x.n - least) → set.contains chosen q ≡ false
  passed none q above below =
      unchanged ds (x.n + 1) (set.insert names x.n) chosen x.rest q (omega (arith, x.above, below))
      ∙ contains_other names x.n q (λ same. omega (arith, x.above, below, same)) ∙ none q above

  none_after : ((q : ℕ) → least ≤ q → set.contains names q ≡ false) → (q : ℕ) → x.n + 1 ≤ q → set.contains (set.insert names x.n) q ≡ false
  none_after none q above = contains_other names x.n q (λ same. omega (arith, above, same)) ∙ none q (omega (arith, x.above, above))

  from_least : ((q : ℕ) → least ≤ q → set.contains names q ≡ false) → Rest chosen least ≡ x.n ∷ Rest chosen (x.n + 1)
  from_least none =
      let all : 32 - least ≡ (x.n - least) + (32 - x.n) = omega (arith, x.above, x.below) in
      let here : least + (x.n - least) ≡ x.n = omega (arith, x.above) in
      ap (numbers_from chosen least) all
      ∙ skip_to chosen (x.n - least) least (32 - x.n) (passed none)
      ∙ ap (λ n. numbers_from chosen n (32 - x.n)) here
      ∙ with_next chosen x.n true x.below there

-- what is read as a set of names is the list of its numbers
numbers_are : (ds : Items) (least : ℕ) (names chosen : Names) → ((q : ℕ) → least ≤ q → set.contains names q ≡ false) →
    names_from least names ds ≡ Some chosen → ds ≡ items_of (map whole (numbers_from chosen least (32 - least)))
numbers_are no_items least names chosen none e =
    ap (λ (ns : List ℕ). items_of (map whole ns)) (sym (none_from chosen (32 - least) least
    (λ q above. ap (λ (s : Names). set.contains s q) (sym (same_names names chosen e)) ∙ none q above)))
numbers_are (item d ds) least names chosen none e =
    let x = next names least d ds chosen e in
    ap₂ item x.is (numbers_are ds (x.n + 1) (set.insert names x.n) chosen (none_after names least d ds chosen x none) x.rest)
    ∙ ap (λ (ns : List ℕ). items_of (map whole ns)) (sym (from_least names least d ds chosen x none))

pub names_are : (ds : Items) (chosen : Names) → names_from 0 set.empty ds ≡ Some chosen → ds ≡ items_of (map whole (numbers_of chosen))
names_are ds chosen e = numbers_are ds 0 set.empty chosen (λ q above. set.contains-empty nat_cmp q) e

-- and the other way round

-- the names so far are those of the set up to the next number
record AreUpTo (first : ℕ) (names chosen : Names) : Type 0 where
  same : (q : ℕ) → q < first → set.contains names q ≡ set.contains chosen q
  none : (q : ℕ) → first ≤ q → set.contains names q ≡ false

module _ (first : ℕ) (names chosen : Names) (upto : AreUpTo first names chosen) where
  all_read : first ≡ 32 → AreNamesBelow 32 chosen → names ≡ chosen
  all_read last low = set.same_set nat_cmp_total nat_cmp-IsAntisymmetric names chosen (λ q. go q (nat_lt q first) refl (set.contains chosen q) refl)
    where
      go : (q : ℕ) (b : Bool) → nat_lt q first ≡ b → (held : Bool) → set.contains chosen q ≡ held → set.contains names q ≡ set.contains chosen q
      go q true is held has = upto.same q (ltb-true q first is)
      go q false is true has = absurd (let below = low q has in let above = ltb-false q first is in omega (arith, last))
      go q false is false has = upto.none q (ltb-false q first is) ∙ sym has

  with_first : set.contains chosen first ≡ true → AreUpTo (first + 1) (set.insert names first) chosen
  with_first is = record {
    same = λ q below. go q (q == first) refl below;
    none = λ q above. contains_other names first q (λ same. omega (arith, above, same)) ∙ upto.none q (omega (arith, above));
  }
    where
      go : (q : ℕ) (b : Bool) → (q == first) ≡ b → q < first + 1 → set.contains (set.insert names first) q ≡ set.contains chosen q
      go q true at below =
          let here = eqb-true q first at in
          ap (set.contains (set.insert names first)) here ∙ contains_itself names first ∙ sym is ∙ ap (set.contains chosen) (sym here)
      go q false at below = contains_other names first q (eqb-false q first at) ∙ upto.same q (below_it q first (eqb-false q first at) below)

  without_first : set.contains chosen first ≡ false → AreUpTo (first + 1) names chosen
  without_first is = record {
    same = λ q below. go q (q == first) refl below;
    none = λ q above. upto.none q (omega (arith, above));
  }
    where
      go : (q : ℕ) (b : Bool) → (q == first) ≡ b → q < first + 1 → set.contains names q ≡ set.contains chosen q
      go q true at below =
          let here = eqb-true q first at in
          ap (set.contains names) here ∙ upto.none first (omega arith) ∙ sym is ∙ ap (set.contains chosen) (sym here)
      go q false at below = upto.same q (below_it q first (eqb-false q first at) below)

again : (count first least : ℕ) (chosen names : Names) → first + count ≡ 32 → least ≤ first → AreUpTo first names chosen →
    AreNamesBelow 32 chosen → names_from least names (items_of (map whole (numbers_from chosen first count))) ≡ Some chosen
again zero first least chosen names last few upto low =
    ap (λ ns. names_from least names (items_of (map whole ns))) (no_number chosen first)
    ∙ ap Some (all_read first names chosen upto (omega (arith, last)) low)
again (suc count) first least chosen names last few upto low =
    ap (λ ns. names_from least names (items_of (map whole ns))) (next_number chosen first count)
    ∙ go (set.contains chosen first) refl
    (λ is. again count (first + 1) (first + 1) chosen (set.insert names first) (omega (arith, last)) (omega arith) (with_first first names chosen upto is) low)
    (λ is. again count (first + 1) least chosen names (omega (arith, last)) (omega (arith, few)) (without_first first names chosen upto is) low)
  where
    go : (b : Bool) → set.contains chosen first ≡ b →
        (set.contains chosen first ≡ true → names_from (first + 1) (set.insert names first) (items_of (map whole (numbers_from chosen (first + 1) count))) ≡ Some chosen) →
        (set.contains chosen first ≡ false → names_from least names (items_of (map whole (numbers_from chosen (first + 1) count))) ≡ Some chosen) →
        names_from least names (items_of (map whole (if b then first ∷ numbers_from chosen (first + 1) count else numbers_from chosen (first + 1) count))) ≡ Some chosen
    go true is taken passed =
        ap (λ b. if b then names_from (first + 1) (set.insert names first) (items_of (map whole (numbers_from chosen (first + 1) count))) else None)
        (ap₂ ◌&&◌ (le-leb least first few) (lt-ltb first 32 (omega (arith, last)))) ∙ taken is
    go false is taken passed = passed is

pub names_again : (chosen : Names) → AreNamesBelow 32 chosen → names_from 0 set.empty (items_of (map whole (numbers_of chosen))) ≡ Some chosen
names_again chosen low = again 32 0 0 chosen set.empty refl (omega arith) (record {
  same = λ q below. absurd (omega (arith, below));
  none = λ q above. set.contains-empty nat_cmp q;
}) low
