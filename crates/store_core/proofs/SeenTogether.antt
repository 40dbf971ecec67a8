-- Dots of one name put into a set one after another, and taken out again.
use Rattle.std.proofs.Common.{◌≡◌, ◌≢◌, ℕ, zero, suc, ◌+◌, ◌-◌, ◌<◌, ◌⊎◌, inl, inr, ◌&&◌, not, false, List, []}
use Rattle.std.proofs.Common.{◌∷◌, refl, sym, ap, subst, ◌∙◌, arith}
use Rattle.std.proofs.lemmas.Bool.{cases_eq}
use Rattle.std.specs.FinSet as set
use Rattle.std.specs.List.{AllByRecursion}
use Rattle.dots_core.specs.declared.dot.Dot.{Dot}
use Rattle.dots_core.specs.Dots.{Dots, HasClocks, count_of, dot}
use Rattle.dots_core.specs.Contexts.{IsLast}
use Rattle.dots_core.proofs.OwnClock.{clocks_more, count_more}
use Rattle.dots_core.proofs.Order.{dot_cases, is_dot, is_dot_same}
use Rattle.dots_core.proofs.Sets.{contains_insert_other}
use Rattle.store_core.specs.LeavesTogether.{with_dots, with_next, without_next}
use Rattle.store_core.proofs.StoreEdits.{inserts_swap, removed_inserted, contains-remove, never_both}

-- one more

pub next_put : (name clock n : ℕ) (s cur new : Dots) → cur ≡ with_next name clock n s → new ≡ set.insert cur (dot name (clock + n + 1)) →
    new ≡ with_next name clock (n + 1) s
next_put name clock n s cur new so_far is =
    let at : clock + n + 1 ≡ clock + suc n = omega arith in
    let more : suc n ≡ n + 1 = omega arith in
    is ∙ (λ i. set.insert (so_far i) (dot name (at i))) ∙ ap (λ n. with_next name clock n s) more

-- where no clock of the name is missing, none is after the next dot

abbrev pub CountsTo : ℕ → ℕ → Dots → Type 0
CountsTo name clock s = HasClocks name s × (count_of name s ≡ clock)

pub counts_on : (name clock : ℕ) (s new : Dots) → CountsTo name clock s → new ≡ set.insert s (dot name (clock + 1)) →
    CountsTo name (clock + 1) new
counts_on name clock s new counts is =
    let same : new ≡ set.insert s (dot name (count_of name s + 1)) = is ∙ ap (λ c. set.insert s (dot name (c + 1))) (sym counts.1) in (
      subst (HasClocks name) (sym same) (clocks_more name s counts.0),
      ap (count_of name) same ∙ count_more name s counts.0
          ∙ ap (λ c. c + 1) counts.1,
    )

-- one less

removed : (s : Dots) (d : Dot) → set.contains (set.remove s d) d ≡ false
removed s d = contains-remove s d d ∙ ap (λ b. not b && set.contains s d) (is_dot_same d)

pub next_out : (name clock count done : ℕ) (s cur new : Dots) → done < count →
    without_next name clock (count - done) cur ≡ without_next name clock count s →
    new ≡ set.remove cur (dot name (clock + (count - done))) →
    without_next name clock (count - (done + 1)) new ≡ without_next name clock count s
next_out name clock count done s cur new more so_far is =
    let at : count - done ≡ suc (count - (done + 1)) = omega arith in
    ap (without_next name clock (count - (done + 1))) (is ∙ ap (λ n. set.remove cur (dot name (clock + n))) at)
    ∙ sym (ap (λ n. without_next name clock n cur) at)
    ∙ so_far

pub last_below : (name clock count done : ℕ) (cur new : Dots) → done < count → IsLast (dot name (clock + (count - done))) cur →
    new ≡ set.remove cur (dot name (clock + (count - done))) → IsLast (dot name (clock + (count - (done + 1)))) new
last_below name clock count done cur new more last is k above =
    ap (λ s. set.contains s (dot name k)) is ∙ go (dot_cases (dot name k) (dot name (clock + (count - done))))
  where
    go : (dot name k ≡ dot name (clock + (count - done))) ⊎ (dot name k ≢ dot name (clock + (count - done))) →
        set.contains (set.remove cur (dot name (clock + (count - done)))) (dot name k) ≡ false
    go (inl same) =
        ap (set.contains (set.remove cur (dot name (clock + (count - done))))) same ∙ removed cur (dot name (clock + (count - done)))
    go (inr other) =
        contains-remove cur (dot name (clock + (count - done))) (dot name k)
        ∙ never_both (is_dot (dot name k) (dot name (clock + (count - done)))) _
        (last k (higher (cases_eq k (clock + (count - done))) other))
      where
        higher : (k ≡ clock + (count - done)) ⊎ (k ≢ clock + (count - done)) → (dot name k ≢ dot name (clock + (count - done))) →
            clock + (count - done) < k
        higher (inl e) other = absurd (other (ap (dot name) e))
        higher (inr d) other = omega (arith, more, above, d)

-- the dots put in, in another order

pub with_one_more : (ds : List Dot) (s : Dots) (d : Dot) → with_dots ds (set.insert s d) ≡ set.insert (with_dots ds s) d
with_one_more [] s d = refl
with_one_more (e ∷ ds) s d = ap (with_dots ds) (inserts_swap s d e) ∙ with_one_more ds (set.insert s e) d

pub next_first : (name clock n : ℕ) (s : Dots) →
    with_next name (clock + 1) n (set.insert s (dot name (clock + 1))) ≡ with_next name clock (suc n) s
next_first name clock zero s = refl
next_first name clock (suc n) s =
    let at : clock + 1 + suc n ≡ clock + suc (suc n) = omega arith in
    λ i. set.insert (next_first name clock n s i) (dot name (at i))

-- put in and taken out again

-- each dot of the name above this clock is none of the set
abbrev pub EndsAt : ℕ → ℕ → Dots → Type 0
EndsAt name clock s = (k : ℕ) → clock < k → set.contains s (dot name k) ≡ false

still_out : (name clock n : ℕ) (s : Dots) (k : ℕ) → clock + n < k → set.contains s (dot name k) ≡ false →
    set.contains (with_next name clock n s) (dot name k) ≡ false
still_out name clock zero s k above out = out
still_out name clock (suc n) s k above out =
    contains_insert_other (with_next name clock n s) (dot name (clock + suc n)) (dot name k)
    (λ e. let same = ap (λ (d : Dot). d.clock) e in absurd (omega (arith, same, above)))
    ∙ still_out name clock n s k (omega (arith, above)) out

pub next_back : (name clock n : ℕ) (s : Dots) → EndsAt name clock s → without_next name clock n (with_next name clock n s) ≡ s
next_back name clock zero s ends = refl
next_back name clock (suc n) s ends =
    ap (without_next name clock n)
    (removed_inserted (with_next name clock n s) (dot name (clock + suc n))
    (still_out name clock n s (clock + suc n) (omega arith) (ends (clock + suc n) (omega arith))))
    ∙ next_back name clock n s ends

-- they count on

pub counts_after : (name n : ℕ) (s : Dots) → HasClocks name s → CountsTo name (count_of name s + n) (with_next name (count_of name s) n s)
counts_after name zero s clocks = (clocks, omega arith)
counts_after name (suc n) s clocks =
    let at : count_of name s + n + 1 ≡ count_of name s + suc n = omega arith in
    subst (λ c. CountsTo name c (with_next name (count_of name s) (suc n) s)) at
    (counts_on name (count_of name s + n) (with_next name (count_of name s) n s) (with_next name (count_of name s) (suc n) s)
    (counts_after name n s clocks)
    (ap (λ c. set.insert (with_next name (count_of name s) n s) (dot name c)) (sym at)))

-- other dots than one of them leave it out

abbrev pub AreOther : Dot → List Dot → Type 0
AreOther d ds = AllByRecursion (λ (e : Dot). e ≢ d) ds

pub other_dots : (ds : List Dot) (s : Dots) (d : Dot) → AreOther d ds → set.contains (with_dots ds s) d ≡ set.contains s d
other_dots [] s d other = refl
other_dots (e ∷ ds) s d other = other_dots ds (set.insert s e) d other.1 ∙ contains_insert_other s e d (λ same. other.0 (sym same))
