-- Sets of names, by what they answer at a number, and the lists that keep them.
use Rattle.std.proofs.Common.{◌≡◌, ◌≢◌, ℕ, ◌<◌, ◌≤◌, ◌==◌, ◌&&◌, ◌||◌, ◌⊎◌, inl, inr, not, Bool, true, false, List, length, get_or, slice_set, sym, ap}
use Rattle.std.proofs.Common.{subst, ◌∙◌, get_or-set_same, get_or-set_other, true≢false}
use Rattle.std.proofs.lemmas.Bool.{eq-eqb, ne_eqb, cases_eq, cases_lt}
use Rattle.std.proofs.lemmas.List.{ext_get_or, get_or_past}
use Rattle.std.specs.Cmp.{nat_cmp_total, unsigned_tied}
use Rattle.std.specs.FinSet as set
use Rattle.std.specs.FinMap.{nat_cmp-IsAntisymmetric}
use Rattle.dots_core.specs.Names.{Names}
use Rattle.dots_core.specs.Flags.{names_of_flags}
use Rattle.dots_core.specs.FlagsBack.{contains-insert_name, contains-names_of_flags}

pub contains-remove_name : (s : Names) (k q : ℕ) → set.contains (set.remove s k) q ≡ (not (q == k) && set.contains s q)
contains-remove_name s k q = set.contains-remove nat_cmp_total s k q ∙ ap (λ b. not b && set.contains s q) (unsigned_tied q k)

pub same_names : (s t : Names) → ((q : ℕ) → set.contains s q ≡ set.contains t q) → s ≡ t
same_names s t h = set.same_set nat_cmp_total nat_cmp-IsAntisymmetric s t h

set_cases : (bs : List Bool) (i : ℕ) (b : Bool) (q : ℕ) → i < length bs → (P : Bool → Type 0) → (q ≡ i → P b) →
    (q ≢ i → P (get_or bs q false)) → P (get_or (slice_set bs i b) q false)
set_cases bs i b q h P same other = go (cases_eq q i)
  where
    go : (q ≡ i) ⊎ (q ≢ i) → P (get_or (slice_set bs i b) q false)
    go (inl e) = subst P (sym (ap (λ k. get_or (slice_set bs i b) k false) e ∙ get_or-set_same bs i b false h)) (same e)
    go (inr d) = subst P (sym (get_or-set_other bs i q b false d)) (other d)

pub names_of_flags-with : (bs : List Bool) (i : ℕ) → i < length bs → names_of_flags (slice_set bs i true) ≡ set.insert (names_of_flags bs) i
names_of_flags-with bs i h = same_names _ _ (λ q.
    contains-names_of_flags (slice_set bs i true) q
    ∙ set_cases bs i true q h (λ b. b ≡ ((q == i) || get_or bs q false))
    (λ e. sym (ap (λ b. b || get_or bs q false) (eq-eqb q i e)))
    (λ d. sym (ap (λ b. b || get_or bs q false) (ne_eqb q i d)))
    ∙ ap (λ b. (q == i) || b) (sym (contains-names_of_flags bs q))
    ∙ sym (contains-insert_name (names_of_flags bs) i q))

pub names_of_flags-without : (bs : List Bool) (i : ℕ) → i < length bs →
    names_of_flags (slice_set bs i false) ≡ set.remove (names_of_flags bs) i
names_of_flags-without bs i h = same_names _ _ (λ q.
    contains-names_of_flags (slice_set bs i false) q
    ∙ set_cases bs i false q h (λ b. b ≡ (not (q == i) && get_or bs q false))
    (λ e. sym (ap (λ b. not b && get_or bs q false) (eq-eqb q i e)))
    (λ d. sym (ap (λ b. not b && get_or bs q false) (ne_eqb q i d)))
    ∙ ap (λ b. not (q == i) && b) (sym (contains-names_of_flags bs q))
    ∙ sym (contains-remove_name (names_of_flags bs) i q))

pub same_flags : (bs cs : List Bool) → length bs ≡ length cs → names_of_flags bs ≡ names_of_flags cs → bs ≡ cs
same_flags bs cs l e =
    ext_get_or false bs cs l (λ k _. sym (contains-names_of_flags bs k) ∙ ap (λ s. set.contains s k) e ∙ contains-names_of_flags cs k)

-- a flag that is set stands in the list
pub flag_below : (bs : List Bool) (n : ℕ) → get_or bs n false ≡ true → n < length bs
flag_below bs n t = go (cases_lt n (length bs))
  where
    go : (n < length bs) ⊎ (length bs ≤ n) → n < length bs
    go (inl below) = below
    go (inr past) = absurd (true≢false (sym t ∙ get_or_past bs n false past))
