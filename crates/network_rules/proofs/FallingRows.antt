-- Rows in which each set of names has all that the next one has.
use Rattle.std.proofs.Common.{◌≡◌, ◌⊎◌, inl, inr, ℕ, suc, ◌-◌, ◌<◌, ◌≤◌, List, length, slice_get, Option, Some, None, refl, sym, ap, ◌∙◌, subst, arith}
use Rattle.std.proofs.lemmas.Bool.{cases_lt}
use Rattle.std.proofs.lemmas.Option.{slice_get_past}
use Rattle.std.specs.FinSet as set
use Rattle.std.specs.Option.{unwrap_or}
use Rattle.dots_core.specs.Names.{Names}
use Rattle.network_rules.specs.NameSets.{all_names}
use Rattle.network_rules.specs.Tables.{in_row, names_at, Within}

same_within : (a b : Names) → a ≡ b → Within a b
same_within a b same q h = ap (λ s. set.contains s q) (sym same) ∙ h

past : (row : List Names) (p : ℕ) → length row ≤ p → in_row (Some row) p ≡ unwrap_or (slice_get row (length row - 1)) all_names
past row p le = ap (λ o. unwrap_or o (unwrap_or (slice_get row (length row - 1)) all_names)) (slice_get_past row p le)

pub falling : (row : List Names) → ((p : ℕ) → suc p < length row → Within (in_row (Some row) (suc p)) (in_row (Some row) p)) → (p : ℕ) → Within (in_row (Some row) (suc p)) (in_row (Some row) p)
falling row all p = go (cases_lt (suc p) (length row)) (cases_lt p (length row))
  where
    go : (suc p < length row) ⊎ (length row ≤ suc p) → (p < length row) ⊎ (length row ≤ p) → Within (in_row (Some row) (suc p)) (in_row (Some row) p)
    go (inl lt) other = all p lt
    go (inr le) (inr past_too) = same_within _ _ (past row (suc p) le ∙ sym (past row p past_too))
    go (inr le) (inl lt) = same_within _ _ (past row (suc p) le ∙ ap (λ n. unwrap_or (slice_get row n) all_names) last ∙ both (slice_get row p) refl)
      where
        last : length row - 1 ≡ p
        last = omega (arith, le, lt)

        both : (o : Option Names) → slice_get row p ≡ o → unwrap_or (slice_get row p) all_names ≡ in_row (Some row) p
        both (Some x) is = ap (λ o. unwrap_or o all_names) is ∙ sym (ap (λ o. unwrap_or o (unwrap_or (slice_get row (length row - 1)) all_names)) is)
        both None is = ap (λ o. unwrap_or o all_names) is ∙ sym (ap (λ o. unwrap_or o all_names) is)
            ∙ ap (λ n. unwrap_or (slice_get row n) all_names) (sym last) ∙ sym (ap (λ o. unwrap_or o (unwrap_or (slice_get row (length row - 1)) all_names)) is)

-- of several rows

abbrev pub Falls : List (List Names) → ℕ → Type 0
Falls rows n = (p : ℕ) → Within (names_at rows n (suc p)) (names_at rows n p)

pub falls_at : (rows : List (List Names)) (n : ℕ) (row : List Names) → slice_get rows n ≡ Some row → ((p : ℕ) → Within (in_row (Some row) (suc p)) (in_row (Some row) p)) → Falls rows n
falls_at rows n row at all p = subst (λ o. Within (in_row o (suc p)) (in_row o p)) (sym at) (all p)

pub falls_past : (rows : List (List Names)) (n : ℕ) → length rows ≤ n → Falls rows n
falls_past rows n le p = subst (λ o. Within (in_row o (suc p)) (in_row o p)) (sym (slice_get_past rows n le)) (λ q h. h)

pub all_fall : (rows : List (List Names)) (m : ℕ) → ((n p : ℕ) → n < m → Within (names_at rows n (suc p)) (names_at rows n p)) → length rows ≤ m → (n p : ℕ) → Within (names_at rows n (suc p)) (names_at rows n p)
all_fall rows m so_far le n p = go (cases_lt n m)
  where
    go : (n < m) ⊎ (m ≤ n) → Within (names_at rows n (suc p)) (names_at rows n p)
    go (inl lt) = so_far n p lt
    go (inr past_end) = falls_past rows n (omega (arith, past_end, le)) p
