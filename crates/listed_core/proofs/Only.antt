-- The rows of one list alone.
use Rattle.std.proofs.Common.{◌≡◌, ◌⊎◌, inl, inr, ◌↔◌, Bool, true, false, not, cond, List, [], ◌∷◌, filter, refl, sym, ap, ◌∙◌, subst}
use Rattle.std.specs.Ordering.{eq_by_cmp}
use Rattle.std.specs.List.{Contains, dedup}
use Rattle.std.specs.List.Retain.{IsFiltered, DiffersFromLast}
use Rattle.std.specs.List.Sorted.{IsPermutation, IsSorted}
use Rattle.std.proofs.lemmas.Bool.{cases_Bool, or_cases, or_left, or_right, not-true, not_from_false, false_from_ne_true, both_ways}
use Rattle.std.proofs.lemmas.List.Filters.{dedup_is}
use Rattle.std.proofs.lemmas.List.Kept.{Contains-dedup, Contains-from_dedup, IsStrictlySortedBy-dedup, IsStrictlySortedBy-filter}
use Rattle.std.proofs.lemmas.List.Sorted.{list_any-IsPermutation}
use Rattle.std.proofs.lemmas.Map.Views.{list_any-from_Contains, Contains-from_any}
use Rattle.diff_core.specs.Rows.{Row, row_cmp, is_among}
use Rattle.diff_core.specs.RowOrder.{row_total, row_equiv}
use Rattle.diff_core.specs.Online.{AreInOrder}
use Rattle.diff_core.specs.Diffs.{alone}
use Rattle.diff_core.proofs.Order.{is_row, is_row-true}
use Rattle.listed_core.specs.Against.{AreOnly}

-- a row among others

among : (rows : List Row) (x : Row) → Contains rows x → is_among rows x ≡ true
among rows x h = list_any-from_Contains row_equiv x rows h

from_among : (rows : List Row) (x : Row) → is_among rows x ≡ true → Contains rows x
from_among rows x h = Contains-from_any is_row-true x rows h

module _ (p : Row → Bool) (x : Row) where
  kept : (rows : List Row) → is_among (filter p rows) x ≡ true → (is_among rows x ≡ true) × (p x ≡ true)
  kept [] h = absurd (cc)
  kept (y ∷ rows) h = go (cases_Bool (p y)) (kept rows)
    where
      later : (is_among rows x ≡ true) × (p x ≡ true) → (is_among (y ∷ rows) x ≡ true) × (p x ≡ true)
      later r = (or_right (is_row x y) (is_among rows x) r.0, r.1)

      go : (p y ≡ true) ⊎ (p y ≡ false) → (is_among (filter p rows) x ≡ true → (is_among rows x ≡ true) × (p x ≡ true)) →
          (is_among (y ∷ rows) x ≡ true) × (p x ≡ true)
      go (inr drops) rest = later (rest (subst (λ b. is_among (cond b (y ∷ filter p rows) (filter p rows)) x ≡ true) drops h))
      go (inl keeps) rest = at (or_cases (is_row x y) (is_among (filter p rows) x)
          (subst (λ b. is_among (cond b (y ∷ filter p rows) (filter p rows)) x ≡ true) keeps h))
        where
          at : (is_row x y ≡ true) ⊎ (is_among (filter p rows) x ≡ true) → (is_among (y ∷ rows) x ≡ true) × (p x ≡ true)
          at (inl same) = (or_left (is_row x y) (is_among rows x) same, ap p (is_row-true x y same) ∙ keeps)
          at (inr more) = later (rest more)

  keeps : (rows : List Row) → is_among rows x ≡ true → p x ≡ true → is_among (filter p rows) x ≡ true
  keeps [] h passes = absurd (cc)
  keeps (y ∷ rows) h passes = go (cases_Bool (p y)) (or_cases (is_row x y) (is_among rows x) h) (λ more. keeps rows more passes)
    where
      go : (p y ≡ true) ⊎ (p y ≡ false) → (is_row x y ≡ true) ⊎ (is_among rows x ≡ true) → (is_among rows x ≡ true → is_among (filter p rows) x ≡ true) →
          is_among (cond (p y) (y ∷ filter p rows) (filter p rows)) x ≡ true
      go (inl keeps) (inl same) rest = subst (λ b. is_among (cond b (y ∷ filter p rows) (filter p rows)) x ≡ true) (sym keeps)
          (or_left (is_row x y) (is_among (filter p rows) x) same)
      go (inl keeps) (inr more) rest = subst (λ b. is_among (cond b (y ∷ filter p rows) (filter p rows)) x ≡ true) (sym keeps)
          (or_right (is_row x y) (is_among (filter p rows) x) (rest more))
      go (inr drops) (inl same) rest = absurd (both_ways (p y) drops (ap p (sym (is_row-true x y same)) ∙ passes))
      go (inr drops) (inr more) rest = subst (λ b. is_among (cond b (y ∷ filter p rows) (filter p rows)) x ≡ true) (sym drops) (rest more)

-- lists in order, each row once

pub once : (rows sorted kept : List Row) → IsPermutation rows sorted → IsFiltered (DiffersFromLast (eq_by_cmp row_cmp)) [] sorted kept → (x : Row) →
    Contains kept x ↔ Contains rows x
once rows sorted kept moved filtered x = (there, back)
  where
    is : kept ≡ dedup (eq_by_cmp row_cmp) sorted
    is = dedup_is (eq_by_cmp row_cmp) sorted kept filtered

    same : is_among rows x ≡ is_among sorted x
    same = list_any-IsPermutation (is_row x) rows sorted moved

    there : Contains kept x → Contains rows x
    there h = from_among rows x (same ∙ among sorted x (Contains-from_dedup (eq_by_cmp row_cmp) sorted x (subst (λ l. Contains l x) is h)))

    back : Contains rows x → Contains kept x
    back h = subst (λ l. Contains l x) (sym is)
        (Contains-dedup row_equiv is_row-true sorted x (from_among sorted x (sym same ∙ among rows x h)))

pub once_in_order : (sorted kept : List Row) → IsSorted row_cmp sorted → IsFiltered (DiffersFromLast (eq_by_cmp row_cmp)) [] sorted kept → AreInOrder kept
once_in_order sorted kept is filtered =
    subst (λ l. AreInOrder l) (sym (dedup_is (eq_by_cmp row_cmp) sorted kept filtered)) (IsStrictlySortedBy-dedup row_total (λ x y. refl) sorted is)

-- those of one list alone

pub are_only : (found mine yours rows others : List Row) → found ≡ alone mine yours → AreInOrder mine → ((x : Row) → Contains mine x ↔ Contains rows x) →
    ((x : Row) → Contains yours x ↔ Contains others x) → AreOnly found rows others
are_only found mine yours rows others is order same_mine same_yours = record { order = in_order; only = λ x. (there x, back x) }
  where
    in_order : AreInOrder found
    in_order = subst (λ l. AreInOrder l) (sym is) (IsStrictlySortedBy-filter row_cmp (λ row. not (is_among yours row)) mine order)

    there : (x : Row) → Contains found x → Contains rows x × (Contains others x → ⊥)
    there x h =
        let r = kept (λ row. not (is_among yours row)) x mine (among (alone mine yours) x (subst (λ l. Contains l x) is h)) in
        ((same_mine x).0 (from_among mine x r.0), λ o. both_ways (is_among yours x) (not-true (is_among yours x) r.1) (among yours x ((same_yours x).1 o)))

    back : (x : Row) → Contains rows x × (Contains others x → ⊥) → Contains found x
    back x (mine_has, apart) = subst (λ l. Contains l x) (sym is) (from_among (alone mine yours) x
        (keeps (λ row. not (is_among yours row)) x mine (among mine x ((same_mine x).1 mine_has))
        (not_from_false (is_among yours x) (false_from_ne_true (is_among yours x) (λ h. apart ((same_yours x).0 (from_among yours x h)))))))
