-- Rows that tie are one; the answers of their order.
use Rattle.std.proofs.Common.{◌≡◌, ℕ, List, [], ◌∷◌, Bool, true, false, refl, ap, ◌∙◌}
use Rattle.std.specs.declared.cmp.Ordering.{Ordering}
use Rattle.std.specs.declared.cmp.Ordering.TheVariants.{Less, Equal, Greater}
use Rattle.std.specs.List.{AllByRecursion}
use Rattle.std.specs.Ordering.{is_lt, is_eq, eq_by_cmp, ordering_reverse}
use Rattle.std.specs.Cmp.{tied_itself}
use Rattle.std.proofs.lemmas.Map.Lookups.{exact_pairs, exact_unsigned, exact_bytes}
use Rattle.diff_core.specs.Rows.{Row, row_cmp}
use Rattle.diff_core.specs.RowOrder.{row_total}

abbrev Parts : Type 0
Parts = ((((List ℕ × List ℕ) × ℕ) × ℕ) × ℕ) × List ℕ

abbrev parts : Row → Parts
parts r = (((((r.topic, r.key), r.name), r.pid), r.clock), r.metadata)

abbrev from_parts : Parts → Row
from_parts t = record { topic = t.0.0.0.0.0; key = t.0.0.0.0.1; name = t.0.0.0.1; pid = t.0.0.1; clock = t.0.1; metadata = t.1 }

pub row_exact : (a b : Row) → row_cmp a b ≡ Equal → a ≡ b
row_exact a b h = ap from_parts (exact_pairs _ _ (exact_pairs _ _ (exact_pairs _ _
    (exact_pairs _ _ (exact_pairs _ _ exact_bytes exact_bytes) exact_unsigned) exact_unsigned) exact_unsigned) exact_bytes (parts a)
    (parts b) h)

-- whether two rows are one
abbrev pub is_row : Row → Row → Bool
is_row a b = eq_by_cmp row_cmp a b

pub is_row-itself : (a : Row) → is_row a a ≡ true
is_row-itself a = ap is_eq (tied_itself row_total a)

equal_of : (r : Ordering) → is_eq r ≡ true → r ≡ Equal
equal_of Less h = absurd (cc)
equal_of Equal h = refl
equal_of Greater h = absurd (cc)

pub is_row-true : (a b : Row) → is_row a b ≡ true → a ≡ b
is_row-true a b h = row_exact a b (equal_of (row_cmp a b) h)

pub less_of : (r : Ordering) → is_lt r ≡ true → r ≡ Less
less_of Less h = refl
less_of Equal h = absurd (cc)
less_of Greater h = absurd (cc)

-- of two rows, the first is below, it is the second, or the second is below
pub cases_row : {P : Type 0} (a b : Row) → (row_cmp a b ≡ Less → P) → (a ≡ b → P) → (row_cmp b a ≡ Less → P) → P
cases_row {P} a b below same above = go (row_cmp a b) refl
  where
    go : (r : Ordering) → row_cmp a b ≡ r → P
    go Less h = below h
    go Equal h = same (row_exact a b h)
    go Greater h = above (row_total.antisymm b a ∙ ap ordering_reverse h)

-- a row below another one is not it, and not above it
pub is_row-below : (a b : Row) → row_cmp a b ≡ Less → is_row a b ≡ false
is_row-below a b h = ap is_eq h

pub is_row-above : (a b : Row) → row_cmp a b ≡ Less → is_row b a ≡ false
is_row-above a b h = ap is_eq (row_total.antisymm b a ∙ ap ordering_reverse h)

-- a row below one that is below all of these is below all of them
pub all_above : (a b : Row) (rows : List Row) → row_cmp a b ≡ Less → AllByRecursion (λ r. row_cmp b r ≡ Less) rows →
    AllByRecursion (λ r. row_cmp a r ≡ Less) rows
all_above a b [] below all = tt
all_above a b (r ∷ rows) below all = (row_total.trans a b r below all.0, all_above a b rows below all.1)

pub not_itself : (a : Row) → row_cmp a a ≡ Less → ⊥
not_itself a h = let tie = tied_itself row_total a in absurd (cc)
