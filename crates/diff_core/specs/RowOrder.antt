-- The order of rows is total, and rows count as equal if they tie in it.
use Rattle.std.specs.Prelude.{◌≡◌, refl}
use Rattle.std.specs.Ordering.{eq_by_cmp, as_partial_cmp}
use Rattle.std.specs.Cmp.{IsTotalOrder, IsEquivalence, IsPartialOrder, nat_cmp_total, eq_by_cmp_equiv, partial_order_from_total, on_total, then_total}
use Rattle.std.specs.Cmp.Lexicographic.{nat_list_cmp_total}
use Rattle.diff_core.specs.Rows.{Row, row_cmp}

pub row_total : IsTotalOrder row_cmp
row_total =
    then_total (then_total (then_total (then_total (then_total (on_total (λ (r : Row). r.topic) nat_list_cmp_total)
    (on_total (λ (r : Row). r.key) nat_list_cmp_total)) (on_total (λ (r : Row). r.name) nat_cmp_total))
    (on_total (λ (r : Row). r.pid) nat_cmp_total)) (on_total (λ (r : Row). r.clock) nat_cmp_total))
    (on_total (λ (r : Row). r.metadata) nat_list_cmp_total)

pub row_equiv : IsEquivalence (eq_by_cmp row_cmp)
row_equiv = eq_by_cmp_equiv row_total

pub row_po : IsPartialOrder (eq_by_cmp row_cmp) (as_partial_cmp row_cmp)
row_po = partial_order_from_total row_total

pub row_ties : (x y : Row) → eq_by_cmp row_cmp x y ≡ eq_by_cmp row_cmp x y
row_ties x y = refl
