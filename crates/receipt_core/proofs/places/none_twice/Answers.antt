use Rattle.receipt_core.proofs.Named.{distinct_is_fresh}
use Rattle.receipt_core.proofs.places.none_twice.Goals as goal

pub returns : goal.returns
returns g c =
    let marks = c.in_ok-marks.ensures.items_if_clones_equal (λ y e. e) in
    let fresh = rw (c.deref.ensures.value, marks, c.in_ok-places.ensures) at c.are_fresh.ensures in
    let both = distinct_is_fresh _ _ c.requires in
    ((λ t. both.0 (fresh.0 t)), (λ d. fresh.1 (both.1 d)))
