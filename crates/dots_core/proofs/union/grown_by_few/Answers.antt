use Rattle.std.proofs.Common.{◌≡◌, ◌+◌, true, subst, arith}
use Rattle.dots_core.specs.Clocks.{is_among}
use Rattle.dots_core.proofs.Clocks.{rises_within}
use Rattle.dots_core.proofs.union.grown_by_few.Goals as goal

pub insert_each-requires : goal.insert_each-requires
insert_each-requires g c = λ k t.
    let r = rises_within (c.other.inside.clock + 1) c.other.inside.cloud.items k c.other.invariant.rises
    (subst (λ xs. is_among k xs ≡ true) c.deref.ensures.value t) in (omega (arith, r), r.1)
