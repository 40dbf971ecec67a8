use Rattle.std.proofs.Common.{◌+◌, ◌&&◌, ℕ, List, slice_get, nat_lt, nat_le, Some, Ok, Err, ap, subst, ◌∙◌, arith}
use Rattle.std.proofs.lemmas.Bool.{or_right}
use Rattle.dots_core.specs.Clocks.{Clocks, is_among, IsFirstFrom}
use Rattle.dots_core.proofs.Clocks.{holds_low}
use Rattle.dots_core.proofs.Changes.{Searched, found_among}
use Rattle.dots_core.proofs.FirstFrom.{first_above, first_itself, from_first}
use Rattle.dots_core.proofs.part.Part.first_from.Goals as goal

pub returns-then-clock-self : goal.returns-then-clock-self
returns-then-clock-self g c =
    let p : Clocks = record { clock = c.self.inside.clock; cloud = c.self.inside.cloud.items } in
    let k = c.max-clock.result in
    subst (λ p. IsFirstFrom p c.args.clock (Some k)) c.self.view_is
    (from_first p c.args.clock k (Some k) c.self.invariant c.max-clock.ensures
    (first_itself p k (holds_low p k (omega (arith, c.max-clock.ensures)) c.if-clock-self.true)))

pub returns-in-Ok : goal.returns-in-Ok
returns-in-Ok g c =
    let p : Clocks = record { clock = c.self.inside.clock; cloud = c.self.inside.cloud.items } in
    let k = c.max-clock.result in
    let position : Searched k p.cloud (Ok c.in-Ok.field-0) = rw c.deref.ensures.value at c.in-Ok.ensures.position in
    subst (λ p. IsFirstFrom p c.args.clock (Some k)) c.self.view_is
    (from_first p c.args.clock k (Some k) c.self.invariant c.max-clock.ensures
    (first_itself p k (or_right (nat_lt 0 k && nat_le k p.clock) (is_among k p.cloud)
    (found_among (p.clock + 1) k p.cloud c.in-Ok.field-0 c.self.invariant.rises position))))

pub returns-in-Err : goal.returns-in-Err
returns-in-Err g c =
    let p : Clocks = record { clock = c.self.inside.clock; cloud = c.self.inside.cloud.items } in
    let k = c.max-clock.result in
    let position : Searched k p.cloud (Err c.in-Err.place) = rw c.deref.ensures.value at c.in-Err.ensures.position in
    subst (λ p. IsFirstFrom p c.args.clock c.clock_at.result) c.self.view_is
    (from_first p c.args.clock k c.clock_at.result c.self.invariant c.max-clock.ensures
    (first_above p k c.in-Err.place c.self.invariant (omega (arith, c.if-clock-self.false)) position c.clock_at.result
    (c.clock_at.ensures ∙ ap (λ (xs : List ℕ). slice_get xs c.in-Err.place) c.deref-in-Err.ensures.value)))
