use Rattle.std.proofs.Common.{◌≡◌, ◌<◌, ◌&&◌, ℕ, nat_lt, nat_le, length, get_or, true, refl, subst, arith}
use Rattle.dots_core.specs.Clocks.{Clocks, is_among, holds}
use Rattle.std.proofs.lemmas.Bool.{or_right}
use Rattle.dots_core.proofs.Clocks.{among_at, holds_low}
use Rattle.dots_core.proofs.Unions.{each_more}
use Rattle.dots_core.proofs.union.has_each.Goals as goal
use Rattle.dots_core.proofs.union.has_each.Goals.{then-clock-own+else-place-cloud+else-cloud-place, else-clock-own}

pub loop-clock-preserved : goal.loop-clock-preserved
loop-clock-preserved g c =
    let p : Clocks = record { clock = c.own.inside.clock; cloud = c.own.inside.cloud.items } in
    let within : c.loop-clock.clock-index < length c.args.clocks.now =
    omega (arith, c.loop-clock-test.true, c.loop-clock.auto.clock-index-end) in
    let k : ℕ = get_or c.args.clocks.now c.loop-clock.clock-index 0 in
    let pos : 0 < k = c.requires k (among_at c.args.clocks.now c.loop-clock.clock-index k within refl) in
    each_more c.args.own.now c.args.clocks.now c.loop-clock.clock-index c.loop-clock.invariant within
    (subst (λ p. holds p k ≡ true) c.own.view_is
    (elim c.if-clock-own.branch [
      | then-clock-own+else-place-cloud+else-cloud-place w ↦
          or_right (nat_lt 0 k && nat_le k p.clock) (is_among k p.cloud)
          (subst (λ xs. is_among k xs ≡ true) c.as_slice-cloud.ensures.value
          (among_at c.as_slice-cloud.result.now w.first_from-place.result k
          (omega (arith, w.if-place-cloud.false, c.as_slice-cloud.ensures.len)) w.if-cloud-place.false))
      | else-clock-own w ↦ holds_low p k pos w.if-clock-own.false
    ]))
