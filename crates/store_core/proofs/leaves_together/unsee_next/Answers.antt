use Rattle.std.proofs.Common.{◌≡◌, ◌-◌, sym, ap, ◌∙◌, arith}
use Rattle.store_core.specs.LeavesTogether.{without_next}
use Rattle.store_core.proofs.SeenTogether.{last_below, next_out}
use Rattle.store_core.proofs.leaves_together.unsee_next.Goals as goal

pub loop-done-preserved : goal.loop-done-preserved
loop-done-preserved g c = record {
  seen =
      next_out c.args.name c.args.clock c.args.count c.loop-done.done c.args.seen.now c.loop-done.seen c.remove.new.self
      c.loop-done-test.true c.loop-done.invariant.seen c.in_ok-remove.ensures.ok;
  last =
      λ last. last_below c.args.name c.args.clock c.args.count c.loop-done.done c.loop-done.seen c.remove.new.self c.loop-done-test.true
      (c.loop-done.invariant.last last) c.in_ok-remove.ensures.ok;
}

pub returns-clause-seen : goal.returns-clause-seen
returns-clause-seen g c =
    let none : c.args.count - c.loop-done.done ≡ 0 = omega (arith, c.loop-done-test.false) in
    sym (ap (λ n. without_next c.args.name c.args.clock n c.loop-done.seen) none) ∙ c.loop-done.invariant.seen
