use Rattle.std.proofs.Common.{◌≡◌, ◌+◌, refl, subst, arith}
use Rattle.store_core.proofs.SeenTogether.{CountsTo, counts_on, next_put}
use Rattle.store_core.proofs.leaves_together.see_next.Goals as goal

pub loop-done-init : goal.loop-done-init
loop-done-init g c = record { seen = refl; clocks = λ h e. (h, omega (arith, e)) }

pub loop-done-preserved : goal.loop-done-preserved
loop-done-preserved g c = record {
  seen =
      next_put c.args.name c.args.clock c.loop-done.done c.args.seen.now c.loop-done.seen c.insert.new.self c.loop-done.invariant.seen
      c.in_ok-insert.ensures.ok;
  clocks = λ h e.
      let next : c.args.clock + c.loop-done.done + 1 ≡ c.args.clock + (c.loop-done.done + 1) = omega arith in
      subst (λ n. CountsTo c.args.name n c.insert.new.self) next
      (counts_on c.args.name (c.args.clock + c.loop-done.done) c.loop-done.seen c.insert.new.self (c.loop-done.invariant.clocks h e)
      c.in_ok-insert.ensures.ok);
}
