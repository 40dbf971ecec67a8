use Rattle.std.proofs.Common.{◌≡◌, ◌<◌, List, ℕ, get_or, length, false, true≢false, sym, ap, subst, ◌∙◌, arith}
use Rattle.dots_core.specs.Clocks.{Clocks, HoldsAllOf, holds}
use Rattle.dots_core.proofs.HasAll.{lacks_next, lacks_at}
use Rattle.dots_core.proofs.Unions.{each_more}
use Rattle.dots_core.proofs.part.Part.has_all_of.Goals as goal

pub returns-then-other-self : goal.returns-then-other-self
returns-then-other-self g c = (
  λ e. absurd (true≢false (sym e)),
  λ all. let above : c.self.inside.clock < c.args.other.now.clock =
      subst (λ (p : Clocks). c.self.inside.clock < p.clock) c.other.view_is c.if-other-self.true in
      absurd (lacks_next (record { clock = c.self.inside.clock; cloud = c.self.inside.cloud.items }) c.args.other.now c.self.invariant above
      (subst (λ p. HoldsAllOf p c.args.other.now) (sym c.self.view_is) all)),
)

pub returns-then-not-has : goal.returns-then-not-has
returns-then-not-has g c = (
  λ e. absurd (true≢false (sym e)),
  λ all. let cloud : c.deref-clock-items.result.now ≡ c.args.other.now.cloud = c.deref-clock-items.ensures.value
      ∙ ap (λ (p : Clocks). p.cloud) c.other.view_is in
      let long = ap length cloud in
      let missing : holds c.args.self.now (get_or c.deref-clock-items.result.now c.loop-clock.clock-index 0) ≡ false = sym c.has.ensures
      ∙ c.if-not-has.true in
      absurd (lacks_at c.args.self.now c.args.other.now c.loop-clock.clock-index (omega (arith, long, c.loop-clock-test.true))
      (ap (λ (xs : List ℕ). holds c.args.self.now (get_or xs c.loop-clock.clock-index 0)) (sym cloud) ∙ missing) all),
)

pub loop-clock-preserved : goal.loop-clock-preserved
loop-clock-preserved g c =
    let cloud : c.deref-clock-items.result.now ≡ c.args.other.now.cloud = c.deref-clock-items.ensures.value
    ∙ ap (λ (p : Clocks). p.cloud) c.other.view_is in
    let long = ap length cloud in
    each_more c.args.self.now c.args.other.now.cloud c.loop-clock.clock-index c.loop-clock.invariant (omega (arith, long, c.loop-clock-test.true))
    (ap (λ (xs : List ℕ). holds c.args.self.now (get_or xs c.loop-clock.clock-index 0)) (sym cloud) ∙ sym c.has.ensures ∙ c.if-not-has.false)
