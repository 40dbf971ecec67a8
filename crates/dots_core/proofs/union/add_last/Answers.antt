use Rattle.std.proofs.Common.{◌≡◌, ◌<◌, ◌+◌, ◌==◌, ◌||◌, ℕ, true, sym, ap, subst, ◌∙◌, arith}
use Rattle.dots_core.specs.Clocks.{Clocks, holds, is_among, RisesAbove}
use Rattle.dots_core.specs.Unions.{AddsOnly}
use Rattle.dots_core.proofs.Unions.{end_canonical, gains_at_end, adds_at_end, no_cloud}
use Rattle.dots_core.proofs.union.add_last.Goals as goal

pub invariant_of-part : goal.invariant_of-part
invariant_of-part g c =
    let p : Clocks = record { clock = c.part.inside.clock; cloud = c.part.inside.cloud.items } in
    let below : (k : ℕ) → is_among k p.cloud ≡ true →
    k < c.args.clock = λ k t. c.requires.above k (subst (λ (q : Clocks). is_among k q.cloud ≡ true) c.part.view_is t) in
    let none = no_cloud p c.args.clock c.part.invariant c.if-clock-part-2.true below in
    record { last = c.requires.last; rises = subst (RisesAbove (c.args.clock + 1)) (sym none) tt }

pub returns-then-clock-part-2-clause-canonical : goal.returns-then-clock-part-2-clause-canonical
returns-then-clock-part-2-clause-canonical g c =
    let p : Clocks = record { clock = c.part.inside.clock; cloud = c.part.inside.cloud.items } in
    let below : (k : ℕ) → is_among k p.cloud ≡ true →
    k < c.args.clock = λ k t. c.requires.above k (subst (λ (q : Clocks). is_among k q.cloud ≡ true) c.part.view_is t) in
    let none = no_cloud p c.args.clock c.part.invariant c.if-clock-part-2.true below in
    record { last = c.requires.last; rises = subst (RisesAbove (c.args.clock + 1)) (sym none) tt }

pub invariant_of-part-in-Continue-1 : goal.invariant_of-part-in-Continue-1
invariant_of-part-in-Continue-1 g c =
    let above : c.part.inside.clock + 1 < c.args.clock = omega (arith, c.if-clock-part.false, c.if-clock-part-2.false) in
    end_canonical c.part.inside.clock c.args.clock c.part.inside.cloud.items c.push.new.self.items c.part.invariant above c.requires.last
    (λ k t. c.requires.above k (subst (λ (q : Clocks). is_among k q.cloud ≡ true) c.part.view_is t)) c.in_ok-push.ensures.items

pub returns-in_ok-push-clause-canonical : goal.returns-in_ok-push-clause-canonical
returns-in_ok-push-clause-canonical g c =
    let above : c.part.inside.clock + 1 < c.args.clock = omega (arith, c.if-clock-part.false, c.if-clock-part-2.false) in
    end_canonical c.part.inside.clock c.args.clock c.part.inside.cloud.items c.push.new.self.items c.part.invariant above c.requires.last
    (λ k t. c.requires.above k (subst (λ (q : Clocks). is_among k q.cloud ≡ true) c.part.view_is t)) c.in_ok-push.ensures.items

pub returns-in_ok-push-clause-ok : goal.returns-in_ok-push-clause-ok
returns-in_ok-push-clause-ok g c = λ j.
    gains_at_end c.part.inside.clock c.args.clock c.part.inside.cloud.items c.push.new.self.items c.in_ok-push.ensures.items j
    ∙ ap (λ p. (j == c.args.clock) || holds p j) c.part.view_is

pub returns-in_ok-push-clause-cloud : goal.returns-in_ok-push-clause-cloud
returns-in_ok-push-clause-cloud g c =
    subst (λ (p : Clocks). AddsOnly p.cloud c.args.clock c.push.new.self.items) c.part.view_is
    (adds_at_end c.args.clock c.part.inside.cloud.items c.push.new.self.items c.in_ok-push.ensures.items)
