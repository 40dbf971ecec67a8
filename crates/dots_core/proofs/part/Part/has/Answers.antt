use Rattle.std.proofs.Common.{◌+◌, sym, ap, ◌∙◌}
use Rattle.dots_core.specs.Clocks.{holds}
use Rattle.dots_core.proofs.Clocks.{holds_high}
use Rattle.dots_core.proofs.Changes.{Searched, search_among, holds_upto}
use Rattle.dots_core.proofs.part.Part.has.Goals as goal

pub returns-then-clock-self : goal.returns-then-clock-self
returns-then-clock-self g c =
    sym (holds_upto (record { clock = c.self.inside.clock; cloud = c.self.inside.cloud.items }) c.args.clock c.self.invariant
    c.if-clock-self.true) ∙ ap (λ p. holds p c.args.clock) c.self.view_is

pub returns-else-clock-self : goal.returns-else-clock-self
returns-else-clock-self g c =
    let position : Searched c.args.clock c.self.inside.cloud.items c.binary_search.result =
    rw c.deref.ensures.value at c.binary_search.ensures.position in
    c.is_ok.ensures.value ∙ search_among (c.self.inside.clock + 1) c.args.clock c.self.inside.cloud.items c.binary_search.result
    c.self.invariant.rises position
    ∙ sym (holds_high (record { clock = c.self.inside.clock; cloud = c.self.inside.cloud.items }) c.args.clock c.if-clock-self.false)
    ∙ ap (λ p. holds p c.args.clock) c.self.view_is
