use Rattle.std.proofs.Common.{◌<◌, sym, ap, ◌∙◌, arith}
use Rattle.std.specs.FinSet as set
use Rattle.dots_core.specs.Clocks.{holds}
use Rattle.dots_core.proofs.Parts.{contains-dots_of_parts, read_part, absent}
use Rattle.dots_core.proofs.dot_set.DotSet.contains.Goals as goal

pub returns-in-None : goal.returns-in-None
returns-in-None g c =
    let past = c.in-None.ensures.lookup.3 in
    let none = absent c.self.inside.parts c.args.dot c.self.invariant (omega (arith, past, c.self.invariant.names, c.from.ensures)) in
    sym (ap (λ s. set.contains s c.args.dot) (sym c.self.view_is) ∙ none)

pub returns-in-Some : goal.returns-in-Some
returns-in-Some g c =
    let within : c.args.dot.name < 32 = omega (arith, c.in-Some.ensures.lookup.3.0, c.self.invariant.names, c.from.ensures) in
    let part = c.in-Some.ensures.lookup.1
    ∙ read_part c.self.inside.parts c.from.result c.args.dot.name c.in-Some.part.now c.self.invariant c.from.ensures within in
    c.has.ensures ∙ ap (λ p. holds p c.args.dot.clock) part ∙ sym (contains-dots_of_parts c.self.inside.parts c.args.dot)
    ∙ ap (λ s. set.contains s c.args.dot) c.self.view_is
