use Rattle.std.proofs.Common.{◌<◌, ◌%◌, sym, ap, ◌∙◌, arith}
use Rattle.std.specs.FinSet as set
use Rattle.dots_core.specs.Clocks.{holds}
use Rattle.dots_core.proofs.CloudBits.{clock_back, no_bit}
use Rattle.dots_core.proofs.Parts.{contains-dots_of_parts, read_part, absent}
use Rattle.dots_core.proofs.dot_set.DotSet.bits_of.Goals as goal

pub returns-in-None : goal.returns-in-None
returns-in-None g c = λ d name base.
    let past = c.in-None.ensures.lookup.3 in
    let none = absent c.self.inside.parts d c.self.invariant (omega (arith, past, name, c.self.invariant.names, c.from.ensures)) in
    no_bit (d.clock % 64) ∙ sym (ap (λ s. set.contains s d) (sym c.self.view_is) ∙ none)

pub returns-in-Some : goal.returns-in-Some
returns-in-Some g c = λ d name base.
    let within : d.name < 32 = omega (arith, name, c.in-Some.ensures.lookup.3.0, c.self.invariant.names, c.from.ensures) in
    let part = c.in-Some.ensures.lookup.1
    ∙ read_part c.self.inside.parts c.from.result d.name c.in-Some.part.now c.self.invariant (c.from.ensures ∙ sym name) within in
    c.bits.ensures (d.clock % 64) (omega arith) ∙ ap (holds c.in-Some.part.now) (clock_back d.clock c.args.base base)
    ∙ ap (λ p. holds p d.clock) part ∙ sym (contains-dots_of_parts c.self.inside.parts d)
    ∙ ap (λ s. set.contains s d) c.self.view_is
