use Rattle.std.proofs.Common.{◌+◌, ◌==◌, ◌&&◌, not, Ok, Err, sym, ap, ◌∙◌}
use Rattle.dots_core.specs.Clocks.{holds}
use Rattle.dots_core.proofs.Clocks.{holds_high}
use Rattle.dots_core.proofs.Changes.{Searched, found_among, unfound_among, loses_nothing, loses_low, low_canonical, loses_in_cloud, out_of_cloud_canonical}
use Rattle.dots_core.proofs.part.Part.remove.Goals as goal

pub invariant_of-self-then-clock-self : goal.invariant_of-self-then-clock-self
invariant_of-self-then-clock-self g c =
    low_canonical c.self.inside.clock c.args.clock c.self.inside.cloud.items c.put_in_front.new.cloud.items c.self.invariant c.requires
    c.if-clock-self.true c.in_ok-put_in_front.ensures.ok

pub returns-then-clock-self-clause-canonical : goal.returns-then-clock-self-clause-canonical
returns-then-clock-self-clause-canonical g c =
    low_canonical c.self.inside.clock c.args.clock c.self.inside.cloud.items c.put_in_front.new.cloud.items c.self.invariant c.requires
    c.if-clock-self.true c.in_ok-put_in_front.ensures.ok

pub returns-then-clock-self-clause-ok : goal.returns-then-clock-self-clause-ok
returns-then-clock-self-clause-ok g c = λ j.
    loses_low c.self.inside.clock c.args.clock c.self.inside.cloud.items c.put_in_front.new.cloud.items c.self.invariant c.requires
    c.if-clock-self.true c.in_ok-put_in_front.ensures.ok j
    ∙ ap (λ p. not (j == c.args.clock) && holds p j) c.self.view_is

pub invariant_of-self-in-Ok : goal.invariant_of-self-in-Ok
invariant_of-self-in-Ok g c =
    out_of_cloud_canonical c.self.inside.clock c.in-Ok.place c.self.inside.cloud.items c.remove.new.self.items c.self.invariant
    c.remove.ensures.items

pub returns-in-Ok-clause-canonical : goal.returns-in-Ok-clause-canonical
returns-in-Ok-clause-canonical g c =
    out_of_cloud_canonical c.self.inside.clock c.in-Ok.place c.self.inside.cloud.items c.remove.new.self.items c.self.invariant
    c.remove.ensures.items

pub returns-in-Ok-clause-ok : goal.returns-in-Ok-clause-ok
returns-in-Ok-clause-ok g c = λ j.
    let position : Searched c.args.clock c.self.inside.cloud.items (Ok c.in-Ok.place) =
    rw c.deref.ensures.value at c.in-Ok.ensures.position in
    loses_in_cloud c.self.inside.clock c.args.clock c.in-Ok.place c.self.inside.cloud.items c.remove.new.self.items c.self.invariant
    c.if-clock-self.false position c.remove.ensures.items j
    ∙ ap (λ p. not (j == c.args.clock) && holds p j) c.self.view_is

pub returns-in-Ok-clause-was : goal.returns-in-Ok-clause-was
returns-in-Ok-clause-was g c =
    let position : Searched c.args.clock c.self.inside.cloud.items (Ok c.in-Ok.place) =
    rw c.deref.ensures.value at c.in-Ok.ensures.position in
    sym (found_among (c.self.inside.clock + 1) c.args.clock c.self.inside.cloud.items c.in-Ok.place c.self.invariant.rises position)
    ∙ sym (holds_high (record { clock = c.self.inside.clock; cloud = c.self.inside.cloud.items }) c.args.clock c.if-clock-self.false)
    ∙ ap (λ p. holds p c.args.clock) c.self.view_is

pub returns-in-Err-clause-was : goal.returns-in-Err-clause-was
returns-in-Err-clause-was g c =
    let position : Searched c.args.clock c.self.inside.cloud.items (Err c.in-Err.field-0) =
    rw c.deref.ensures.value at c.in-Err.ensures.position in
    sym (unfound_among (c.self.inside.clock + 1) c.args.clock c.self.inside.cloud.items c.in-Err.field-0 c.self.invariant.rises position)
    ∙ sym (holds_high (record { clock = c.self.inside.clock; cloud = c.self.inside.cloud.items }) c.args.clock c.if-clock-self.false)
    ∙ ap (λ p. holds p c.args.clock) c.self.view_is

pub returns-in-Err-clause-ok : goal.returns-in-Err-clause-ok
returns-in-Err-clause-ok g c =
    let position : Searched c.args.clock c.self.inside.cloud.items (Err c.in-Err.field-0) =
    rw c.deref.ensures.value at c.in-Err.ensures.position in
    let none = unfound_among (c.self.inside.clock + 1) c.args.clock c.self.inside.cloud.items c.in-Err.field-0 c.self.invariant.rises
    position in
    loses_nothing c.args.self.now c.args.clock
    (sym (ap (λ p. holds p c.args.clock) c.self.view_is)
    ∙ holds_high (record { clock = c.self.inside.clock; cloud = c.self.inside.cloud.items }) c.args.clock c.if-clock-self.false ∙ none)
