use Rattle.std.proofs.Common.{List, ◌++◌, ◌∷◌, [], take, ap, sym, ◌∙◌, arith}
use Rattle.std.proofs.lemmas.List.{take_more, take_all}
use Rattle.bench_core.specs.Machine.{Event}
use Rattle.bench_core.proofs.history.History.try_copy.Goals as goal

pub loop-event-preserved : goal.loop-event-preserved
loop-event-preserved g c =
    let items = c.deref-event-items.result.now in
    let i = c.loop-event.event-index in
    let e = c.event-item.result in
    record {
      so_far = c.push_reserved.ensures.items
          ∙ ap (λ (es : List Event). es ++ c.in-Ok.copy ∷ []) c.loop-event.invariant.so_far
          ∙ ap (λ (e : Event). take i items ++ e ∷ []) c.in-Ok.ensures
          ∙ ap (λ (e : Event). take i items ++ e ∷ []) c.event-item.is
          ∙ sym (take_more items i e c.loop-event-test.true);
      count = omega arith;
      room = omega arith;
    }

pub returns : goal.returns
returns g c =
    c.loop-event.invariant.so_far ∙ take_all c.loop-event.event-index c.deref-event-items.result.now c.loop-event-test.false
    ∙ c.deref-event-items.ensures.value ∙ c.self.view_is
