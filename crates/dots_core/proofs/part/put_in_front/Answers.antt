use Rattle.std.proofs.lemmas.Grind.{common_steps, not_there}
use Rattle.std.proofs.Common.{◌≡◌, suc, ◌+◌, ◌-◌, ◌++◌, [], ◌∷◌, ap, sym, ◌∙◌, arith, append_assoc}
use Rattle.dots_core.specs.Absorbed.{numbers}
use Rattle.dots_core.proofs.Clocks.{numbers_more}
use Rattle.dots_core.proofs.part.put_in_front.Goals as goal

pub loop-clock-preserved : goal.loop-clock-preserved
loop-clock-preserved g c =
    let from = c.args.from in
    let done = c.loop-clock.clock - from in
    let at : c.loop-clock.clock ≡ from + done = omega arith in
    let more : c.loop-clock.clock + 1 - from ≡ suc done = omega arith in
    record {
      items = c.push_reserved.ensures.items
          ∙ ap (λ xs. xs ++ c.loop-clock.clock ∷ []) c.loop-clock.invariant.items
          ∙ append_assoc c.args.cloud.now.items (numbers from done) (c.loop-clock.clock ∷ [])
          ∙ ap (λ xs. c.args.cloud.now.items ++ xs)
          (ap (λ z. numbers from done ++ z ∷ []) at ∙ numbers_more from done ∙ sym (ap (numbers from) more));
      room = omega arith;
    }

pub returns-clause-ok : goal.returns-clause-ok
returns-clause-ok g c = grind (arith, common_steps, not_there)
