use Rattle.std.proofs.Common.{◌+◌, ◌++◌, ◌∷◌, [], ◌∙◌, List, ap, add-one, append_assoc, sym}
use Rattle.dots_core.specs.declared.dot.Dot.{Dot}
use Rattle.dots_core.specs.Dots.{dot}
use Rattle.explore_network.specs.Asked.{dots_up_to}
use Rattle.explore_network.proofs.asked.put_own.Goals as goal

pub loop-before-preserved : goal.loop-before-preserved
loop-before-preserved g c =
    let name = c.args.last.name in
    let n = c.loop-before.before in
    c.in_ok-push.ensures.items ∙ ap (λ (l : List Dot). l ++ dot name (n + 1) ∷ []) c.loop-before.invariant ∙ append_assoc c.args.dots.now.items (dots_up_to name n) (dot name (n + 1) ∷ [])
    ∙ ap (λ (l : List Dot). c.args.dots.now.items ++ l) (ap (λ m. dots_up_to name n ++ dot name m ∷ []) (add-one n) ∙ ap (dots_up_to name) (sym (add-one n)))
