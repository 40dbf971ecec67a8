use Rattle.std.proofs.Common.{◌≡◌, ◌∙◌, ◌++◌, ◌∷◌, [], List, ap, sym, append_assoc, append-nil}
use Rattle.journal_core.specs.Journals.{Kept}
use Rattle.change_core.proofs.steps.copied.Goals as goal

pub loop-kept-preserved : goal.loop-kept-preserved
loop-kept-preserved g c =
    ap (λ (l : List Kept). l ++ c.next.new.self) (c.in_ok-push.ensures.items ∙ ap (λ (k : Kept). c.loop-kept.copies.items ++ k ∷ []) c.in_ok-copy_of.ensures)
    ∙ append_assoc c.loop-kept.copies.items (c.in-Some.kept.now ∷ []) c.next.new.self
    ∙ ap (λ (l : List Kept). c.loop-kept.copies.items ++ l) (sym c.in-Some.ensures.steps) ∙ c.loop-kept.invariant

pub returns : goal.returns
returns g c =
    sym (append-nil c.loop-kept.copies.items) ∙ ap (λ (l : List Kept). c.loop-kept.copies.items ++ l) (sym c.in_default.ensures.steps.0) ∙ c.loop-kept.invariant
