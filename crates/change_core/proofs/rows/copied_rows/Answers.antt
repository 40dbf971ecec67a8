use Rattle.std.proofs.Common.{◌∙◌, ◌++◌, ◌∷◌, [], ap, sym, take}
use Rattle.std.proofs.lemmas.List.{take_more}
use Rattle.change_core.proofs.rows.copied_rows.Goals as goal

pub loop-row-preserved : goal.loop-row-preserved
loop-row-preserved g c =
    c.in_ok-push.ensures.items
    ∙ ap (λ l. l ++ c.in_ok-try_copy.field-0 ∷ []) c.loop-row.invariant
    ∙ ap (λ r. take c.loop-row.row-index c.args.rows.now ++ r ∷ []) (c.in_ok-try_copy.ensures ∙ c.row-item.is)
    ∙ sym (take_more c.args.rows.now c.loop-row.row-index c.row-item.result c.loop-row-test.true)
