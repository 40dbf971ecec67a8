use Rattle.std.proofs.Common.{[], ◌∷◌, ap, ◌∙◌, ◌++◌, refl, arith}
use Rattle.page_data.specs.Seen.{all_seen, seen_of}
use Rattle.page_data.specs.declared.seen.Seen.{Seen}
use Rattle.page_data.proofs.Pieces.{built_more}
use Rattle.page_data.proofs.seen.all_seen.Goals as goal

pub loop-name-init : goal.loop-name-init
unfolding all_seen
loop-name-init g c = c.new-seen.ensures.items

pub loop-name-preserved : goal.loop-name-preserved
unfolding all_seen
loop-name-preserved g c =
    built_more (all_seen c.args.replica.now) (λ k. seen_of c.args.replica.now k ∷ []) c.loop-name.name _ _ (λ k. refl) c.loop-name.invariant
    (c.in_ok-push.ensures.items ∙ ap (λ (x : Seen). c.loop-name.seen.items ++ x ∷ []) c.seen_of.ensures)

pub returns : goal.returns
returns g c = c.loop-name.invariant ∙ ap (all_seen c.args.replica.now) (omega arith)
