use Rattle.std.proofs.Common.{ap, ◌∙◌, ◌++◌, refl, arith}
use Rattle.page_data.specs.Seen.{change_of, changes_of, seen_at, seen_of}
use Rattle.page_data.specs.declared.seen.Seen.{Seen}
use Rattle.page_data.proofs.Pieces.{built_more}
use Rattle.page_data.proofs.seen.changes_of.Goals as goal

pub loop-name-init : goal.loop-name-init
unfolding changes_of
loop-name-init g c = c.new-numbers.ensures.items

pub loop-name-preserved : goal.loop-name-preserved
unfolding changes_of
loop-name-preserved g c =
    built_more (changes_of c.args.before.now c.args.replica.now) (λ k. change_of k (seen_at c.args.before.now k) (seen_of c.args.replica.now k)) c.loop-name.name _ _ (λ k. refl) c.loop-name.invariant
    (c.in_ok-put_change.ensures
    ∙ ap (λ (x : Seen). c.loop-name.numbers.items ++ change_of c.loop-name.name x c.seen_of-now.result) c.seen_at.ensures
    ∙ ap (λ (x : Seen). c.loop-name.numbers.items ++ change_of c.loop-name.name (seen_at c.args.before.now c.loop-name.name) x) c.seen_of-now.ensures)

pub returns : goal.returns
returns g c = c.loop-name.invariant ∙ ap (changes_of c.args.before.now c.args.replica.now) (omega arith)
