use Rattle.std.proofs.Common.{ap, ◌∙◌}
use Rattle.std.specs.FinSet as set
use Rattle.dots_core.specs.Dots.{Dots}
use Rattle.store_core.proofs.StoreEdits.{inserts_swap, last_inserted, of_ok, removed_inserted}
use Rattle.store_core.proofs.store_leaves.see.Goals as goal

pub unwrap-requires : goal.unwrap-requires
unwrap-requires g c =
    c.remove.ensures.last (last_inserted c.args.seen.now c.insert-2.new.self c.args.fresh (c.in-Err.ensures.err ∙ c.in_ok-insert.ensures.ok) c.requires.last)

pub returns-in-Err-clause-err : goal.returns-in-Err-clause-err
returns-in-Err-clause-err g c =
    of_ok c.remove.result (c.remove.ensures.last (last_inserted c.args.seen.now c.insert-2.new.self c.args.fresh
    (c.in-Err.ensures.err ∙ c.in_ok-insert.ensures.ok) c.requires.last)) c.remove.ensures.ok
    ∙ ap (λ (s : Dots). set.remove s c.args.fresh) (c.in-Err.ensures.err ∙ c.in_ok-insert.ensures.ok)
    ∙ removed_inserted c.args.seen.now c.args.fresh c.requires.unseen

pub returns-clause-ok : goal.returns-clause-ok
returns-clause-ok g c =
    c.in_default.ensures.ok ∙ ap (λ (s : Dots). set.insert s c.args.dot) c.in_ok-insert.ensures.ok ∙ inserts_swap c.args.seen.now c.args.fresh c.args.dot
