use Rattle.std.proofs.Common.{◌≤◌, length, arith}
use Rattle.std.proofs.lemmas.List.{drop_all}
use Rattle.receipt_core.proofs.Named.{all_receipts-within}
use Rattle.receipt_core.proofs.agreeing.are_all_receipts.Goals as goal

pub returns-clause-within : goal.returns-clause-within
returns-clause-within g c = λ _.
    let end : length c.args.lists.now ≤ c.loop-list.list-index = omega arith in
    all_receipts-within _ c.args.start _ 0 _ (c.loop-list.invariant.1.1 (rw (drop_all c.loop-list.list-index c.args.lists.now end) tt))
