use Rattle.std.proofs.Common.{arith}
use Rattle.page_data.proofs.Walks.{texts_all, texts_more}
use Rattle.page_data.proofs.data.put_names.Goals as goal

pub loop-number-preserved : goal.loop-number-preserved
loop-number-preserved g c =
    texts_more c.args.names.now c.loop-number.number c.name_at.result.now _ _ _ _ (omega arith) c.name_at.ensures c.loop-number.invariant
    c.in_ok-put_comma.ensures c.in_ok-put_string.ensures

pub returns : goal.returns
returns g c = texts_all c.args.names.now c.loop-number.number _ _ (omega arith) c.loop-number.invariant
