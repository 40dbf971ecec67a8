use Rattle.std.proofs.Common.{arith}
use Rattle.page_data.proofs.Walks.{texts_all, texts_more}
use Rattle.page_data.proofs.data.put_texts.Goals as goal

pub loop-place-preserved : goal.loop-place-preserved
loop-place-preserved g c =
    texts_more c.args.texts.now c.loop-place.place c.console_at.result.now _ _ _ _ (omega arith) c.console_at.ensures c.loop-place.invariant
    c.in_ok-put_comma.ensures c.in_ok-put_string.ensures

pub returns : goal.returns
returns g c = texts_all c.args.texts.now c.loop-place.place _ _ (omega arith) c.loop-place.invariant
