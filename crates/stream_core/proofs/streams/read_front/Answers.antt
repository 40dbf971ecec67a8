use Rattle.std.proofs.Common.{◌+◌, ◌≤◌, length, arith}
use Rattle.std.proofs.lemmas.Grind.{common_steps}
use Rattle.stream_core.proofs.Bytes.{taken_more}
use Rattle.stream_core.proofs.streams.read_front.Goals as goal

-- no more bytes were asked for
pub returns-in_err-extend_from_slice-clause-most : goal.returns-in_err-extend_from_slice-clause-most
returns-in_err-extend_from_slice-clause-most g c =
    let few : length c.loop-chunk.bytes.items + length c.read_once.new.buffer ≤ c.args.most = grind (arith, common_steps) in
    taken_more _ (g.R.Read.remaining c.loop-chunk.reader) (g.R.Read.remaining c.read_once.new.reader) c.loop-chunk.bytes.items c.read_once.new.buffer
    c.in-Ok.count _ c.loop-chunk.invariant.taken c.in-Ok.ensures.bytes.0 few
