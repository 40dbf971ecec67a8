use Rattle.std.proofs.Common.{length}
use Rattle.std.proofs.KnownBytes.{Appends-kept}
use Rattle.std.proofs.Math.Seq.{take-length}
use Rattle.prompt_core.proofs.out.put_out.Goals as goal

-- the whole response went out, and wasn't flushed
pub returns-in-Err-flush-clause-err : goal.returns-in-Err-flush-clause-err
returns-in-Err-flush-clause-err g c =
    let contents = g.W.Write.contents in
    let bytes = c.args.response.now in
    (length bytes, rw (take-length bytes) (Appends-kept (contents c.args.writer.now) (contents c.write_out.new.writer) (contents c.flush.new.self) bytes c.in_default.ensures.ok c.flush.ensures.bytes))
