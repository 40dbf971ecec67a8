use Rattle.std.proofs.Common.{arith}
use Rattle.std.proofs.lemmas.Grind.{common_steps}
use Rattle.stream_core.proofs.Bytes.{sent_more}
use Rattle.stream_core.proofs.streams.write_noted.Goals as goal

pub loop-written-preserved : goal.loop-written-preserved
loop-written-preserved g c = record {
  within = grind (arith, common_steps);
  sent = sent_more _ _ _ _ _ _ c.loop-written.invariant.sent c.in-Some.ensures.bytes;
  lost = grind (arith, common_steps);
}
