use Rattle.std.proofs.Common.{◌∙◌, sym}
use Rattle.transcript_core.proofs.FirstRefused.{refused_undo}
use Rattle.transcript_core.proofs.refusals.unwind_refusal.Goals as goal

pub returns-else-is_out_of_memory : goal.returns-else-is_out_of_memory
returns-else-is_out_of_memory g c = refused_undo c.args.bench.now.state c.args.number c.in-Err.fault c.in-Err.ensures.refused (sym c.is_out_of_memory.ensures ∙ c.if-is_out_of_memory.false)
