use Rattle.prompt_core.proofs.Texts.{is_own_text}
use Rattle.prompt_core.proofs.responding.respond.Goals as goal

pub put_own-requires : goal.put_own-requires
put_own-requires g c = is_own_text _ _ c.args.line.now c.in-Err.kind c.in-Err.ensures.taken
