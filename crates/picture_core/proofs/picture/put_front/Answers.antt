use Rattle.std.proofs.lemmas.Result.{on_ok_weaker}
use Rattle.picture_core.proofs.Texts.{front_text, is_put, then_text}
use Rattle.picture_core.proofs.picture.put_front.Goals as goal

pub returns : goal.returns
returns g c = on_ok_weaker c.put_ground.result (λ last. is_put _ _ _ _ front_text (then_text _ _ _ _ _ c.in_ok-put_style.ensures last)) c.put_ground.ensures
