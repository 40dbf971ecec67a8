use Rattle.std.proofs.lemmas.Result.{on_ok_weaker}
use Rattle.picture_core.proofs.Texts.{is_put, then_text, titled_text}
use Rattle.picture_core.proofs.shapes.put_titled.Goals as goal

pub returns : goal.returns
returns g c =
    let two = then_text _ _ _ _ _ c.in_ok-put_start.ensures c.in_ok-put_heading.ensures in
    on_ok_weaker c.put_end.result (λ last. is_put _ _ _ _ (titled_text _ _ _) (then_text _ _ _ _ _ two last)) c.put_end.ensures
