use Rattle.std.proofs.lemmas.Result.{on_ok_weaker}
use Rattle.page_data.proofs.calls.put_step.Goals as goal

pub returns : goal.returns
returns g c =
    on_ok_weaker c.put_taken-put.result
    (λ told. record { left = c.in_ok-diff.diff.left.items; joined = c.in_ok-diff.diff.joined.items; tells = c.in_ok-diff.ensures; text = told })
    c.put_taken-put.ensures
