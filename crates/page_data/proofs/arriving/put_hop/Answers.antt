use Rattle.std.proofs.Common.{◌++◌, ◌∙◌, ap₂}
use Rattle.std.proofs.lemmas.Result.{on_ok_weaker}
use Rattle.page_data.specs.Carried.{hop_by}
use Rattle.page_data.proofs.arriving.put_hop.Goals as goal

pub returns : goal.returns
returns g c =
    on_ok_weaker c.put_hop_by.result
    (λ told. told ∙ ap₂ (λ x y. c.args.numbers.now.items ++ hop_by c.args.dot.name c.args.dot.clock x y) c.standing_at-here.ensures
    c.standing_told-coming.ensures)
    c.put_hop_by.ensures
