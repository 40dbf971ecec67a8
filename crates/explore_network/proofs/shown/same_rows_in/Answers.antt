use Rattle.std.proofs.Common.{◌∙◌, sym}
use Rattle.explore_network.proofs.SameShown.{same_rows-Decides}
use Rattle.explore_network.proofs.shown.same_rows_in.Goals as goal

pub returns : goal.returns
returns g c =
    let one = c.as_slice.ensures.value ∙ c.in_ok-rows.ensures in
    let two = c.as_slice-2.ensures.value ∙ c.in_ok-others.ensures in
    let d = same_rows-Decides c.as_slice.result.now c.as_slice-2.result.now in
    (λ h. sym one ∙ d.0 (sym c.same_rows-same.ensures ∙ h) ∙ two, λ e. c.same_rows-same.ensures ∙ d.1 (one ∙ e ∙ sym two))
