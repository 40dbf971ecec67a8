use Rattle.std.proofs.Common.{ℕ, List, ◌∙◌, ap, arith, length}
use Rattle.picture_core.specs.Rows.{with_length}
use Rattle.picture_core.proofs.Lanes.{longest_all, longest_more}
use Rattle.picture_core.proofs.picture.longest_name.Goals as goal

pub loop-number-preserved : goal.loop-number-preserved
loop-number-preserved g c =
    longest_more c.args.names.now c.loop-number.number c.loop-number.longest _ _ (omega arith) c.loop-number.invariant
    (c.with_length-longest.ensures ∙ ap (λ (name : List ℕ). with_length c.loop-number.longest (length name)) c.name_at.ensures)

pub returns : goal.returns
returns g c = longest_all c.args.names.now c.loop-number.number _ _ (omega arith) c.loop-number.invariant
