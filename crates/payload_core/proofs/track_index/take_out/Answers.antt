use Rattle.std.proofs.Common.{◌≡◌, Some, sym, ap, ◌∙◌}
use Rattle.payload_core.specs.TrackIndices.{held_as}
use Rattle.payload_core.specs.declared.track_index.Holder.TheVariants.{One}
use Rattle.payload_core.proofs.Hashed.{removed_known, same_dot}
use Rattle.payload_core.proofs.track_index.take_out.Goals as goal

pub returns-then-eq-clause-others : goal.returns-then-eq-clause-others
returns-then-eq-clause-others g c =
    let same : c.in-Some-One.held ≡ c.args.dot = same_dot c.in-Some-One.held c.args.dot (sym c.eq.ensures ∙ c.if-eq.true) in
    let one : held_as c.args.holders.now.entries c.args.hash ≡ Some (One c.args.dot) =
    sym c.holder_in.ensures ∙ c.in-Some-One.is ∙ ap Some c.in-Some-One.field-0-is ∙ ap (λ d. Some (One d)) same in
    removed_known (held_as c.args.holders.now.entries) (held_as c.remove.new.self.entries) c.args.hash c.args.dot c.remove.ensures.updates.0 one
