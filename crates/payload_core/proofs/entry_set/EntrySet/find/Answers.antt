use Rattle.std.proofs.Common.{Some, sym, ap, ◌∙◌, slice_get}
use Rattle.block_core.specs.EntrySets.{EntrySet}
use Rattle.entry_core.specs.Presences.{dots_of, is_tracked_as}
use Rattle.payload_core.specs.TrackIndices.{holder_of, tracked_at}
use Rattle.payload_core.proofs.Hashed.{none_held, one_held}
use Rattle.payload_core.proofs.entry_set.EntrySet.find.Goals as goal

pub returns-in-None : goal.returns-in-None
returns-in-None g c =
    sym (ap (λ (s : EntrySet). slice_get (dots_of c.args.name (is_tracked_as c.args.pid c.args.topic.now c.args.key.now) s.map) 0) (sym c.self.view_is)
    ∙ none_held c.args.name c.args.pid c.args.topic.now c.args.key.now c.self.inside.by_dot.map c.self.inside.by_hash c.self.invariant
    (ap (holder_of c.self.inside.by_hash c.args.name) (sym c.hash.ensures) ∙ sym c.holder.ensures ∙ c.in-None.is))

pub returns-in-Some-One : goal.returns-in-Some-One
returns-in-Some-One g c =
    c.tracked_at.ensures
    ∙ ap (λ (s : EntrySet). tracked_at s.map c.in-Some-One.dot c.args.name (is_tracked_as c.args.pid c.args.topic.now c.args.key.now)) (sym c.self.view_is)
    ∙ sym (one_held c.args.name c.args.pid c.args.topic.now c.args.key.now c.self.inside.by_dot.map c.self.inside.by_hash c.self.invariant
    c.in-Some-One.dot
    (ap (holder_of c.self.inside.by_hash c.args.name) (sym c.hash.ensures) ∙ sym c.holder.ensures ∙ c.in-Some-One.is ∙ ap Some c.in-Some-One.field-0-is))
    ∙ ap (λ (s : EntrySet). slice_get (dots_of c.args.name (is_tracked_as c.args.pid c.args.topic.now c.args.key.now) s.map) 0) c.self.view_is
