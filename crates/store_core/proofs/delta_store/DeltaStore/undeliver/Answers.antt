use Rattle.std.proofs.Common.{◌∙◌, List, ap, subst, sym}
use Rattle.entry_core.specs.EntryLists.{pairs}
use Rattle.entry_core.specs.Presences.{Entry}
use Rattle.store_core.specs.Delivered.{AreApart, Delivered, undelivered, with_parts}
use Rattle.store_core.specs.DeltaStores.{DeltaStore, IsDeltaStore}
use Rattle.store_core.specs.EntryMoves.{AreNew, without_each, with_each}
use Rattle.store_core.proofs.ApartEntries.{apart_pairs, in_either_order, new_beside}
use Rattle.store_core.proofs.KeptStores.{in_place}
use Rattle.store_core.proofs.Told.{store_is}
use Rattle.store_core.proofs.delta_store.DeltaStore.undeliver.Goals as goal

pub put_each-requires : goal.put_each-requires
put_each-requires g c =
    subst (λ (es : List Entry). AreNew (pairs es) c.self.inside.entries.map) (sym (c.deref-2.ensures.value ∙ ap (λ (d : Delivered). d.left) (c.behind-delivered.view_is ∙ c.deref.ensures)))
    (new_beside c.args.delivered.value.joined (pairs c.args.delivered.value.left) c.self.inside.entries.map
    (apart_pairs c.args.delivered.value.joined c.args.delivered.value.left (subst (λ (d : Delivered). AreApart d.joined d.left) (c.behind-delivered.view_is ∙ c.deref.ensures) c.behind-delivered.invariant))
    (subst (λ (s : DeltaStore). AreNew (pairs c.args.delivered.value.left) (without_each c.args.delivered.value.joined s.store.entries)) (sym c.self.view_is) c.requires.new))

pub returns-clause-ok : goal.returns-clause-ok
returns-clause-ok g c =
    in_place (record { own = c.self.inside.own; store = record { seen = c.self.inside.seen; entries = c.self.inside.entries.map }; delta = record { seen = c.self.inside.delta_seen; entries = c.self.inside.delta_entries.map } }) c.args.self.now c.self.view_is _ (undelivered c.args.delivered.value c.args.self.now.store)
    (store_is _ _
    (c.set_parts-2.ensures ∙ ap (λ (s : DeltaStore). with_parts c.set_parts.inside.parts.items s.store.seen) c.self.view_is
    ∙ ap (λ (d : Delivered). with_parts d.parts c.args.self.now.store.seen) (c.set_parts.view_is ∙ c.into_inner.ensures))
    (c.take_out_each.ensures.map
    ∙ ap (λ ds. without_each ds c.put_each.new.entries.map) (c.deref-4.ensures.value ∙ ap (λ (d : Delivered). d.joined) (c.behind-delivered-2.view_is ∙ c.deref-3.ensures))
    ∙ ap (without_each c.args.delivered.value.joined) (c.in_default.ensures.ok
    ∙ ap (λ (es : List Entry). with_each (pairs es) c.self.inside.entries.map) (c.deref-2.ensures.value ∙ ap (λ (d : Delivered). d.left) (c.behind-delivered.view_is ∙ c.deref.ensures)))
    ∙ in_either_order c.args.delivered.value.joined (pairs c.args.delivered.value.left) c.self.inside.entries.map
    (apart_pairs c.args.delivered.value.joined c.args.delivered.value.left (subst (λ (d : Delivered). AreApart d.joined d.left) (c.behind-delivered.view_is ∙ c.deref.ensures) c.behind-delivered.invariant))
    ∙ ap (λ (s : DeltaStore). with_each (pairs c.args.delivered.value.left) (without_each c.args.delivered.value.joined s.store.entries)) c.self.view_is))

pub invariant_of-self-2 : goal.invariant_of-self-2
invariant_of-self-2 g c =
    subst IsDeltaStore (sym (in_place (record { own = c.self.inside.own; store = record { seen = c.self.inside.seen; entries = c.self.inside.entries.map }; delta = record { seen = c.self.inside.delta_seen; entries = c.self.inside.delta_entries.map } }) c.args.self.now c.self.view_is _ (undelivered c.args.delivered.value c.args.self.now.store)
    (store_is _ _
    (c.set_parts-2.ensures ∙ ap (λ (s : DeltaStore). with_parts c.set_parts.inside.parts.items s.store.seen) c.self.view_is
    ∙ ap (λ (d : Delivered). with_parts d.parts c.args.self.now.store.seen) (c.set_parts.view_is ∙ c.into_inner.ensures))
    (c.take_out_each.ensures.map
    ∙ ap (λ ds. without_each ds c.put_each.new.entries.map) (c.deref-4.ensures.value ∙ ap (λ (d : Delivered). d.joined) (c.behind-delivered-2.view_is ∙ c.deref-3.ensures))
    ∙ ap (without_each c.args.delivered.value.joined) (c.in_default.ensures.ok
    ∙ ap (λ (es : List Entry). with_each (pairs es) c.self.inside.entries.map) (c.deref-2.ensures.value ∙ ap (λ (d : Delivered). d.left) (c.behind-delivered.view_is ∙ c.deref.ensures)))
    ∙ in_either_order c.args.delivered.value.joined (pairs c.args.delivered.value.left) c.self.inside.entries.map
    (apart_pairs c.args.delivered.value.joined c.args.delivered.value.left (subst (λ (d : Delivered). AreApart d.joined d.left) (c.behind-delivered.view_is ∙ c.deref.ensures) c.behind-delivered.invariant))
    ∙ ap (λ (s : DeltaStore). with_each (pairs c.args.delivered.value.left) (without_each c.args.delivered.value.joined s.store.entries)) c.self.view_is))))
    c.requires.earlier
