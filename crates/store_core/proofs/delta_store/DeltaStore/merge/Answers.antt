use Rattle.std.proofs.Common.{refl, rules, List, ap, sym, subst, subst₂, ◌∙◌}
use Rattle.std.specs.FinSet as set
use Rattle.entry_core.specs.EntryLists.{pairs}
use Rattle.entry_core.specs.Presences.{Entry}
use Rattle.store_core.specs.Delivered.{AreOldParts, Delivered, Destroys, with_parts}
use Rattle.store_core.specs.EntryMoves.{AreNew, dots_of_pairs, with_each, without_each}
use Rattle.dots_core.specs.Dots.{AreValid}
use Rattle.store_core.specs.DeltaStores.{CanBeUndelivered, DeltaStore, IsDeltaStore, with_undelivered}
use Rattle.store_core.specs.Laws.{IsStore}
use Rattle.store_core.specs.Stores.{merged, store_of}
use Rattle.store_core.proofs.KeptStores.{in_place, kept_merged}
use Rattle.store_core.proofs.ApartEntries.{entries_after, entries_back, joining_new, left_apart, left_departures, left_new}
use Rattle.store_core.proofs.Refused.{on_err}
use Rattle.store_core.proofs.Undelivered.{seen_after}
use Rattle.store_core.proofs.delta_store.DeltaStore.merge.Goals as goal

pub put_joining-requires : goal.put_joining-requires
put_joining-requires g c = (
  search rules,
  subst (λ (es : List Entry). AreNew (pairs es) c.self.inside.entries.map) (sym c.deref-2.ensures.value)
      (joining_new (set.contains c.args.names) (store_of c.args.message.now) c.args.self.now.store (subst (λ (s : DeltaStore). IsStore s.store) c.self.view_is c.self.invariant.live) c.args.joining.items
      c.args.leaving.now c.self.inside.entries.map c.self.inside.entries.map c.requires.joining c.requires.leaving
      (ap (λ (s : DeltaStore). s.store.entries) c.self.view_is)),
)

pub invariant_of-new : goal.invariant_of-new
invariant_of-new g c =
    left_apart (set.contains c.args.names) (store_of c.args.message.now) c.args.self.now.store (subst (λ (s : DeltaStore). IsStore s.store) c.self.view_is c.self.invariant.live) c.args.joining.items
    c.args.leaving.now c.self.inside.entries.map (without_each c.args.leaving.now (with_each (pairs c.args.joining.items) c.self.inside.entries.map)) c.requires.joining c.requires.leaving
    (ap (λ (s : DeltaStore). s.store.entries) c.self.view_is) refl
    c.in_ok-joined.joined.items c.in_ok-left.left.items
    (c.in_ok-joined.ensures ∙ ap (λ (es : List Entry). dots_of_pairs (pairs es)) c.deref.ensures.value) c.in_ok-left.ensures

pub invariant_of-self-2 : goal.invariant_of-self-2
invariant_of-self-2 g c =
    let entries = entries_after (set.contains c.args.names) (store_of c.args.message.now) c.args.self.now.store (subst (λ (s : DeltaStore). IsStore s.store) c.self.view_is c.self.invariant.live) c.args.joining.items
    c.args.leaving.now c.self.inside.entries.map c.take_out_each.new.entries.map c.requires.joining c.requires.leaving
    (ap (λ (s : DeltaStore). s.store.entries) c.self.view_is)
    (c.take_out_each.ensures.map ∙ ap (without_each c.args.leaving.now) (c.in_ok-put_joining.ensures.entries
    ∙ ap (λ (es : List Entry). with_each (pairs es) c.self.inside.entries.map) c.deref-2.ensures.value)) in
    let seen = seen_after (set.contains c.args.names) (store_of c.args.message.now) c.args.self.now.store c.self.inside.seen c.seen-seen.result.now
    c.put_joining.new.seen (ap (λ (s : DeltaStore). s.store.seen) c.self.view_is) c.seen-seen.ensures c.in_ok-put_joining.ensures.seen in
    subst IsDeltaStore (sym (in_place (record { own = c.self.inside.own; store = record { seen = c.self.inside.seen; entries = c.self.inside.entries.map }; delta = record { seen = c.self.inside.delta_seen; entries = c.self.inside.delta_entries.map } }) c.args.self.now c.self.view_is _ (merged (set.contains c.args.names) (store_of c.args.message.now) c.args.self.now.store) (λ i. record { seen = seen i; entries = entries i })))
    (kept_merged (set.contains c.args.names) c.args.message.now c.args.self.now (subst IsDeltaStore c.self.view_is c.self.invariant) c.requires.others
    (subst AreValid c.seen-seen.ensures c.valid_law.ensures) c.entries.ensures.are_seen)

pub returns-clause-merged : goal.returns-clause-merged
returns-clause-merged g c =
    let entries = entries_after (set.contains c.args.names) (store_of c.args.message.now) c.args.self.now.store (subst (λ (s : DeltaStore). IsStore s.store) c.self.view_is c.self.invariant.live) c.args.joining.items
    c.args.leaving.now c.self.inside.entries.map c.take_out_each.new.entries.map c.requires.joining c.requires.leaving
    (ap (λ (s : DeltaStore). s.store.entries) c.self.view_is)
    (c.take_out_each.ensures.map ∙ ap (without_each c.args.leaving.now) (c.in_ok-put_joining.ensures.entries
    ∙ ap (λ (es : List Entry). with_each (pairs es) c.self.inside.entries.map) c.deref-2.ensures.value)) in
    let seen = seen_after (set.contains c.args.names) (store_of c.args.message.now) c.args.self.now.store c.self.inside.seen c.seen-seen.result.now
    c.put_joining.new.seen (ap (λ (s : DeltaStore). s.store.seen) c.self.view_is) c.seen-seen.ensures c.in_ok-put_joining.ensures.seen in
    in_place (record { own = c.self.inside.own; store = record { seen = c.self.inside.seen; entries = c.self.inside.entries.map }; delta = record { seen = c.self.inside.delta_seen; entries = c.self.inside.delta_entries.map } }) c.args.self.now c.self.view_is _ (merged (set.contains c.args.names) (store_of c.args.message.now) c.args.self.now.store) (λ i. record { seen = seen i; entries = entries i })

pub returns-clause-destroyed : goal.returns-clause-destroyed
returns-clause-destroyed g c =
    subst (Destroys (set.contains c.args.names) (store_of c.args.message.now) c.args.self.now.store) (sym c.in_ok-delivered.ensures.ok) (record {
      joined = c.in_ok-joined.ensures ∙ ap (λ (es : List Entry). dots_of_pairs (pairs es)) c.deref.ensures.value ∙ ap dots_of_pairs c.requires.joining;
      left = left_departures (set.contains c.args.names) (store_of c.args.message.now) c.args.self.now.store (subst (λ (s : DeltaStore). IsStore s.store) c.self.view_is c.self.invariant.live) c.args.joining.items
          c.args.leaving.now c.self.inside.entries.map c.take_out_each.new.entries.map c.requires.joining c.requires.leaving
          (ap (λ (s : DeltaStore). s.store.entries) c.self.view_is)
          (c.take_out_each.ensures.map ∙ ap (without_each c.args.leaving.now) (c.in_ok-put_joining.ensures.entries
          ∙ ap (λ (es : List Entry). with_each (pairs es) c.self.inside.entries.map) c.deref-2.ensures.value))
          c.in_ok-joined.joined.items c.in_ok-left.left.items
          (c.in_ok-joined.ensures ∙ ap (λ (es : List Entry). dots_of_pairs (pairs es)) c.deref.ensures.value) c.in_ok-left.ensures;
      parts =
          subst₂ (λ other s. AreOldParts (set.contains c.args.names) other s c.in_ok-parts.parts.items) c.seen-seen.ensures
          (ap (λ (s : DeltaStore). s.store.seen) c.self.view_is) c.in_ok-parts.ensures.parts;
    })

pub returns-clause-can_be_undelivered : goal.returns-clause-can_be_undelivered
returns-clause-can_be_undelivered g c =
    subst (λ (d : Delivered). CanBeUndelivered d (record { own = c.self.inside.own; store = record { seen = c.put_joining.new.seen; entries = c.take_out_each.new.entries.map }; delta = record { seen = c.self.inside.delta_seen; entries = c.self.inside.delta_entries.map } })) (sym c.in_ok-delivered.ensures.ok) (
    let entries = entries_back (set.contains c.args.names) (store_of c.args.message.now) c.args.self.now.store (subst (λ (s : DeltaStore). IsStore s.store) c.self.view_is c.self.invariant.live) c.args.joining.items
    c.args.leaving.now c.self.inside.entries.map c.take_out_each.new.entries.map c.requires.joining c.requires.leaving
    (ap (λ (s : DeltaStore). s.store.entries) c.self.view_is)
    (c.take_out_each.ensures.map ∙ ap (without_each c.args.leaving.now) (c.in_ok-put_joining.ensures.entries
    ∙ ap (λ (es : List Entry). with_each (pairs es) c.self.inside.entries.map) c.deref-2.ensures.value))
    c.in_ok-joined.joined.items c.in_ok-left.left.items
    (c.in_ok-joined.ensures ∙ ap (λ (es : List Entry). dots_of_pairs (pairs es)) c.deref.ensures.value) c.in_ok-left.ensures in
    let seen = ap (with_parts c.in_ok-parts.parts.items) c.in_ok-put_joining.ensures.seen ∙ c.in_ok-parts.ensures.whole
    ∙ ap (λ (s : DeltaStore). s.store.seen) c.self.view_is in
    record {
      new = left_new (set.contains c.args.names) (store_of c.args.message.now) c.args.self.now.store (subst (λ (s : DeltaStore). IsStore s.store) c.self.view_is c.self.invariant.live) c.args.joining.items
          c.args.leaving.now c.self.inside.entries.map c.take_out_each.new.entries.map c.requires.joining c.requires.leaving
          (ap (λ (s : DeltaStore). s.store.entries) c.self.view_is)
          (c.take_out_each.ensures.map ∙ ap (without_each c.args.leaving.now) (c.in_ok-put_joining.ensures.entries
          ∙ ap (λ (es : List Entry). with_each (pairs es) c.self.inside.entries.map) c.deref-2.ensures.value))
          c.in_ok-joined.joined.items c.in_ok-left.left.items
          (c.in_ok-joined.ensures ∙ ap (λ (es : List Entry). dots_of_pairs (pairs es)) c.deref.ensures.value) c.in_ok-left.ensures;
      earlier = subst IsDeltaStore (sym (in_place (record { own = c.self.inside.own; store = record { seen = c.self.inside.seen; entries = c.self.inside.entries.map }; delta = record { seen = c.self.inside.delta_seen; entries = c.self.inside.delta_entries.map } }) c.args.self.now c.self.view_is _ c.args.self.now.store (λ i. record { seen = seen i; entries = entries i })))
          (subst IsDeltaStore c.self.view_is c.self.invariant);
    })

pub returns-clause-back : goal.returns-clause-back
returns-clause-back g c =
    ap (λ (d : Delivered). with_undelivered d (record { own = c.self.inside.own; store = record { seen = c.put_joining.new.seen; entries = c.take_out_each.new.entries.map }; delta = record { seen = c.self.inside.delta_seen; entries = c.self.inside.delta_entries.map } })) c.in_ok-delivered.ensures.ok ∙ (
    let entries = entries_back (set.contains c.args.names) (store_of c.args.message.now) c.args.self.now.store (subst (λ (s : DeltaStore). IsStore s.store) c.self.view_is c.self.invariant.live) c.args.joining.items
    c.args.leaving.now c.self.inside.entries.map c.take_out_each.new.entries.map c.requires.joining c.requires.leaving
    (ap (λ (s : DeltaStore). s.store.entries) c.self.view_is)
    (c.take_out_each.ensures.map ∙ ap (without_each c.args.leaving.now) (c.in_ok-put_joining.ensures.entries
    ∙ ap (λ (es : List Entry). with_each (pairs es) c.self.inside.entries.map) c.deref-2.ensures.value))
    c.in_ok-joined.joined.items c.in_ok-left.left.items
    (c.in_ok-joined.ensures ∙ ap (λ (es : List Entry). dots_of_pairs (pairs es)) c.deref.ensures.value) c.in_ok-left.ensures in
    let seen = ap (with_parts c.in_ok-parts.parts.items) c.in_ok-put_joining.ensures.seen ∙ c.in_ok-parts.ensures.whole
    ∙ ap (λ (s : DeltaStore). s.store.seen) c.self.view_is in
    in_place (record { own = c.self.inside.own; store = record { seen = c.self.inside.seen; entries = c.self.inside.entries.map }; delta = record { seen = c.self.inside.delta_seen; entries = c.self.inside.delta_entries.map } }) c.args.self.now c.self.view_is _ c.args.self.now.store (λ i. record { seen = seen i; entries = entries i }))

pub returns-in_err-put_joining-clause-err : goal.returns-in_err-put_joining-clause-err
returns-in_err-put_joining-clause-err g c =
    on_err c.from_residual-in_err-put_joining.result
    (rw (c.in_err-put_joining.ensures.entries_stay, c.in_err-put_joining.ensures.seen_stay) c.self.view_is)
