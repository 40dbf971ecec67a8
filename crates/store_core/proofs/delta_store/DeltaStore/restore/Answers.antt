use Rattle.std.proofs.Common.{◌≡◌, ◌∙◌, None, ap, rules, subst, subst₂, sym}
use Rattle.std.specs.FinMap as fin
use Rattle.dots_core.specs.Dots.{IsValid}
use Rattle.entry_core.specs.Presences.{presence_of}
use Rattle.store_core.specs.DeltaStores.{DeltaStore, IsDeltaStore, with_left}
use Rattle.store_core.specs.LeftEntries.{IsFree, Left, dots_before, put}
use Rattle.store_core.proofs.KeptStores.{end_in_delta, end_last, end_valid, last_here, restored_is}
use Rattle.store_core.proofs.StoreEdits.{last_readied, seen_back, still_none}
use Rattle.store_core.proofs.delta_store.DeltaStore.restore.Goals as goal

pub put_unsent_back-requires : goal.put_unsent_back-requires
put_unsent_back-requires g c = (
  search rules,
  (
    subst (λ (l : Left). IsValid l.entry.dot) (sym c.deref.ensures) c.requires.valid,
    subst₂ (λ (l : Left) (s : DeltaStore). IsFree l.unsent s.delta.entries) (sym c.deref.ensures) (sym c.self.view_is) c.requires.place.unsent,
  ),
)

pub take_out-requires : goal.take_out-requires
take_out-requires g c = (search rules, (end_valid _ c.args.self.now c.self.view_is c.self.invariant c.last-last.result c.last-last.ensures c.requires.some, end_last _ c.args.self.now c.self.view_is c.self.invariant c.last-last.result c.last-last.ensures))

pub put_ready-requires-clause-absent : goal.put_ready-requires-clause-absent
put_ready-requires-clause-absent g c =
    ap (λ m. fin.get m c.entry.inside.entry.dot) (c.take_out.ensures.entries ∙ ap (λ m. fin.remove m c.last-last.result) c.make_room.ensures.map)
    ∙ still_none c.self.inside.entries.map c.last-last.result c.entry.inside.entry.dot
    (subst₂ (λ (l : Left) (s : DeltaStore). fin.get s.store.entries l.entry.dot ≡ None) (sym (c.entry.view_is ∙ c.into_inner.ensures)) (sym c.self.view_is) c.requires.place.entry)

pub take_out_beside-requires : goal.take_out_beside-requires
take_out_beside-requires g c = (
  search rules,
  (
    end_valid _ c.args.self.now c.self.view_is c.self.invariant c.last-last.result c.last-last.ensures c.requires.some,
    last_readied c.args.left.value.in_delta c.self.inside.delta_seen c.put_unsent_back.new.seen c.args.left.value.entry.dot c.last-last.result
        (c.in_default-put_unsent_back.ensures.seen ∙ ap (λ (l : Left). dots_before l.in_delta l.entry.dot c.self.inside.delta_seen) c.deref.ensures) (end_in_delta _ c.args.self.now c.self.view_is c.self.invariant c.last-last.result c.last-last.ensures),
  ),
)

pub returns-clause-ok : goal.returns-clause-ok
returns-clause-ok g c =
    restored_is (record { own = c.self.inside.own; store = record { seen = c.self.inside.seen; entries = c.self.inside.entries.map }; delta = record { seen = c.self.inside.delta_seen; entries = c.self.inside.delta_entries.map } }) c.take_out.new.seen c.take_out_beside.new.seen c.put_ready.new.self.map c.take_out_beside.new.entries.map c.args.left.value c.last-last.result
    (last_here _ c.args.self.now c.self.view_is c.self.invariant c.last-last.result c.last-last.ensures)
    c.take_out.ensures.seen
    (c.put_ready.ensures ∙ ap (λ (l : Left). fin.insert c.take_out.new.entries.map l.entry.dot (presence_of l.entry)) (c.entry.view_is ∙ c.into_inner.ensures)
    ∙ ap (λ m. fin.insert m c.args.left.value.entry.dot (presence_of c.args.left.value.entry)) (c.take_out.ensures.entries ∙ ap (λ m. fin.remove m c.last-last.result) c.make_room.ensures.map))
    (seen_back c.args.left.value.in_delta c.self.inside.delta_seen c.put_unsent_back.new.seen c.take_out_beside.new.seen c.args.left.value.entry.dot c.last-last.result
    (c.in_default-put_unsent_back.ensures.seen ∙ ap (λ (l : Left). dots_before l.in_delta l.entry.dot c.self.inside.delta_seen) c.deref.ensures) c.take_out_beside.ensures.seen)
    (c.take_out_beside.ensures.entries c.self.inside.delta_entries.map
    (subst₂ (λ (l : Left) (s : DeltaStore). IsFree l.unsent s.delta.entries) (sym (c.entry.view_is ∙ c.into_inner.ensures)) (sym c.self.view_is) c.requires.place.unsent)
    (c.in_default-put_unsent_back.ensures.entries ∙ ap (λ (l : Left). put l.unsent c.self.inside.delta_entries.map) (c.deref.ensures ∙ sym (c.entry.view_is ∙ c.into_inner.ensures)))
    ∙ ap (λ (l : Left). put l.unsent (fin.remove c.self.inside.delta_entries.map c.last-last.result)) (c.entry.view_is ∙ c.into_inner.ensures))
    ∙ ap (with_left c.args.left.value) c.self.view_is

pub invariant_of-self-2 : goal.invariant_of-self-2
invariant_of-self-2 g c =
    subst IsDeltaStore (sym (restored_is (record { own = c.self.inside.own; store = record { seen = c.self.inside.seen; entries = c.self.inside.entries.map }; delta = record { seen = c.self.inside.delta_seen; entries = c.self.inside.delta_entries.map } }) c.take_out.new.seen c.take_out_beside.new.seen c.put_ready.new.self.map c.take_out_beside.new.entries.map c.args.left.value c.last-last.result
    (last_here _ c.args.self.now c.self.view_is c.self.invariant c.last-last.result c.last-last.ensures)
    c.take_out.ensures.seen
    (c.put_ready.ensures ∙ ap (λ (l : Left). fin.insert c.take_out.new.entries.map l.entry.dot (presence_of l.entry)) (c.entry.view_is ∙ c.into_inner.ensures)
    ∙ ap (λ m. fin.insert m c.args.left.value.entry.dot (presence_of c.args.left.value.entry)) (c.take_out.ensures.entries ∙ ap (λ m. fin.remove m c.last-last.result) c.make_room.ensures.map))
    (seen_back c.args.left.value.in_delta c.self.inside.delta_seen c.put_unsent_back.new.seen c.take_out_beside.new.seen c.args.left.value.entry.dot c.last-last.result
    (c.in_default-put_unsent_back.ensures.seen ∙ ap (λ (l : Left). dots_before l.in_delta l.entry.dot c.self.inside.delta_seen) c.deref.ensures) c.take_out_beside.ensures.seen)
    (c.take_out_beside.ensures.entries c.self.inside.delta_entries.map
    (subst₂ (λ (l : Left) (s : DeltaStore). IsFree l.unsent s.delta.entries) (sym (c.entry.view_is ∙ c.into_inner.ensures)) (sym c.self.view_is) c.requires.place.unsent)
    (c.in_default-put_unsent_back.ensures.entries ∙ ap (λ (l : Left). put l.unsent c.self.inside.delta_entries.map) (c.deref.ensures ∙ sym (c.entry.view_is ∙ c.into_inner.ensures)))
    ∙ ap (λ (l : Left). put l.unsent (fin.remove c.self.inside.delta_entries.map c.last-last.result)) (c.entry.view_is ∙ c.into_inner.ensures))
    ∙ ap (with_left c.args.left.value) c.self.view_is)) c.requires.earlier
