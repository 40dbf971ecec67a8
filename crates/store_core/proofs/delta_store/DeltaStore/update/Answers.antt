use Rattle.std.proofs.Common.{◌∙◌, Some, ap, rules, subst, sym}
use Rattle.std.specs.Option.{option_map}
use Rattle.std.specs.FinMap as fin
use Rattle.std.specs.FinSet as set
use Rattle.block_core.proofs.EntryMaps.{get_insert_other}
use Rattle.entry_core.specs.Presences.{Entry, Presence, entry_of, presence_of}
use Rattle.store_core.specs.DeltaStores.{DeltaStore, IsDeltaStore, dropped, fresh, joined}
use Rattle.store_core.specs.LeftEntries.{Left}
use Rattle.store_core.proofs.KeptStores.{kept_dropped, kept_joined, live_seen, live_valid, new_absent, new_absent_in_delta, new_last, new_next, new_unsent}
use Rattle.store_core.proofs.KeptStores.{new_valid, room_here, updated_is}
use Rattle.store_core.proofs.StoreEdits.{apart, put_and_other_removed, still_none, taken_absent, taken_back}
use Rattle.store_core.proofs.Told.{ok_of}
use Rattle.store_core.proofs.delta_store.DeltaStore.update.Goals as goal

pub put_unsent-requires : goal.put_unsent-requires
put_unsent-requires g c = (
  search rules,
  (
    live_valid _ c.args.self.now c.self.view_is c.self.invariant c.args.dot c.requires.live,
    (
      new_valid _ c.args.self.now c.self.view_is c.self.invariant c.in_ok-entry.entry.dot (ap (λ (e : Entry). e.dot) c.in_ok-entry.ensures) c.requires.free,
      (new_absent_in_delta _ c.args.self.now c.self.view_is c.self.invariant c.in_ok-entry.entry.dot (ap (λ (e : Entry). e.dot) c.in_ok-entry.ensures), (new_last _ c.args.self.now c.self.view_is c.self.invariant c.in_ok-entry.entry.dot (ap (λ (e : Entry). e.dot) c.in_ok-entry.ensures), new_unsent _ c.args.self.now c.self.view_is c.self.invariant c.in_ok-entry.entry.dot (ap (λ (e : Entry). e.dot) c.in_ok-entry.ensures))),
    ),
  ),
)

pub unwrap-requires : goal.unwrap-requires
unwrap-requires g c =
    c.insert.ensures.next (new_next _ c.args.self.now c.self.view_is c.self.invariant c.dot.result (c.dot.ensures ∙ ap (λ (e : Entry). e.dot) c.in_ok-entry.ensures))

pub put_ready-requires-clause-absent : goal.put_ready-requires-clause-absent
put_ready-requires-clause-absent g c =
    taken_absent c.self.inside.entries.map c.take_left.new.entries.map c.args.dot c.put_ready.inside.entry c.in_ok-left.ensures.map
    (ap (λ (l : Left). Some l.entry) (c.put_ready.view_is ∙ c.into_inner.ensures) ∙ c.in_ok-left.ensures.entry)

pub put_ready-requires-2-clause-absent : goal.put_ready-requires-2-clause-absent
put_ready-requires-2-clause-absent g c =
    ap (λ m. fin.get m c.in_ok-entry.entry.dot) c.in_ok-left.ensures.map
    ∙ still_none c.self.inside.entries.map c.args.dot c.in_ok-entry.entry.dot (new_absent _ c.args.self.now c.self.view_is c.self.invariant c.in_ok-entry.entry.dot (ap (λ (e : Entry). e.dot) c.in_ok-entry.ensures))

pub take_unsent-requires : goal.take_unsent-requires
take_unsent-requires g c =
    ap (λ (l : Left). l.unsent) c.deref.ensures ∙ c.in_ok-left.ensures.unsent
    ∙ ap (option_map (entry_of c.args.dot))
    (sym (ap (λ m. fin.get m c.args.dot) c.in_default.ensures.entries
    ∙ get_insert_other c.self.inside.delta_entries.map c.in_ok-entry.entry.dot c.args.dot (presence_of c.in_ok-entry.entry)
    (λ one. (apart c.self.inside.entries.map c.in_ok-entry.entry.dot c.args.dot (new_absent _ c.args.self.now c.self.view_is c.self.invariant c.in_ok-entry.entry.dot (ap (λ (e : Entry). e.dot) c.in_ok-entry.ensures)) (ap (λ (s : DeltaStore). fin.contains_key s.store.entries c.args.dot) c.self.view_is ∙ c.requires.live)) (sym one))))

pub returns-in-Err-clause-err : goal.returns-in-Err-clause-err
returns-in-Err-clause-err g c =
    rw ((taken_back c.self.inside.entries.map c.take_left.new.entries.map c.put_ready-in-Err.new.self.map c.args.dot c.put_ready.inside.entry c.in_ok-left.ensures.map (ap (λ (l : Left). Some l.entry) (c.put_ready.view_is ∙ c.into_inner.ensures) ∙ c.in_ok-left.ensures.entry) c.put_ready-in-Err.ensures), c.in-Err.ensures.entries_stay, c.in-Err.ensures.seen_stay) c.self.view_is

pub invariant_of-self-2 : goal.invariant_of-self-2
invariant_of-self-2 g c =
    let p : Presence = record { pid = c.args.pid; topic = c.args.topic.now; key = c.args.key.now; metadata = c.args.metadata.now } in
    subst IsDeltaStore (sym (updated_is (record { own = c.self.inside.own; store = record { seen = c.self.inside.seen; entries = c.self.inside.entries.map }; delta = record { seen = c.self.inside.delta_seen; entries = c.self.inside.delta_entries.map } }) c.insert.new.self c.put_unsent.new.seen c.put_ready-2.new.self.map c.take_unsent.new.entries.map c.args.dot c.in_ok-entry.entry p
    (c.in_ok-entry.ensures ∙ ap (λ (s : DeltaStore). entry_of (fresh s) p) (sym c.self.view_is))
    (ok_of c.insert.result _ c.unwrap.ensures c.insert.ensures.ok ∙ ap (set.insert c.self.inside.seen) c.dot.ensures)
    (c.put_ready-2.ensures ∙ ap (λ m. fin.insert m c.in_ok-entry.entry.dot (presence_of c.in_ok-entry.entry)) c.in_ok-left.ensures.map)
    c.in_default.ensures.seen
    (c.take_unsent.ensures ∙ ap (λ m. fin.remove m c.args.dot) c.in_default.ensures.entries
    ∙ put_and_other_removed c.self.inside.delta_entries.map c.in_ok-entry.entry.dot c.args.dot (presence_of c.in_ok-entry.entry)
    (apart c.self.inside.entries.map c.in_ok-entry.entry.dot c.args.dot (new_absent _ c.args.self.now c.self.view_is c.self.invariant c.in_ok-entry.entry.dot (ap (λ (e : Entry). e.dot) c.in_ok-entry.ensures)) (ap (λ (s : DeltaStore). fin.contains_key s.store.entries c.args.dot) c.self.view_is ∙ c.requires.live)))))
    (kept_joined (dropped c.args.dot (record { own = c.self.inside.own; store = record { seen = c.self.inside.seen; entries = c.self.inside.entries.map }; delta = record { seen = c.self.inside.delta_seen; entries = c.self.inside.delta_entries.map } }))
    (kept_dropped (record { own = c.self.inside.own; store = record { seen = c.self.inside.seen; entries = c.self.inside.entries.map }; delta = record { seen = c.self.inside.delta_seen; entries = c.self.inside.delta_entries.map } }) c.self.invariant c.args.dot (c.requires.own ∙ ap (λ (s : DeltaStore). s.own) (sym c.self.view_is))
    (live_seen _ c.args.self.now c.self.view_is c.self.invariant c.args.dot c.requires.live)) p (room_here _ c.args.self.now c.self.view_is c.self.invariant c.requires.free))

pub returns-clause-updated : goal.returns-clause-updated
returns-clause-updated g c =
    let p : Presence = record { pid = c.args.pid; topic = c.args.topic.now; key = c.args.key.now; metadata = c.args.metadata.now } in
    updated_is (record { own = c.self.inside.own; store = record { seen = c.self.inside.seen; entries = c.self.inside.entries.map }; delta = record { seen = c.self.inside.delta_seen; entries = c.self.inside.delta_entries.map } }) c.insert.new.self c.put_unsent.new.seen c.put_ready-2.new.self.map c.take_unsent.new.entries.map c.args.dot c.in_ok-entry.entry p
    (c.in_ok-entry.ensures ∙ ap (λ (s : DeltaStore). entry_of (fresh s) p) (sym c.self.view_is))
    (ok_of c.insert.result _ c.unwrap.ensures c.insert.ensures.ok ∙ ap (set.insert c.self.inside.seen) c.dot.ensures)
    (c.put_ready-2.ensures ∙ ap (λ m. fin.insert m c.in_ok-entry.entry.dot (presence_of c.in_ok-entry.entry)) c.in_ok-left.ensures.map)
    c.in_default.ensures.seen
    (c.take_unsent.ensures ∙ ap (λ m. fin.remove m c.args.dot) c.in_default.ensures.entries
    ∙ put_and_other_removed c.self.inside.delta_entries.map c.in_ok-entry.entry.dot c.args.dot (presence_of c.in_ok-entry.entry)
    (apart c.self.inside.entries.map c.in_ok-entry.entry.dot c.args.dot (new_absent _ c.args.self.now c.self.view_is c.self.invariant c.in_ok-entry.entry.dot (ap (λ (e : Entry). e.dot) c.in_ok-entry.ensures)) (ap (λ (s : DeltaStore). fin.contains_key s.store.entries c.args.dot) c.self.view_is ∙ c.requires.live)))
    ∙ ap (λ s. joined p (dropped c.args.dot s)) c.self.view_is

pub invariant_of-self-in-Err : goal.invariant_of-self-in-Err
invariant_of-self-in-Err g c =
    rw ((taken_back c.self.inside.entries.map c.take_left.new.entries.map c.put_ready-in-Err.new.self.map c.args.dot c.put_ready.inside.entry c.in_ok-left.ensures.map (ap (λ (l : Left). Some l.entry) (c.put_ready.view_is ∙ c.into_inner.ensures) ∙ c.in_ok-left.ensures.entry) c.put_ready-in-Err.ensures), c.in-Err.ensures.entries_stay, c.in-Err.ensures.seen_stay) c.self.invariant
