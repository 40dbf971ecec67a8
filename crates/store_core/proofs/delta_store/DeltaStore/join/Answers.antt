use Rattle.std.proofs.Common.{◌∙◌, ap, refl, subst, sym}
use Rattle.std.specs.FinSet as set
use Rattle.entry_core.specs.Presences.{Entry, Presence, entry_of}
use Rattle.store_core.specs.DeltaStores.{DeltaStore, IsDeltaStore, fresh}
use Rattle.store_core.proofs.KeptStores.{joined_is, kept_joined, new_absent, new_next, room_here}
use Rattle.store_core.proofs.Told.{ok_of}
use Rattle.store_core.proofs.delta_store.DeltaStore.join.Goals as goal

pub unwrap-requires : goal.unwrap-requires
unwrap-requires g c =
    c.insert.ensures.next
    (new_next _ c.args.self.now c.self.view_is c.self.invariant c.dot.result (c.dot.ensures ∙ ap (λ (e : Entry). e.dot) c.in_ok-entry.ensures))

pub put_ready-requires-clause-absent : goal.put_ready-requires-clause-absent
put_ready-requires-clause-absent g c =
    rw (c.in_ok-make_room.ensures.map)
    (new_absent _ c.args.self.now c.self.view_is c.self.invariant c.in_ok-entry.entry.dot (ap (λ (e : Entry). e.dot) c.in_ok-entry.ensures))

pub invariant_of-self-2 : goal.invariant_of-self-2
invariant_of-self-2 g c =
    let p : Presence = record { pid = c.args.pid; topic = c.args.topic.now; key = c.args.key.now; metadata = c.args.metadata.now } in
    let is = c.in_ok-entry.ensures ∙ ap (λ (s : DeltaStore). entry_of (fresh s) p) (sym c.self.view_is) in
    subst IsDeltaStore
    (sym (joined_is _ c.insert.new.self c.put_unsent.new.seen c.put_ready.new.self.map c.put_unsent.new.entries.map c.in_ok-entry.entry p is
    (ok_of c.insert.result _ c.unwrap.ensures c.insert.ensures.ok ∙ ap (set.insert c.self.inside.seen) c.dot.ensures)
    (rw (c.put_ready.ensures, c.in_ok-make_room.ensures.map) refl)
    c.in_ok-put_unsent.ensures.seen c.in_ok-put_unsent.ensures.entries))
    (kept_joined _ c.self.invariant p (room_here _ c.args.self.now c.self.view_is c.self.invariant c.requires))
