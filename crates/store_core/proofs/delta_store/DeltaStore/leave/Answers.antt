use Rattle.std.proofs.Common.{◌∙◌, Some, ap, rules, subst, sym}
use Rattle.store_core.specs.DeltaStores.{DeltaStore, IsDeltaStore, left}
use Rattle.store_core.specs.LeftEntries.{Left}
use Rattle.store_core.proofs.KeptStores.{fresh_here, kept_left, left_is, live_seen, live_valid, new_last, new_next, new_unsent, new_valid, room_here}
use Rattle.store_core.proofs.StoreEdits.{taken_absent, taken_back}
use Rattle.store_core.proofs.Told.{ok_of}
use Rattle.store_core.proofs.delta_store.DeltaStore.leave.Goals as goal

pub see-requires : goal.see-requires
see-requires g c = (
  search rules,
  (
    live_valid _ c.args.self.now c.self.view_is c.self.invariant c.args.dot c.requires.live,
    (
      new_valid _ c.args.self.now c.self.view_is c.self.invariant c.fresh-fresh.result c.fresh-fresh.ensures c.requires.free,
      (new_last _ c.args.self.now c.self.view_is c.self.invariant c.fresh-fresh.result c.fresh-fresh.ensures, new_unsent _ c.args.self.now c.self.view_is c.self.invariant c.fresh-fresh.result c.fresh-fresh.ensures),
    ),
  ),
)

pub unwrap-requires : goal.unwrap-requires
unwrap-requires g c = c.insert.ensures.next (new_next _ c.args.self.now c.self.view_is c.self.invariant c.fresh-fresh.result c.fresh-fresh.ensures)

pub put_ready-requires-clause-absent : goal.put_ready-requires-clause-absent
put_ready-requires-clause-absent g c =
    taken_absent c.self.inside.entries.map c.take_left.new.entries.map c.args.dot c.put_ready.inside.entry c.in_ok-left.ensures.map
    (ap (λ (l : Left). Some l.entry) (c.put_ready.view_is ∙ c.into_inner.ensures) ∙ c.in_ok-left.ensures.entry)

pub returns-in-Err-clause-err : goal.returns-in-Err-clause-err
returns-in-Err-clause-err g c =
    rw ((taken_back c.self.inside.entries.map c.take_left.new.entries.map c.put_ready-in-Err.new.self.map c.args.dot c.put_ready.inside.entry c.in_ok-left.ensures.map (ap (λ (l : Left). Some l.entry) (c.put_ready.view_is ∙ c.into_inner.ensures) ∙ c.in_ok-left.ensures.entry) c.put_ready-in-Err.ensures), c.in-Err.ensures.err) c.self.view_is

pub invariant_of-self-2 : goal.invariant_of-self-2
invariant_of-self-2 g c =
    subst IsDeltaStore (sym (left_is (record { own = c.self.inside.own; store = record { seen = c.self.inside.seen; entries = c.self.inside.entries.map }; delta = record { seen = c.self.inside.delta_seen; entries = c.self.inside.delta_entries.map } }) c.insert.new.self c.see.new.seen c.take_left.new.entries.map c.take_unsent.new.entries.map c.args.dot c.fresh-fresh.result
    (fresh_here _ c.args.self.now c.self.view_is c.self.invariant c.fresh-fresh.result c.fresh-fresh.ensures) (ok_of c.insert.result _ c.unwrap.ensures c.insert.ensures.ok)
    c.in_ok-left.ensures.map c.in_default.ensures.ok c.take_unsent.ensures))
    (kept_left c.args.dot _ c.self.invariant (c.requires.own ∙ ap (λ (s : DeltaStore). s.own) (sym c.self.view_is))
    (live_seen _ c.args.self.now c.self.view_is c.self.invariant c.args.dot c.requires.live) (room_here _ c.args.self.now c.self.view_is c.self.invariant c.requires.free))

pub returns-clause-left : goal.returns-clause-left
returns-clause-left g c =
    left_is (record { own = c.self.inside.own; store = record { seen = c.self.inside.seen; entries = c.self.inside.entries.map }; delta = record { seen = c.self.inside.delta_seen; entries = c.self.inside.delta_entries.map } }) c.insert.new.self c.see.new.seen c.take_left.new.entries.map c.take_unsent.new.entries.map c.args.dot c.fresh-fresh.result
    (fresh_here _ c.args.self.now c.self.view_is c.self.invariant c.fresh-fresh.result c.fresh-fresh.ensures) (ok_of c.insert.result _ c.unwrap.ensures c.insert.ensures.ok)
    c.in_ok-left.ensures.map c.in_default.ensures.ok c.take_unsent.ensures
    ∙ ap (left c.args.dot) c.self.view_is

pub invariant_of-self-in-Err : goal.invariant_of-self-in-Err
invariant_of-self-in-Err g c =
    rw ((taken_back c.self.inside.entries.map c.take_left.new.entries.map c.put_ready-in-Err.new.self.map c.args.dot c.put_ready.inside.entry c.in_ok-left.ensures.map (ap (λ (l : Left). Some l.entry) (c.put_ready.view_is ∙ c.into_inner.ensures) ∙ c.in_ok-left.ensures.entry) c.put_ready-in-Err.ensures), c.in-Err.ensures.err) c.self.invariant
