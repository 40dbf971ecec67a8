use Rattle.std.proofs.Common.{◌≡◌, ◌∙◌, Some, ap, subst, sym, true}
use Rattle.std.specs.FinMap as fin
use Rattle.entry_core.specs.Presences.{Entries}
use Rattle.store_core.specs.LeftEntries.{Left}
use Rattle.store_core.proofs.StoreEdits.{never_absent, taken_absent, taken_back}
use Rattle.store_core.proofs.store_leaves.take_left.Goals as goal

pub unreachable-requires : goal.unreachable-requires
unreachable-requires g c =
    never_absent c.make_room.new.self.map c.args.dot c.in_ok-entry.field-0
    (subst (λ (m : Entries). fin.contains_key m c.args.dot ≡ true) (sym c.in_ok-make_room.ensures.map) c.requires) c.in_ok-entry.ensures.entry
    c.in_default.is

pub put_ready-requires-clause-absent : goal.put_ready-requires-clause-absent
put_ready-requires-clause-absent g c =
    taken_absent c.make_room.new.self.map c.take.new.self.map c.args.dot c.failed.inside.0.0.entry c.in_ok-entry.ensures.map
    (ap (λ (l : Left). Some l.entry) (ap (λ f. f.value) c.failed.view_is ∙ c.in-Err.ensures.value_returned) ∙ sym c.in-Some.is ∙ c.in_ok-entry.ensures.entry)

pub returns-in-Err-clause-err : goal.returns-in-Err-clause-err
returns-in-Err-clause-err g c =
    taken_back c.make_room.new.self.map c.take.new.self.map c.put_ready.new.self.map c.args.dot c.failed.inside.0.0.entry c.in_ok-entry.ensures.map
    (ap (λ (l : Left). Some l.entry) (ap (λ f. f.value) c.failed.view_is ∙ c.in-Err.ensures.value_returned) ∙ sym c.in-Some.is ∙ c.in_ok-entry.ensures.entry)
    c.put_ready.ensures
    ∙ c.make_room.ensures.map
