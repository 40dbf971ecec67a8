use Rattle.std.proofs.Common.{◌∙◌, IsTrue, ap, sym, subst, true≢false}
use Rattle.store_core.specs.DeltaStores.{CanAllBeRestored, CanBeRestored, CanBeUndelivered, CanBeUnjoined}
use Rattle.replica_core.specs.declared.change.Change.TheVariants.{Deliver, Permdown, LeaveAll, Update, Leave}
use Rattle.replica_core.specs.Delivered.{with_undelivered}
use Rattle.replica_core.specs.Invariant.{IsReplica}
use Rattle.replica_core.specs.ProcessLeaves.{with_lefts}
use Rattle.replica_core.specs.Changes.{ChangeGivesBack, ChangeLeadsBack, OfJoin, OfLeave, OfUpdate, OfUp, OfDown, with_left, without_last}
use Rattle.replica_core.specs.Changes.{OfPermdown, OfDeliver, needs_no_memory, plain_change, OfLeaveAll}
use Rattle.replica_core.proofs.Back.{back_holds, gives_back, restorable_leave, restorable_update}
use Rattle.replica_core.proofs.Destroyed.{remembered_new}
use Rattle.replica_core.proofs.StoreParts.{replica_of, stores_of}
use Rattle.replica_core.proofs.Undone.{can_restore, can_restore_all, can_undeliver, can_unjoin}
use Rattle.replica_core.proofs.ProcessLeft.{restorable_all}
use Rattle.replica_core.proofs.Sizes.{store_fits}
use Rattle.replica_core.proofs.replica.Replica.undo.Goals as goal

pub unjoin-requires : goal.unjoin-requires
unjoin-requires g c =
    let h = subst (λ change. ChangeLeadsBack (plain_change change) c.args.self.now c.requires.0) c.in-Join.is c.requires.1 in
    (store_fits g.row.A g.A.Allocator (search tt), subst (λ r. CanBeUnjoined (stores_of r)) (sym c.self.view_is) (can_unjoin c.args.self.now c.requires.0 h))

pub restore-requires : goal.restore-requires
restore-requires g c =
    let h = subst (λ change. ChangeLeadsBack (plain_change change) c.args.self.now c.requires.0) c.in-Leave.is c.requires.1 in (
      store_fits g.row.A g.A.Allocator (search tt),
      subst (λ r. CanBeRestored c.in-Leave.left.value (stores_of r)) (sym c.self-in-Leave.view_is)
          (can_restore c.args.self.now c.requires.0 c.in-Leave.left.value (restorable_leave c.in-Leave.left.value c.args.self.now c.requires.0 h)),
    )

pub restore-requires-in-Update : goal.restore-requires-in-Update
restore-requires-in-Update g c =
    let h = subst (λ change. ChangeLeadsBack (plain_change change) c.args.self.now c.requires.0) c.in-Update.is c.requires.1 in (
      store_fits g.row.A g.A.Allocator (search tt),
      subst (λ r. CanBeRestored c.in-Update.left.value (stores_of r)) (sym c.self-in-Update.view_is)
          (can_restore c.args.self.now c.requires.0 c.in-Update.left.value (restorable_update c.in-Update.left.value c.args.self.now c.requires.0 h)),
    )

pub restore_each-requires : goal.restore_each-requires
restore_each-requires g c =
    let h = subst (λ change. ChangeLeadsBack (plain_change change) c.args.self.now c.requires.0) c.in-LeaveAll.is c.requires.1 in (
      store_fits g.row.A g.A.Allocator (search tt),
      subst (λ r. CanAllBeRestored c.in-LeaveAll.lefts.items (stores_of r)) (sym c.self-in-LeaveAll.view_is)
          (can_restore_all c.args.self.now c.requires.0 c.in-LeaveAll.lefts.items
          (restorable_all c.in-LeaveAll.lefts.items c.args.self.now c.requires.0 h.earlier h.call)),
    )

pub undeliver-requires : goal.undeliver-requires
undeliver-requires g c =
    let h = subst (λ change. ChangeLeadsBack (plain_change change) c.args.self.now c.requires.0) c.in-Deliver.is c.requires.1 in (
      store_fits g.row.A g.A.Allocator (search tt),
      subst (λ r. CanBeUndelivered c.in-Deliver.delivered.value (stores_of r)) (sym c.self-in-Deliver.view_is)
          (can_undeliver c.args.self.now c.requires.0 c.in-Deliver.delivered.value h),
    )

pub put_status-requires : goal.put_status-requires
put_status-requires g c =
    let h = subst (λ change. ChangeLeadsBack (plain_change change) c.args.self.now c.requires.0) c.in-Up.is c.requires.1 in
    (search tt, ((h.call).number, subst IsReplica (sym (back_holds (OfUp c.in-Up.name c.in-Up.before) c.args.self.now c.requires.0 h)) h.earlier))

pub put_status-requires-in-Down : goal.put_status-requires-in-Down
put_status-requires-in-Down g c =
    let h = subst (λ change. ChangeLeadsBack (plain_change change) c.args.self.now c.requires.0) c.in-Down.is c.requires.1 in
    (search tt, ((h.call).number, subst IsReplica (sym (back_holds (OfDown c.in-Down.name c.in-Down.before) c.args.self.now c.requires.0 h)) h.earlier))

pub remember-requires : goal.remember-requires
remember-requires g c =
    let h = subst (λ change. ChangeLeadsBack (plain_change change) c.args.self.now c.requires.0) c.in-Permdown.is c.requires.1 in (
      search tt,
      (
        (h.call).number,
        (
          remembered_new c.in-Permdown.name c.in-Permdown.forgotten.value c.requires.0 c.args.self.now h.call,
          subst IsReplica
              (sym (back_holds (OfPermdown c.in-Permdown.name c.in-Permdown.forgotten.value) c.args.self.now c.requires.0 h)) h.earlier,
        ),
      ),
    )

pub returns-in-Up-clause-ok : goal.returns-in-Up-clause-ok
returns-in-Up-clause-ok g c =
    subst (λ change. ChangeGivesBack (plain_change change) c.args.self.now c.put_status.new.self) (sym c.in-Up.is)
    (gives_back (OfUp c.in-Up.name c.in-Up.before) c.args.self.now c.put_status.new.self c.put_status.ensures)

pub returns-in-Down-clause-ok : goal.returns-in-Down-clause-ok
returns-in-Down-clause-ok g c =
    subst (λ change. ChangeGivesBack (plain_change change) c.args.self.now c.put_status-in-Down.new.self) (sym c.in-Down.is)
    (gives_back (OfDown c.in-Down.name c.in-Down.before) c.args.self.now c.put_status-in-Down.new.self c.put_status-in-Down.ensures)

pub returns-in_default-remember-clause-ok : goal.returns-in_default-remember-clause-ok
returns-in_default-remember-clause-ok g c =
    subst (λ change. ChangeGivesBack (plain_change change) c.args.self.now c.remember.new.self) (sym c.in-Permdown.is)
    (gives_back (OfPermdown c.in-Permdown.name c.in-Permdown.forgotten.value) c.args.self.now c.remember.new.self c.in_default-remember.ensures.ok)

pub returns-in-Err-remember : goal.returns-in-Err-remember
returns-in-Err-remember g c = record {
  ok = tt;
  err = c.in-Err-remember.ensures.err;
  given_back = ap (Permdown c.in-Permdown.name) c.in-Err-remember.ensures.given_back ∙ sym c.in-Permdown.is;
  needs_no_memory = λ none. absurd (true≢false (sym (subst (λ change. IsTrue (needs_no_memory (plain_change change))) c.in-Permdown.is none)));
}

pub returns-in-Join-clause-ok : goal.returns-in-Join-clause-ok
returns-in-Join-clause-ok g c =
    subst (λ change. ChangeGivesBack (plain_change change) c.args.self.now (replica_of c.self.inside.limits c.self.inside.view c.unjoin.new.self)) (sym c.in-Join.is)
    (gives_back OfJoin c.args.self.now (replica_of c.self.inside.limits c.self.inside.view c.unjoin.new.self)
    (ap (replica_of c.self.inside.limits c.self.inside.view) c.unjoin.ensures ∙ ap without_last c.self.view_is))

pub returns-in_default-clause-ok : goal.returns-in_default-clause-ok
returns-in_default-clause-ok g c =
    subst (λ change. ChangeGivesBack (plain_change change) c.args.self.now (replica_of c.self-in-Leave.inside.limits c.self-in-Leave.inside.view c.restore.new.self)) (sym c.in-Leave.is)
    (gives_back (OfLeave c.in-Leave.left.value) c.args.self.now (replica_of c.self-in-Leave.inside.limits c.self-in-Leave.inside.view c.restore.new.self)
    (ap (replica_of c.self-in-Leave.inside.limits c.self-in-Leave.inside.view) c.in_default.ensures.ok ∙ ap (λ r. with_left c.in-Leave.left.value (without_last r)) c.self-in-Leave.view_is))

pub returns-in_default-restore-clause-ok : goal.returns-in_default-restore-clause-ok
returns-in_default-restore-clause-ok g c =
    subst (λ change. ChangeGivesBack (plain_change change) c.args.self.now (replica_of c.self-in-Update.inside.limits c.self-in-Update.inside.view c.restore-in-Update.new.self)) (sym c.in-Update.is)
    (gives_back (OfUpdate c.in-Update.left.value) c.args.self.now (replica_of c.self-in-Update.inside.limits c.self-in-Update.inside.view c.restore-in-Update.new.self)
    (ap (replica_of c.self-in-Update.inside.limits c.self-in-Update.inside.view) c.in_default-restore.ensures.ok ∙ ap (λ r. with_left c.in-Update.left.value (without_last r)) c.self-in-Update.view_is))

pub returns-in_default-restore_each-clause-ok : goal.returns-in_default-restore_each-clause-ok
returns-in_default-restore_each-clause-ok g c =
    subst (λ change. ChangeGivesBack (plain_change change) c.args.self.now (replica_of c.self-in-LeaveAll.inside.limits c.self-in-LeaveAll.inside.view c.restore_each.new.self)) (sym c.in-LeaveAll.is)
    (gives_back (OfLeaveAll c.in-LeaveAll.lefts.items) c.args.self.now (replica_of c.self-in-LeaveAll.inside.limits c.self-in-LeaveAll.inside.view c.restore_each.new.self)
    (ap (replica_of c.self-in-LeaveAll.inside.limits c.self-in-LeaveAll.inside.view) c.in_default-restore_each.ensures.ok ∙ ap (with_lefts c.in-LeaveAll.lefts.items) c.self-in-LeaveAll.view_is))

pub returns-in_default-undeliver-clause-ok : goal.returns-in_default-undeliver-clause-ok
returns-in_default-undeliver-clause-ok g c =
    subst (λ change. ChangeGivesBack (plain_change change) c.args.self.now (replica_of c.self-in-Deliver.inside.limits c.self-in-Deliver.inside.view c.undeliver.new.self)) (sym c.in-Deliver.is)
    (gives_back (OfDeliver c.in-Deliver.delivered.value) c.args.self.now (replica_of c.self-in-Deliver.inside.limits c.self-in-Deliver.inside.view c.undeliver.new.self)
    (ap (replica_of c.self-in-Deliver.inside.limits c.self-in-Deliver.inside.view) c.in_default-undeliver.ensures.ok ∙ ap (with_undelivered c.in-Deliver.delivered.value) c.self-in-Deliver.view_is))

pub returns-in-Err : goal.returns-in-Err
returns-in-Err g c = record {
  ok = tt;
  err = ap (replica_of c.self-in-Leave.inside.limits c.self-in-Leave.inside.view) c.in-Err.ensures.err ∙ c.self-in-Leave.view_is;
  given_back = ap Leave c.in-Err.ensures.given_back ∙ sym c.in-Leave.is;
  needs_no_memory = λ none. absurd (true≢false (sym (subst (λ change. IsTrue (needs_no_memory (plain_change change))) c.in-Leave.is none)));
}

pub returns-in-Err-restore : goal.returns-in-Err-restore
returns-in-Err-restore g c = record {
  ok = tt;
  err = ap (replica_of c.self-in-Update.inside.limits c.self-in-Update.inside.view) c.in-Err-restore.ensures.err ∙ c.self-in-Update.view_is;
  given_back = ap Update c.in-Err-restore.ensures.given_back ∙ sym c.in-Update.is;
  needs_no_memory = λ none. absurd (true≢false (sym (subst (λ change. IsTrue (needs_no_memory (plain_change change))) c.in-Update.is none)));
}

pub returns-in-Err-restore_each : goal.returns-in-Err-restore_each
returns-in-Err-restore_each g c = record {
  ok = tt;
  err = ap (replica_of c.self-in-LeaveAll.inside.limits c.self-in-LeaveAll.inside.view) c.in-Err-restore_each.ensures.err ∙ c.self-in-LeaveAll.view_is;
  given_back = ap LeaveAll c.in-Err-restore_each.ensures.given_back ∙ sym c.in-LeaveAll.is;
  needs_no_memory = λ none. absurd (true≢false (sym (subst (λ change. IsTrue (needs_no_memory (plain_change change))) c.in-LeaveAll.is none)));
}

pub returns-in-Err-undeliver : goal.returns-in-Err-undeliver
returns-in-Err-undeliver g c = record {
  ok = tt;
  err = ap (replica_of c.self-in-Deliver.inside.limits c.self-in-Deliver.inside.view) c.in-Err-undeliver.ensures.err ∙ c.self-in-Deliver.view_is;
  given_back = ap Deliver c.in-Err-undeliver.ensures.given_back ∙ sym c.in-Deliver.is;
  needs_no_memory = λ none. absurd (true≢false (sym (subst (λ change. IsTrue (needs_no_memory (plain_change change))) c.in-Deliver.is none)));
}

pub invariant_of-self : goal.invariant_of-self
invariant_of-self g c =
    let h = subst (λ change. ChangeLeadsBack (plain_change change) c.args.self.now c.requires.0) c.in-Join.is c.requires.1 in
    subst IsReplica
    (sym (ap (replica_of c.self.inside.limits c.self.inside.view) c.unjoin.ensures ∙ ap without_last c.self.view_is
    ∙ back_holds OfJoin c.args.self.now c.requires.0 h)) h.earlier

pub invariant_of-self-in-Leave : goal.invariant_of-self-in-Leave
invariant_of-self-in-Leave g c =
    let h = subst (λ change. ChangeLeadsBack (plain_change change) c.args.self.now c.requires.0) c.in-Leave.is c.requires.1 in
    subst IsReplica
    (sym (ap (replica_of c.self-in-Leave.inside.limits c.self-in-Leave.inside.view) c.in_default.ensures.ok ∙ ap (λ r. with_left c.in-Leave.left.value (without_last r)) c.self-in-Leave.view_is
    ∙ back_holds (OfLeave c.in-Leave.left.value) c.args.self.now c.requires.0 h)) h.earlier

pub invariant_of-self-in-Update : goal.invariant_of-self-in-Update
invariant_of-self-in-Update g c =
    let h = subst (λ change. ChangeLeadsBack (plain_change change) c.args.self.now c.requires.0) c.in-Update.is c.requires.1 in
    subst IsReplica
    (sym (ap (replica_of c.self-in-Update.inside.limits c.self-in-Update.inside.view) c.in_default-restore.ensures.ok ∙ ap (λ r. with_left c.in-Update.left.value (without_last r)) c.self-in-Update.view_is
    ∙ back_holds (OfUpdate c.in-Update.left.value) c.args.self.now c.requires.0 h)) h.earlier

pub invariant_of-self-in-LeaveAll : goal.invariant_of-self-in-LeaveAll
invariant_of-self-in-LeaveAll g c =
    let h = subst (λ change. ChangeLeadsBack (plain_change change) c.args.self.now c.requires.0) c.in-LeaveAll.is c.requires.1 in
    subst IsReplica
    (sym (ap (replica_of c.self-in-LeaveAll.inside.limits c.self-in-LeaveAll.inside.view) c.in_default-restore_each.ensures.ok ∙ ap (with_lefts c.in-LeaveAll.lefts.items) c.self-in-LeaveAll.view_is
    ∙ back_holds (OfLeaveAll c.in-LeaveAll.lefts.items) c.args.self.now c.requires.0 h)) h.earlier

pub invariant_of-self-in-Deliver : goal.invariant_of-self-in-Deliver
invariant_of-self-in-Deliver g c =
    let h = subst (λ change. ChangeLeadsBack (plain_change change) c.args.self.now c.requires.0) c.in-Deliver.is c.requires.1 in
    subst IsReplica
    (sym (ap (replica_of c.self-in-Deliver.inside.limits c.self-in-Deliver.inside.view) c.in_default-undeliver.ensures.ok ∙ ap (with_undelivered c.in-Deliver.delivered.value) c.self-in-Deliver.view_is
    ∙ back_holds (OfDeliver c.in-Deliver.delivered.value) c.args.self.now c.requires.0 h)) h.earlier
