use Rattle.std.proofs.Common.{rules, ◌≡◌, ℕ, ◌==◌, not, true, false, List, [], ◌∷◌, length, Some, refl, ap, sym, subst, subst₂, ◌∙◌, true≢false, arith}
use Rattle.std.proofs.lemmas.Bool.{eq-eqb, eqb-true}
use Rattle.dots_core.specs.declared.dot.Dot.{Dot}
use Rattle.store_core.specs.LeavesTogether.{lefts_of}
use Rattle.replica_core.specs.declared.replica_fault.ReplicaFault.TheVariants.{NotTracked, ClockFull}
use Rattle.replica_core.specs.Invariant.{IsReplica}
use Rattle.replica_core.specs.Leaves.{AreOwnSeen}
use Rattle.replica_core.specs.Replicas.{Replica, dots_of_process, left_each}
use Rattle.replica_core.specs.Refusals.{first_of, is_clock_full, is_some_dot, leave_all_refusal}
use Rattle.replica_core.proofs.Calls.{refused_memory, leave_all_free}
use Rattle.replica_core.proofs.Left.{kept_left_each}
use Rattle.replica_core.proofs.StoreParts.{left_each_stores, replica_of, room}
use Rattle.replica_core.proofs.Sizes.{store_fits}
use Rattle.replica_core.proofs.replica.Replica.leave_all.Goals as goal

-- where no entry is of the process
leave_all_untracked : (r : Replica) (pid : ℕ) (ds : List Dot) (len : ℕ) → ds ≡ dots_of_process r pid → len ≡ length ds →
    (len == 0) ≡ true → leave_all_refusal r pid ≡ Some NotTracked
leave_all_untracked r pid [] len is count none =
    subst (λ (ds : List Dot). first_of ((not (is_some_dot ds), NotTracked) ∷ (is_clock_full r (length ds), ClockFull) ∷ []) ≡ Some NotTracked) is refl
leave_all_untracked r pid (d ∷ ds) len is count none = absurd (omega (arith, eqb-true len 0 none))

-- where there are more than the own clock has room for
leave_all_full : (r : Replica) (pid : ℕ) (ds : List Dot) (len : ℕ) → ds ≡ dots_of_process r pid → len ≡ length ds →
    (len == 0) ≡ false → is_clock_full r len ≡ true → leave_all_refusal r pid ≡ Some ClockFull
leave_all_full r pid [] len is count some full = absurd (true≢false (sym (eq-eqb len 0 count) ∙ some))
leave_all_full r pid (d ∷ ds) len is count some full =
    subst (λ (ds : List Dot). first_of ((not (is_some_dot ds), NotTracked) ∷ (is_clock_full r (length ds), ClockFull) ∷ []) ≡ Some ClockFull) is
    (ap (λ b. first_of ((b, ClockFull) ∷ [])) (ap (is_clock_full r) (sym count) ∙ full))

pub returns-then-is_empty-clause-refused : goal.returns-then-is_empty-clause-refused
returns-then-is_empty-clause-refused g c =
    λ _. leave_all_untracked c.args.self.now c.args.pid c.in_ok-leaving.leaving.items _ c.in_ok-leaving.ensures.dots c.in_ok-leaving.leaving.ok.0
    (sym c.is_empty.ensures ∙ c.if-is_empty.true)

pub returns-then-is_clock_full-clause-refused : goal.returns-then-is_clock_full-clause-refused
returns-then-is_clock_full-clause-refused g c =
    λ _. leave_all_full c.args.self.now c.args.pid c.in_ok-leaving.leaving.items _ c.in_ok-leaving.ensures.dots c.in_ok-leaving.leaving.ok.0
    (sym c.is_empty.ensures ∙ c.if-is_empty.false)
    (ap (is_clock_full c.args.self.now) (sym c.len.ensures) ∙ sym c.is_clock_full.ensures ∙ c.if-is_clock_full.true)

pub leave_each-requires : goal.leave_each-requires
leave_each-requires g c =
    let dots = c.deref.ensures.value in
    let free = ap (λ (ds : List Dot). is_clock_full c.args.self.now (length ds)) dots
    ∙ ap (is_clock_full c.args.self.now) (sym c.in_ok-leaving.leaving.ok.0 ∙ sym c.len.ensures)
    ∙ sym c.is_clock_full.ensures ∙ c.if-is_clock_full.false in (
      store_fits g.row.A g.A.Allocator (search tt),
      (
        subst₂ (λ ds (r : Replica). AreOwnSeen ds r) (sym dots) (sym c.self.view_is) c.in_ok-leaving.ensures.own,
        room _ c.args.self.now _ c.self.view_is c.self.invariant free,
      ),
    )

pub invariant_of-self-2 : goal.invariant_of-self-2
invariant_of-self-2 g c =
    let dots = c.deref.ensures.value in
    let r = replica_of c.self.inside.limits c.self.inside.view c.self.inside.stores in
    let free = ap (λ (ds : List Dot). is_clock_full c.args.self.now (length ds)) dots
    ∙ ap (is_clock_full c.args.self.now) (sym c.in_ok-leaving.leaving.ok.0 ∙ sym c.len.ensures)
    ∙ sym c.is_clock_full.ensures ∙ c.if-is_clock_full.false in
    subst IsReplica
    (sym (ap (replica_of c.self.inside.limits c.self.inside.view) c.in_ok-lefts.ensures.left
    ∙ left_each_stores c.deref.result.now c.self.inside.limits c.self.inside.view c.self.inside.stores))
    (kept_left_each c.deref.result.now r c.self.invariant
    (subst₂ (λ ds (r : Replica). AreOwnSeen ds r) (sym dots) (sym c.self.view_is) c.in_ok-leaving.ensures.own)
    (ap (λ (r : Replica). is_clock_full r (length c.deref.result.now)) c.self.view_is ∙ free))

pub invariant_of-self : goal.invariant_of-self
invariant_of-self g c = rw c.in_err-lefts.ensures.err c.self.invariant

pub returns-clause-left : goal.returns-clause-left
returns-clause-left g c =
    let dots = c.deref.ensures.value ∙ c.in_ok-leaving.ensures.dots in
    ap (replica_of c.self.inside.limits c.self.inside.view) c.in_ok-lefts.ensures.left
    ∙ left_each_stores c.deref.result.now c.self.inside.limits c.self.inside.view c.self.inside.stores
    ∙ (λ i. left_each (dots i) (c.self.view_is i))

pub returns-clause-refused : goal.returns-clause-refused
returns-clause-refused g c =
    leave_all_free c.args.self.now c.args.pid c.in_ok-leaving.leaving.items _ c.in_ok-leaving.ensures.dots c.in_ok-leaving.leaving.ok.0
    (sym c.is_empty.ensures ∙ c.if-is_empty.false)
    (ap (is_clock_full c.args.self.now) (sym c.len.ensures) ∙ sym c.is_clock_full.ensures ∙ c.if-is_clock_full.false)

pub returns-clause-leads_back : goal.returns-clause-leads_back
returns-clause-leads_back g c =
    let dots = c.deref.ensures.value ∙ c.in_ok-leaving.ensures.dots in
    record {
      call = record {
        pid = c.args.pid;
        accepted = returns-clause-refused g c;
        stood =
            c.in_ok-lefts.ensures.stood
            ∙ (λ i. lefts_of (dots i) (c.self.view_is i).store.entries (c.self.view_is i).delta.entries (c.self.view_is i).delta.seen);
        gives = returns-clause-left g c;
      };
      earlier = subst IsReplica c.self.view_is c.self.invariant;
    }

-- the requirements of the calls are its own
pub dots_of_process-requires : goal.dots_of_process-requires
dots_of_process-requires g c = search tt

pub is_clock_full-requires : goal.is_clock_full-requires
is_clock_full-requires g c = (search tt, search rules)

pub returns-in_err-leaving-clause-refused : goal.returns-in_err-leaving-clause-refused
returns-in_err-leaving-clause-refused g c = refused_memory _ c.from_residual.result c.from_residual.ensures.1

pub returns-in_err-lefts-clause-refused : goal.returns-in_err-lefts-clause-refused
returns-in_err-lefts-clause-refused g c = refused_memory _ c.from_residual-in_err-lefts.result c.from_residual-in_err-lefts.ensures.1
