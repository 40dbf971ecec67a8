use Rattle.std.proofs.Common.{refl, rules, sym, slice_get, ◌∙◌}
use Rattle.payload_core.specs.Presences.{dots_of, is_tracked_as}
use Rattle.replica_core.proofs.Calls.{leave_accepted, leave_full, leave_untracked}
use Rattle.replica_core.proofs.Left.{found_dot, found_live}
use Rattle.replica_core.proofs.replica.Replica.leaving_dot.Goals as goal

pub returns-clause-dot : goal.returns-clause-dot
returns-clause-dot g c =
    (found_dot c.args.self.now c.args.self.now c.args.pid c.args.topic.now c.args.key.now c.in-Some.dot refl c.replica_law.ensures
    (c.in-Some.ensures ∙ (λ i. slice_get (dots_of (c.own.ensures i) (is_tracked_as c.args.pid c.args.topic.now c.args.key.now) (c.entries.ensures i)) 0))).0

pub returns-clause-own : goal.returns-clause-own
returns-clause-own g c =
    (found_dot c.args.self.now c.args.self.now c.args.pid c.args.topic.now c.args.key.now c.in-Some.dot refl c.replica_law.ensures
    (c.in-Some.ensures ∙ (λ i. slice_get (dots_of (c.own.ensures i) (is_tracked_as c.args.pid c.args.topic.now c.args.key.now) (c.entries.ensures i)) 0))).1

pub returns-clause-live : goal.returns-clause-live
returns-clause-live g c =
    found_live c.args.self.now c.args.self.now c.args.pid c.args.topic.now c.args.key.now c.in-Some.dot refl c.replica_law.ensures
    (c.in-Some.ensures ∙ (λ i. slice_get (dots_of (c.own.ensures i) (is_tracked_as c.args.pid c.args.topic.now c.args.key.now) (c.entries.ensures i)) 0))

pub returns-clause-refused : goal.returns-clause-refused
returns-clause-refused g c =
    leave_accepted c.args.self.now c.args.pid c.args.topic.now c.args.key.now c.in-Some.dot (returns-clause-dot g c)
    (sym c.is_clock_full.ensures ∙ c.if-is_clock_full.false)

pub returns-then-is_clock_full-clause-refused : goal.returns-then-is_clock_full-clause-refused
returns-then-is_clock_full-clause-refused g c =
    λ _. leave_full c.args.self.now c.args.pid c.args.topic.now c.args.key.now c.in-Some.dot
    (found_dot c.args.self.now c.args.self.now c.args.pid c.args.topic.now c.args.key.now c.in-Some.dot refl c.replica_law.ensures
    (c.in-Some.ensures ∙ (λ i. slice_get (dots_of (c.own.ensures i) (is_tracked_as c.args.pid c.args.topic.now c.args.key.now) (c.entries.ensures i)) 0))).0
    (sym c.is_clock_full.ensures ∙ c.if-is_clock_full.true)

pub returns-in_default-clause-refused : goal.returns-in_default-clause-refused
returns-in_default-clause-refused g c =
    λ _. leave_untracked c.args.self.now c.args.self.now c.args.pid c.args.topic.now c.args.key.now refl
    (sym c.in_default.is ∙ c.find.ensures
    ∙ (λ i. slice_get (dots_of (c.own.ensures i) (is_tracked_as c.args.pid c.args.topic.now c.args.key.now) (c.entries.ensures i)) 0))

-- its own requirement is that of the calls
pub is_clock_full-requires : goal.is_clock_full-requires
is_clock_full-requires g c = (search tt, search rules)

pub entries-requires : goal.entries-requires
entries-requires g c = search tt

pub own-requires : goal.own-requires
own-requires g c = search tt

pub replica_law-requires : goal.replica_law-requires
replica_law-requires g c = search tt

pub find-requires : goal.find-requires
find-requires g c = search rules

pub returns-in_default-clause-fault : goal.returns-in_default-clause-fault
returns-in_default-clause-fault g c = λ e. absurd (cc)

pub returns-then-is_clock_full-clause-fault : goal.returns-then-is_clock_full-clause-fault
returns-then-is_clock_full-clause-fault g c = λ e. absurd (cc)
