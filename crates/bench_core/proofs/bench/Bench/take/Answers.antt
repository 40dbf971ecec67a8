use Rattle.std.proofs.Common.{◌≡◌, ◌≢◌, ◌≤◌, ◌++◌, ◌∷◌, [], ◌∙◌, List, refl, sym, ap, subst, true, arith}
use Rattle.std.specs.List.{Contains}
use Rattle.std.proofs.lemmas.List.Elements.{Contains-push}
use Rattle.node_core.specs.declared.step_fault.StepFault.TheVariants as step_faults
use Rattle.node_core.specs.Operations.{Operation, plain}
use Rattle.node_core.specs.Inverses.{plain_inverse}
use Rattle.journal_core.specs.Holdings.{Held, Journal, Room, kepts, room_for}
use Rattle.bench_core.specs.declared.reply.Reply.TheVariants.{Refused}
use Rattle.bench_core.specs.declared.fault.Fault.TheVariants.{OutOfMemory}
use Rattle.bench_core.specs.Acts.{plain_act}
use Rattle.bench_core.specs.Histories.{note}
use Rattle.bench_core.specs.Machine.{Event, config_of, free_places, knows}
use Rattle.bench_core.proofs.Invariant.{machine, added, can_step, can_keep, taken_asked, refused_asked, unmade_step, unstepped}
use Rattle.bench_core.proofs.Tried.{is_made, was_made, was_refused}
use denote.Enum.Bare.{same_false}
use Rattle.node_core.specs.contracts.step_fault.StepFault.{the_type}
use Rattle.bench_core.proofs.bench.Bench.take.Goals as goal

pub take-requires : goal.take-requires
take-requires g c =
    let is : knows (config_of c.args.self.now) c.args.actor (plain c.args.step.now) ≡ true = sym c.knows.ensures ∙ c.if-not-knows.false in
    let can = can_step c.self.inside.names c.self.inside.limits c.self.inside.history c.self.inside.cluster
    c.self.inside.journal.steps c.self.inside.meter.count c.args.actor (plain c.args.step.now) (plain c.in-Ok.step) c.args.self.now
    c.self.view_is c.self.invariant.0 c.in-Ok.ensures is in
    record { there = can.there; named = can.named; meter = can.meter }

pub invariant_of-self-in-Err : goal.invariant_of-self-in-Err
invariant_of-self-in-Err g c =
    let noted =
    was_made (c.record.new.self ≡ note c.args.actor (plain_act c.args.act.now) (Refused OutOfMemory) c.self.inside.history) c.record.result (sym c.is_err-2.ensures.value ∙ c.if-is_err-2.false) c.record.ensures.ok in
    let is : knows (config_of c.args.self.now) c.args.actor (plain c.args.step.now) ≡ true = sym c.knows.ensures ∙ c.if-not-knows.false in
    let room : 2 ≤ free_places (config_of c.args.self.now) c.args.self.now.state = omega arith in
    let other : c.in-Err.fault ≢ step_faults.OutOfMemory =
    same_false the_type c.in-Err.fault step_faults.OutOfMemory (sym c.if-eq.ensures) in (
      (refused_asked c.self.inside.names c.self.inside.limits c.self.inside.history c.answer_last.new.self
          c.self.inside.cluster c.take.new.self c.self.inside.journal.steps c.make_room.new.self.steps
          c.self.inside.meter.count c.take.new.meter.count c.args.actor (plain c.args.step.now) (plain c.in-Ok.step)
          (plain_act c.args.act.now) c.in-Err.fault c.from.result c.args.self.now c.self.view_is c.in-Err.ensures.no_tick
          (c.answer_last.ensures c.args.actor (plain_act c.args.act.now) (Refused OutOfMemory) c.self.inside.history noted)
          c.make_room.ensures.steps c.in-Err.ensures.steps.0 c.in-Ok.ensures c.requires c.from.ensures c.self.invariant.0 is room
          (c.in-Err.ensures.steps.1 other)).keeps,
      c.make_room.ensures.nodes ∙ c.self.invariant.1,
    )

pub returns-else-eq : goal.returns-else-eq
returns-else-eq g c =
    let noted =
    was_made (c.record.new.self ≡ note c.args.actor (plain_act c.args.act.now) (Refused OutOfMemory) c.self.inside.history) c.record.result (sym c.is_err-2.ensures.value ∙ c.if-is_err-2.false) c.record.ensures.ok in
    let is : knows (config_of c.args.self.now) c.args.actor (plain c.args.step.now) ≡ true = sym c.knows.ensures ∙ c.if-not-knows.false in
    let room : 2 ≤ free_places (config_of c.args.self.now) c.args.self.now.state = omega arith in
    let other : c.in-Err.fault ≢ step_faults.OutOfMemory =
    same_false the_type c.in-Err.fault step_faults.OutOfMemory (sym c.if-eq.ensures) in
    (refused_asked c.self.inside.names c.self.inside.limits c.self.inside.history c.answer_last.new.self c.self.inside.cluster
    c.take.new.self c.self.inside.journal.steps c.make_room.new.self.steps c.self.inside.meter.count
    c.take.new.meter.count c.args.actor (plain c.args.step.now) (plain c.in-Ok.step) (plain_act c.args.act.now) c.in-Err.fault
    c.from.result c.args.self.now c.self.view_is c.in-Err.ensures.no_tick
    (c.answer_last.ensures c.args.actor (plain_act c.args.act.now) (Refused OutOfMemory) c.self.inside.history noted)
    c.make_room.ensures.steps c.in-Err.ensures.steps.0 c.in-Ok.ensures c.requires c.from.ensures c.self.invariant.0 is room
    (c.in-Err.ensures.steps.1 other)).answers

pub keep-requires : goal.keep-requires
keep-requires g c =
    let is : knows (config_of c.args.self.now) c.args.actor (plain c.args.step.now) ≡ true = sym c.knows.ensures ∙ c.if-not-knows.false in
    let can = can_step c.self.inside.names c.self.inside.limits c.self.inside.history c.self.inside.cluster
    c.self.inside.journal.steps c.self.inside.meter.count c.args.actor (plain c.args.step.now) (plain c.in-Ok.step) c.args.self.now
    c.self.view_is c.self.invariant.0 c.in-Ok.ensures is in
    can_keep c.self.inside.names c.self.inside.limits c.self.inside.history c.self.inside.cluster c.take.new.self
    c.self.inside.journal.steps c.make_room.new.self c.self.inside.meter.count c.count-number.result c.args.actor
    (plain c.in-Ok.step) (plain_inverse c.in-Ok-take.inverse)
    c.self.invariant.0 c.make_room.ensures.steps (c.make_room.ensures.nodes ∙ c.self.invariant.1)
    (c.count-number.ensures ∙ c.in-Ok-take.ensures.ticks) can.known c.in-Ok-take.ensures.steps

pub invariant_of-self-in-Ok-take : goal.invariant_of-self-in-Ok-take
invariant_of-self-in-Ok-take g c =
    let noted =
    was_made (c.record.new.self ≡ note c.args.actor (plain_act c.args.act.now) (Refused OutOfMemory) c.self.inside.history) c.record.result (sym c.is_err-2.ensures.value ∙ c.if-is_err-2.false) c.record.ensures.ok in
    let is : knows (config_of c.args.self.now) c.args.actor (plain c.args.step.now) ≡ true = sym c.knows.ensures ∙ c.if-not-knows.false in
    let room : 2 ≤ free_places (config_of c.args.self.now) c.args.self.now.state = omega arith in
    let grown =
    is_made (c.keep.new.self ≡ record {
      nodes = c.make_room.new.self.nodes;
      steps = c.make_room.new.self.steps ++
          added c.count-number.result c.args.actor (plain c.in-Ok.step) (plain_inverse c.in-Ok-take.inverse) ∷ [];
      room = [];
    }) c.keep.result c.unwrap.result c.unwrap.ensures c.keep.ensures.ok in (
      (taken_asked c.self.inside.names c.self.inside.limits c.self.inside.history c.answer_last-in-Ok-take.new.self
          c.self.inside.cluster c.take.new.self c.self.inside.journal.steps c.make_room.new.self.steps
          c.keep.new.self.steps c.self.inside.meter.count c.take.new.meter.count c.count-number.result c.args.actor
          (plain c.args.step.now) (plain c.in-Ok.step) (plain_act c.args.act.now) (plain_inverse c.in-Ok-take.inverse) c.args.self.now
          c.self.view_is
          c.in-Ok-take.ensures.ticks c.count-number.ensures
          (c.answer_last-in-Ok-take.ensures c.args.actor (plain_act c.args.act.now) (Refused OutOfMemory) c.self.inside.history noted)
          c.make_room.ensures.steps (ap (λ (j : Journal). j.steps) grown) c.in-Ok.ensures c.requires c.self.invariant.0 is room
          c.in-Ok-take.ensures.steps).keeps,
      ap (λ (j : Journal). j.nodes) grown ∙ c.make_room.ensures.nodes ∙ c.self.invariant.1,
    )

pub returns-in-Ok-take : goal.returns-in-Ok-take
returns-in-Ok-take g c =
    let noted =
    was_made (c.record.new.self ≡ note c.args.actor (plain_act c.args.act.now) (Refused OutOfMemory) c.self.inside.history) c.record.result (sym c.is_err-2.ensures.value ∙ c.if-is_err-2.false) c.record.ensures.ok in
    let is : knows (config_of c.args.self.now) c.args.actor (plain c.args.step.now) ≡ true = sym c.knows.ensures ∙ c.if-not-knows.false in
    let room : 2 ≤ free_places (config_of c.args.self.now) c.args.self.now.state = omega arith in
    let grown =
    is_made (c.keep.new.self ≡ record {
      nodes = c.make_room.new.self.nodes;
      steps = c.make_room.new.self.steps ++
          added c.count-number.result c.args.actor (plain c.in-Ok.step) (plain_inverse c.in-Ok-take.inverse) ∷ [];
      room = [];
    }) c.keep.result c.unwrap.result c.unwrap.ensures c.keep.ensures.ok in
    (taken_asked c.self.inside.names c.self.inside.limits c.self.inside.history c.answer_last-in-Ok-take.new.self
    c.self.inside.cluster c.take.new.self c.self.inside.journal.steps c.make_room.new.self.steps c.keep.new.self.steps
    c.self.inside.meter.count c.take.new.meter.count c.count-number.result c.args.actor (plain c.args.step.now)
    (plain c.in-Ok.step) (plain_act c.args.act.now) (plain_inverse c.in-Ok-take.inverse) c.args.self.now c.self.view_is
    c.in-Ok-take.ensures.ticks c.count-number.ensures
    (c.answer_last-in-Ok-take.ensures c.args.actor (plain_act c.args.act.now) (Refused OutOfMemory) c.self.inside.history noted)
    c.make_room.ensures.steps (ap (λ (j : Journal). j.steps) grown) c.in-Ok.ensures c.requires c.self.invariant.0 is room
    c.in-Ok-take.ensures.steps).answers

pub unwrap-requires : goal.unwrap-requires
unwrap-requires g c =
    let made =
    was_made (c.make_room.new.self.room ≡ c.self.inside.journal.room ++ room_for c.args.actor (plain c.args.step.now) ∷ []) c.make_room.result (sym c.is_err.ensures.value ∙ c.if-is_err.false) c.make_room.ensures.ok in
    let same : c.make_room.new.self.room ≡ c.self.inside.journal.room ++ room_for c.args.actor (plain c.in-Ok.step) ∷ [] = made
    ∙ ap (λ (s : Operation). c.self.inside.journal.room ++ room_for c.args.actor s ∷ []) (sym c.in-Ok.ensures) in
    c.keep.ensures.succeeds (subst (λ (l : List Room). Contains l (room_for c.args.actor (plain c.in-Ok.step))) (sym same)
    (Contains-push c.self.inside.journal.room (room_for c.args.actor (plain c.in-Ok.step))))

pub returns-then-is_err : goal.returns-then-is_err
returns-then-is_err g c =
    let is : knows (config_of c.args.self.now) c.args.actor (plain c.args.step.now) ≡ true = sym c.knows.ensures ∙ c.if-not-knows.false in
    let room : 2 ≤ free_places (config_of c.args.self.now) c.args.self.now.state = omega arith in
    unmade_step c.self.inside.names c.self.inside.limits c.self.inside.history c.self.inside.cluster c.self.inside.journal.steps
    c.self.inside.meter.count c.args.actor (plain c.args.step.now) (plain_act c.args.act.now) c.args.self.now _ c.self.view_is
    c.self.invariant.0 c.requires is room
    (ap (λ (hs : List Held). machine c.self.inside.names c.self.inside.limits c.self.inside.history (kepts hs)) c.make_room.ensures.steps
    ∙ c.self.view_is)

pub returns-then-eq : goal.returns-then-eq
returns-then-eq g c =
    let noted =
    was_made (c.record.new.self ≡ note c.args.actor (plain_act c.args.act.now) (Refused OutOfMemory) c.self.inside.history) c.record.result (sym c.is_err-2.ensures.value ∙ c.if-is_err-2.false) c.record.ensures.ok in
    let is : knows (config_of c.args.self.now) c.args.actor (plain c.args.step.now) ≡ true = sym c.knows.ensures ∙ c.if-not-knows.false in
    let room : 2 ≤ free_places (config_of c.args.self.now) c.args.self.now.state = omega arith in
    unmade_step c.self.inside.names c.self.inside.limits c.self.inside.history c.self.inside.cluster c.self.inside.journal.steps
    c.self.inside.meter.count c.args.actor (plain c.args.step.now) (plain_act c.args.act.now) c.args.self.now _ c.self.view_is
    c.self.invariant.0 c.requires is room
    (ap (λ (h : List Event). machine c.self.inside.names c.self.inside.limits h (kepts c.make_room.new.self.steps))
    (c.forget_last-then-eq.ensures c.args.actor (plain_act c.args.act.now) (Refused OutOfMemory) c.self.inside.history noted)
    ∙ ap (λ (hs : List Held). machine c.self.inside.names c.self.inside.limits c.self.inside.history (kepts hs))
    c.make_room.ensures.steps
    ∙ c.self.view_is)

pub returns-in_default : goal.returns-in_default
returns-in_default g c =
    let noted =
    was_made (c.record.new.self ≡ note c.args.actor (plain_act c.args.act.now) (Refused OutOfMemory) c.self.inside.history) c.record.result (sym c.is_err-2.ensures.value ∙ c.if-is_err-2.false) c.record.ensures.ok in
    let is : knows (config_of c.args.self.now) c.args.actor (plain c.args.step.now) ≡ true = sym c.knows.ensures ∙ c.if-not-knows.false in
    let room : 2 ≤ free_places (config_of c.args.self.now) c.args.self.now.state = omega arith in
    unmade_step c.self.inside.names c.self.inside.limits c.self.inside.history c.self.inside.cluster c.self.inside.journal.steps
    c.self.inside.meter.count c.args.actor (plain c.args.step.now) (plain_act c.args.act.now) c.args.self.now _ c.self.view_is
    c.self.invariant.0 c.requires is room
    (ap (λ (h : List Event). machine c.self.inside.names c.self.inside.limits h (kepts c.make_room.new.self.steps))
    (c.forget_last.ensures c.args.actor (plain_act c.args.act.now) (Refused OutOfMemory) c.self.inside.history noted)
    ∙ ap (λ (hs : List Held). machine c.self.inside.names c.self.inside.limits c.self.inside.history (kepts hs))
    c.make_room.ensures.steps
    ∙ c.self.view_is)

pub returns-then-is_err-2 : goal.returns-then-is_err-2
returns-then-is_err-2 g c =
    let is : knows (config_of c.args.self.now) c.args.actor (plain c.args.step.now) ≡ true = sym c.knows.ensures ∙ c.if-not-knows.false in
    let room : 2 ≤ free_places (config_of c.args.self.now) c.args.self.now.state = omega arith in
    let stays =
    was_refused (c.record.new.self ≡ c.self.inside.history) c.record.result (sym c.is_err-2.ensures.value ∙ c.if-is_err-2.true) c.record.ensures.err in
    unmade_step c.self.inside.names c.self.inside.limits c.self.inside.history c.self.inside.cluster c.self.inside.journal.steps
    c.self.inside.meter.count c.args.actor (plain c.args.step.now) (plain_act c.args.act.now) c.args.self.now _ c.self.view_is
    c.self.invariant.0 c.requires is room
    (ap (λ (h : List Event). machine c.self.inside.names c.self.inside.limits h (kepts c.make_room.new.self.steps)) stays
    ∙ ap (λ (hs : List Held). machine c.self.inside.names c.self.inside.limits c.self.inside.history (kepts hs))
    c.make_room.ensures.steps
    ∙ c.self.view_is)

pub invariant_of-self : goal.invariant_of-self
invariant_of-self g c =
    unstepped c.self.inside.names c.self.inside.limits c.self.inside.history _ c.self.inside.cluster _ c.self.inside.journal
    c.make_room.new.self c.self.inside.meter.count _ refl refl c.make_room.ensures.steps c.make_room.ensures.nodes refl c.self.invariant

pub invariant_of-self-then-is_err-2 : goal.invariant_of-self-then-is_err-2
invariant_of-self-then-is_err-2 g c =
    let stays =
    was_refused (c.record.new.self ≡ c.self.inside.history) c.record.result (sym c.is_err-2.ensures.value ∙ c.if-is_err-2.true) c.record.ensures.err in
    unstepped c.self.inside.names c.self.inside.limits c.self.inside.history c.record.new.self c.self.inside.cluster _
    c.self.inside.journal c.make_room.new.self c.self.inside.meter.count _ stays refl c.make_room.ensures.steps c.make_room.ensures.nodes refl
    c.self.invariant

pub invariant_of-self-in_default : goal.invariant_of-self-in_default
invariant_of-self-in_default g c =
    let noted =
    was_made (c.record.new.self ≡ note c.args.actor (plain_act c.args.act.now) (Refused OutOfMemory) c.self.inside.history) c.record.result (sym c.is_err-2.ensures.value ∙ c.if-is_err-2.false) c.record.ensures.ok in
    unstepped c.self.inside.names c.self.inside.limits c.self.inside.history c.forget_last.new.self c.self.inside.cluster _
    c.self.inside.journal c.make_room.new.self c.self.inside.meter.count _
    (c.forget_last.ensures c.args.actor (plain_act c.args.act.now) (Refused OutOfMemory) c.self.inside.history noted) refl
    c.make_room.ensures.steps c.make_room.ensures.nodes refl c.self.invariant

pub invariant_of-self-then-eq : goal.invariant_of-self-then-eq
invariant_of-self-then-eq g c =
    let noted =
    was_made (c.record.new.self ≡ note c.args.actor (plain_act c.args.act.now) (Refused OutOfMemory) c.self.inside.history) c.record.result (sym c.is_err-2.ensures.value ∙ c.if-is_err-2.false) c.record.ensures.ok in
    unstepped c.self.inside.names c.self.inside.limits c.self.inside.history c.forget_last-then-eq.new.self c.self.inside.cluster
    c.take.new.self c.self.inside.journal c.make_room.new.self c.self.inside.meter.count c.take.new.meter.count
    (c.forget_last-then-eq.ensures c.args.actor (plain_act c.args.act.now) (Refused OutOfMemory) c.self.inside.history noted)
    c.in-Err.ensures.steps.0 c.make_room.ensures.steps c.make_room.ensures.nodes c.in-Err.ensures.no_tick c.self.invariant
