use Rattle.std.proofs.Common.{◌+◌, ◌≤◌, ◌∙◌, ap, length, rules, subst, sym}
use Rattle.store_core.specs.DeltaStores.{AreOwn, DeltaStore, IsDeltaStore, left_each, own_clock}
use Rattle.store_core.specs.LeavesTogether.{lefts_of, still_there, without_found}
use Rattle.store_core.proofs.KeptStores.{kept_left_each, left_each_is, own_valid}
use Rattle.store_core.proofs.LeftTogether.{found_still, found_without}
use Rattle.store_core.proofs.Told.{ok_of}
use Rattle.store_core.proofs.delta_store.DeltaStore.leave_each.Goals as goal

pub copy_with-requires : goal.copy_with-requires
copy_with-requires g c = (
  search rules,
  (own_valid c.args.dots.now _ c.self.invariant (subst (AreOwn c.args.dots.now) (sym c.self.view_is) c.requires.own), (c.self.invariant.name, (subst (λ n. n + length c.args.dots.now ≤ 1000000000) (sym c.own_clock-clock.ensures.clock) c.requires.free))),
)

pub see_next-requires : goal.see_next-requires
see_next-requires g c = (search rules, (c.self.invariant.name, (subst (λ n. n + length c.args.dots.now ≤ 1000000000) (sym c.own_clock-clock.ensures.clock) c.requires.free)))

pub unwrap-requires : goal.unwrap-requires
unwrap-requires g c = c.see_next.ensures.succeeds c.self.invariant.clocks (c.own_clock-clock.ensures.clock ∙ ap own_clock (sym c.self.view_is))

pub invariant_of-self : goal.invariant_of-self
invariant_of-self g c =
    subst IsDeltaStore (sym (left_each_is (record { own = c.self.inside.own; store = record { seen = c.self.inside.seen; entries = c.self.inside.entries.map }; delta = record { seen = c.self.inside.delta_seen; entries = c.self.inside.delta_entries.map } }) c.args.dots.now c.self.invariant.clocks c.own_clock-clock.result (c.own_clock-clock.ensures.clock ∙ ap own_clock (sym c.self.view_is)) _ _ _ _
    (ok_of c.see_next.result _ c.unwrap.ensures c.see_next.ensures.seen)
    (c.take_lefts-lefts.ensures.entries ∙ ap (λ ls. without_found ls c.self.inside.entries.map) c.in_ok-found.ensures
    ∙ found_without c.args.dots.now c.self.inside.entries.map c.self.inside.delta_entries.map c.self.inside.delta_seen)
    c.in_ok-delta_seen.ensures c.take_out_each.ensures.map))
    (kept_left_each c.args.dots.now _ c.self.invariant (subst (AreOwn c.args.dots.now) (sym c.self.view_is) c.requires.own) (subst (λ (s : DeltaStore). own_clock s + length c.args.dots.now ≤ 1000000000) (sym c.self.view_is) c.requires.free))

pub returns-clause-left : goal.returns-clause-left
returns-clause-left g c =
    left_each_is (record { own = c.self.inside.own; store = record { seen = c.self.inside.seen; entries = c.self.inside.entries.map }; delta = record { seen = c.self.inside.delta_seen; entries = c.self.inside.delta_entries.map } }) c.args.dots.now c.self.invariant.clocks c.own_clock-clock.result (c.own_clock-clock.ensures.clock ∙ ap own_clock (sym c.self.view_is)) _ _ _ _
    (ok_of c.see_next.result _ c.unwrap.ensures c.see_next.ensures.seen)
    (c.take_lefts-lefts.ensures.entries ∙ ap (λ ls. without_found ls c.self.inside.entries.map) c.in_ok-found.ensures
    ∙ found_without c.args.dots.now c.self.inside.entries.map c.self.inside.delta_entries.map c.self.inside.delta_seen)
    c.in_ok-delta_seen.ensures c.take_out_each.ensures.map
    ∙ ap (left_each c.args.dots.now) c.self.view_is

pub returns-clause-stood : goal.returns-clause-stood
returns-clause-stood g c =
    c.take_lefts-lefts.ensures.left ∙ ap (λ ls. still_there ls c.self.inside.entries.map) c.in_ok-found.ensures
    ∙ found_still c.args.dots.now c.self.inside.entries.map c.self.inside.delta_entries.map c.self.inside.delta_seen
    ∙ ap (λ (s : DeltaStore). lefts_of c.args.dots.now s.store.entries s.delta.entries s.delta.seen) c.self.view_is
