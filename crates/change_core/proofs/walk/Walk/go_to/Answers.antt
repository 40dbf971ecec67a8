use Rattle.std.proofs.Common.{◌≡◌, ◌∙◌, List, take, ap, subst}
use Rattle.change_core.specs.Ends.{reached}
use Rattle.change_core.specs.Walks.{places_of, Taken, Walk}
use Rattle.change_core.proofs.Played.{read_or}
use Rattle.change_core.proofs.Searches.{asked_true, asked_false}
use Rattle.change_core.proofs.Walks.{begun, then_refused, then_taken}
use Rattle.change_core.proofs.walk.Walk.go_to.Goals as goal

pub back_to-requires-clause-walk : goal.back_to-requires-clause-walk
back_to-requires-clause-walk g c = (c.args.steps.now, c.requires.0, c.requires.1)

pub loop-turn-init : goal.loop-turn-init
loop-turn-init g c = λ first h.
    let walk = c.in_ok-back_to.ensures.stays c.args.steps.now first h in (
      begun c.args.steps.now first c.back_to.new.self.taken c.back_to.new.self.cluster c.args.places.now c.common-common.result c.args.self.now.taken walk
          c.in_ok-back_to.ensures.left
          (subst (λ (ts : List Taken). take c.common-common.result (places_of ts) ≡ take c.common-common.result c.args.places.now)
          (c.as_slice.ensures.value ∙ ap (λ (w : Walk). w.taken) c.self.view_is) c.common-common.ensures.same),
      walk,
    )

pub returns-then-not-branch : goal.returns-then-not-branch
returns-then-not-branch g c = record {
  reached = λ first h. ap reached (c.loop-turn.invariant first h).0
      ∙ then_refused c.args.steps.now c.args.places.now c.loop-turn.turn _ c.loop-turn.self c.ask_at.new.self
      (read_or c.args.places.now c.loop-turn.turn 0 c.loop-turn-test.true) (asked_false _ _ _ _ _ c.in_ok-ask_at.ensures c.if-not-branch.true);
  stays = λ first h. c.in_ok-ask_at.ensures.stays first (c.loop-turn.invariant first h).1;
}

pub loop-turn-preserved : goal.loop-turn-preserved
loop-turn-preserved g c = λ first h.
    let so_far = c.loop-turn.invariant first h in (
      so_far.0 ∙ then_taken c.args.steps.now c.args.places.now c.loop-turn.turn _ c.loop-turn.self c.ask_at.new.self
          (read_or c.args.places.now c.loop-turn.turn 0 c.loop-turn-test.true) (asked_true _ _ _ _ _ c.in_ok-ask_at.ensures c.if-not-branch.false),
      c.in_ok-ask_at.ensures.stays first so_far.1,
    )
