use Rattle.std.proofs.Common.{◌∙◌, sym, true≢false}
use Rattle.explore_network.specs.Questions.{plain}
use Rattle.network_rules.specs.Turns.{is_end}
use Rattle.explore_network.specs.Walks.{steps_at}
use Rattle.explore_network.proofs.Telling.{end_is_run, run_is_end}
use Rattle.explore_network.proofs.walk.tell_end.Goals as goal

pub returns-then-not-is_end-clause-told : goal.returns-then-not-is_end-clause-told
returns-then-not-is_end-clause-told g c = λ run.
    let p = c.args.tour.now.plan.now in
    let q = (plain c.args.tour.now.question.now) in
    let ends = run_is_end p q c.requires.plan (steps_at p.steps c.args.walk.now.path.items) c.args.counts.now c.args.walk.now.cluster c.requires.at run in
    absurd (true≢false (sym ends ∙ (λ i. is_end (sym c.turns.ensures i) c.args.counts.now (sym c.lost.ensures i) (sym c.again.ensures i)) ∙ sym c.if-not-is_end.ensures))

pub tell-requires-clause-ends : goal.tell-requires-clause-ends
tell-requires-clause-ends g c =
    let p = c.args.tour.now.plan.now in
    let q = (plain c.args.tour.now.question.now) in
    record {
      is_run = end_is_run p q c.requires.plan (steps_at p.steps c.args.walk.now.path.items) c.args.counts.now c.args.walk.now.cluster c.requires.at
          ((λ i. is_end (sym c.turns.ensures i) c.args.counts.now (sym c.lost.ensures i) (sym c.again.ensures i)) ∙ sym c.if-not-is_end.ensures);
      leads = c.requires.at.ran;
    }
