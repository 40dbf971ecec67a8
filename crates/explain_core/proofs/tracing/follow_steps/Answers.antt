use Rattle.std.proofs.Common.{◌≡◌, ◌∙◌, List, ap, map, subst, sym}
use Rattle.journal_core.specs.Journals.{Kept}
use Rattle.bench_core.specs.Machine.{Machine}
use Rattle.explain_core.specs.Tracks.{opened}
use Rattle.explain_core.specs.Tracings.{Traced, traced_from}
use Rattle.explain_core.proofs.SoFar.{SoFar, begins, left_now, next_now}
use Rattle.explain_core.proofs.TracedTogether.{traced_done, traced_more}
use Rattle.explain_core.proofs.tracing.follow_steps.Goals as goal

pub loop-kept-init : goal.loop-kept-init
loop-kept-init g c =
    let m = c.args.bench.now in
    let all : c.steps-steps.result ≡ m.state.remaining = c.steps-steps.ensures ∙ c.remaining.ensures.steps in
    record {
      same = ap (λ (ks : List Kept). map (traced_from c.args.asked.now ks) c.args.traced.now) all;
      so_far = subst (λ (ks : List Kept). SoFar m ks c.args.asked.now c.args.traced.now) (sym all)
          (subst (λ (a : Machine). SoFar m m.state.remaining a c.args.traced.now) (sym c.requires.opened)
          (subst (λ (ts : List Traced). SoFar m m.state.remaining (opened m) ts) (sym c.requires.untraced.1)
          (begins m c.requires.untraced.0 c.bench_law.ensures.reached)));
    }

pub follow_step-requires : goal.follow_step-requires
follow_step-requires g c =
    left_now c.args.bench.now c.in-Some.kept.now c.loop-kept.steps _ c.loop-kept.asked _ c.loop-kept.traced c.bench_law.ensures.reached
    c.in-Some.ensures.steps c.in_ok-ask.ensures c.loop-kept.invariant.so_far

pub loop-kept-preserved : goal.loop-kept-preserved
loop-kept-preserved g c = record {
  same = traced_more _ _ _ _ _ _ _ _ c.in-Some.ensures.steps c.loop-kept.invariant.same c.in_ok-ask.ensures c.in_ok-follow_step.ensures;
  so_far = next_now c.args.bench.now c.in-Some.kept.now c.loop-kept.steps _ c.loop-kept.asked _ c.loop-kept.traced c.bench_law.ensures.reached
      c.in-Some.ensures.steps c.in_ok-ask.ensures c.loop-kept.invariant.so_far _ c.in_ok-follow_step.ensures;
}

pub returns : goal.returns
returns g c = traced_done c.loop-kept.asked c.loop-kept.steps c.loop-kept.traced _ c.in_default.ensures.steps.0 c.loop-kept.invariant.same
