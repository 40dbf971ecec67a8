use Rattle.std.proofs.Common.{IfOk, subst}
use Rattle.node_core.specs.Inverses.{plain_inverse, LeadsBack}
use Rattle.layer_tests.proofs.undone.steps_and_back.Goals as goal

pub gives_back-requires : goal.gives_back-requires
gives_back-requires g c = (
  c.args.node.now,
  subst (λ r. IfOk r (λ inverse. LeadsBack (plain_inverse inverse) c.take-taken.new.self c.args.node.now)) c.expect-inverse.ensures
      c.take-taken.ensures.leads_back,
)
