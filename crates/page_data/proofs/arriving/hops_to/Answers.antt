use Rattle.std.proofs.Common.{ap, ◌∙◌, refl, arith}
use Rattle.replica_core.specs.Deliveries.{is_other_known}
use Rattle.page_data.specs.Carried.{hops_if, hops_to}
use Rattle.page_data.proofs.Pieces.{built_more}
use Rattle.page_data.proofs.arriving.hops_to.Goals as goal

pub loop-name-init : goal.loop-name-init
unfolding hops_to
loop-name-init g c = c.new-numbers.ensures.items

pub loop-name-preserved : goal.loop-name-preserved
unfolding hops_to
loop-name-preserved g c =
    built_more (hops_to c.args.replica.now c.args.message.now) (λ k. hops_if (is_other_known c.args.replica.now k) c.args.replica.now.store c.args.message.now k) c.loop-name.name _ _ (λ k. refl) c.loop-name.invariant
    (c.in_ok-put_hops_if.ensures)

pub returns : goal.returns
returns g c = c.loop-name.invariant ∙ ap (hops_to c.args.replica.now c.args.message.now) (omega arith)
