use Rattle.std.proofs.Common.{ap, ◌∙◌, refl, arith}
use Rattle.replica_core.specs.Replicas.{is_known}
use Rattle.report_core.specs.Dots.{clock_of}
use Rattle.page_data.specs.Carried.{missed_by, missed_if, more_of}
use Rattle.page_data.proofs.Pieces.{built_more}
use Rattle.page_data.proofs.arriving.missed_by.Goals as goal

pub loop-name-init : goal.loop-name-init
unfolding missed_by
loop-name-init g c = c.new-numbers.ensures.items

pub loop-name-preserved : goal.loop-name-preserved
unfolding missed_by
loop-name-preserved g c =
    built_more (missed_by c.args.replica.now c.args.message.now) (λ k. missed_if (is_known c.args.replica.now k) k (clock_of c.args.message.now.seen k) (more_of c.args.message.now.seen k)) c.loop-name.name _ _ (λ k. refl) c.loop-name.invariant
    (c.in_ok-put_missed.ensures)

pub returns : goal.returns
returns g c = c.loop-name.invariant ∙ ap (missed_by c.args.replica.now c.args.message.now) (omega arith)
