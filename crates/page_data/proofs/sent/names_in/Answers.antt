use Rattle.std.proofs.Common.{ap, ◌∙◌, refl, arith}
use Rattle.report_core.specs.Dots.{clock_of}
use Rattle.page_data.specs.Carried.{more_of, name_if_any, names_in}
use Rattle.page_data.proofs.Pieces.{built_more}
use Rattle.page_data.proofs.sent.names_in.Goals as goal

pub loop-name-init : goal.loop-name-init
unfolding names_in
loop-name-init g c = c.new-numbers.ensures.items

pub loop-name-preserved : goal.loop-name-preserved
unfolding names_in
loop-name-preserved g c =
    built_more (names_in c.args.message.now) (λ k. name_if_any k (clock_of c.args.message.now.seen k) (more_of c.args.message.now.seen k)) c.loop-name.name _ _ (λ k. refl) c.loop-name.invariant
    c.in_ok-put_name_of.ensures

pub returns : goal.returns
returns g c = c.loop-name.invariant ∙ ap (names_in c.args.message.now) (omega arith)
