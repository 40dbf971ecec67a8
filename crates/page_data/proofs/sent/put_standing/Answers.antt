use Rattle.std.proofs.Common.{get_or, filter, ◌++◌, refl, ap, ◌∙◌, arith}
use Rattle.store_core.specs.Stores.{store_of}
use Rattle.report_core.proofs.Pieces.{piece_more, pieces_all}
use Rattle.page_data.specs.Carried.{clock_if, stands_so}
use Rattle.page_data.proofs.Pieces.{filter_more}
use Rattle.page_data.proofs.sent.put_standing.Goals as goal

pub loop-clock-preserved : goal.loop-clock-preserved
loop-clock-preserved g c =
    let p = stands_so (store_of c.args.message.now) c.args.name c.args.wanted in
    let i = c.loop-clock.clock-index in
    let x = get_or c.args.clocks.now i 0 in
    piece_more c.args.clocks.now i 0 x (filter p) (λ k. clock_if (p k) k) _ _ _ (filter_more p) (omega arith) refl c.loop-clock.invariant
    (c.in_ok-put_clock_if.ensures ∙ ap (λ b. c.loop-clock.numbers.items ++ clock_if b x) c.stands_so.ensures)

pub returns : goal.returns
returns g c =
    let p = stands_so (store_of c.args.message.now) c.args.name c.args.wanted in
    pieces_all c.args.clocks.now c.loop-clock.clock-index (filter p) _ _ refl (omega arith) c.loop-clock.invariant
