use Rattle.std.proofs.Common.{get_or, flat_map, refl, arith}
use Rattle.store_core.specs.Stores.{store_of}
use Rattle.report_core.proofs.Pieces.{piece_more, pieces_all}
use Rattle.page_data.specs.Carried.{hop}
use Rattle.page_data.proofs.arriving.put_each_hop.Goals as goal

pub loop-clock-preserved : goal.loop-clock-preserved
loop-clock-preserved g c =
    let f = hop c.args.replica.now.store (store_of c.args.message.now) c.args.name in
    let i = c.loop-clock.clock-index in
    piece_more c.args.clocks.now i 0 (get_or c.args.clocks.now i 0) (flat_map f) f _ _ _ (λ y ys. refl) (omega arith) refl c.loop-clock.invariant
    c.in_ok-put_hop.ensures

pub returns : goal.returns
returns g c =
    let f = hop c.args.replica.now.store (store_of c.args.message.now) c.args.name in
    pieces_all c.args.clocks.now c.loop-clock.clock-index (flat_map f) _ _ refl (omega arith) c.loop-clock.invariant
