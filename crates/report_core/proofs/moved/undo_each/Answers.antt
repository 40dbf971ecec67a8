use Rattle.std.proofs.Common.{◌<◌, length, arith}
use Rattle.report_core.specs.MovedRows.{after_undos}
use Rattle.report_core.proofs.MovedRows.{next_made, rest_made, rest_undone}
use Rattle.report_core.proofs.moved.undo_each.Goals as goal

pub undo_one-requires : goal.undo_one-requires
undo_one-requires g c =
    next_made c.loop-number.bench c.args.actor c.args.numbers.now c.loop-number.number-index (omega arith) c.loop-number.invariant.0

pub loop-number-preserved : goal.loop-number-preserved
loop-number-preserved g c =
    let start = c.args.bench.now in
    let old = c.loop-number.bench in
    let new = c.undo_one.new.bench in
    let actor = c.args.actor in
    let numbers = c.args.numbers.now in
    let i = c.loop-number.number-index in
    let within : i < length numbers = omega arith in (
      rest_made old actor numbers i within new c.in_ok-moved-2.ensures.bench c.loop-number.invariant.0,
      rest_undone old actor numbers i within new (after_undos start actor numbers) c.in_ok-moved-2.ensures.bench c.loop-number.invariant.1,
      c.in_ok-moved-2.ensures.moved start c.loop-number.invariant.2,
    )
