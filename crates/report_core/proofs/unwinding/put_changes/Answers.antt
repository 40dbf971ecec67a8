use Rattle.std.proofs.Common.{length, ap, string_bytes, arith}
use Rattle.report_core.specs.Shown.{rows_at}
use Rattle.report_core.proofs.MovedRows.{no_changes, changes_more, all_changes, get_of, rows_in_order}
use Rattle.report_core.proofs.unwinding.put_changes.Goals as goal
use Rattle.report_core.proofs.unwinding.put_changes.Goals.{in-Some+in_ok-put_change_at, in_default}

pub loop-node-init : goal.loop-node-init
loop-node-init g c start are = no_changes start c.args.bench.now (string_bytes c.args.text.now)

pub loop-node-preserved : goal.loop-node-preserved
loop-node-preserved g c start are =
    elim c.match-get.branch [
      | in-Some+in_ok-put_change_at w ↦
          rw w.text-is
          (changes_more start c.args.bench.now c.loop-node.node (string_bytes c.args.text.now) (string_bytes c.loop-node.text)
          (string_bytes w.put_change_at.new.text) (c.loop-node.invariant start are)
          (w.in_ok-put_change_at.ensures (rows_at start c.loop-node.node) (rows_in_order c.online_law.ensures start c.loop-node.node)
          (are.at c.loop-node.node w.in-Some.moved.now (get_of c.args.moved.now c.loop-node.node w.in-Some.moved.now w.in-Some.ensures.lookup.3.0 w.in-Some.ensures.lookup.1))))
      | in_default w ↦
          let long = ap length are.names in
          let names = ap length c.names.ensures in
          absurd (omega (arith, long, names, are.count, w.in_default.ensures.lookup.3))
    ]

pub returns : goal.returns
returns g c start are =
    let long = ap length are.names in
    let names = ap length c.names.ensures in
    all_changes start c.args.bench.now c.loop-node.node (string_bytes c.args.text.now) (string_bytes c.loop-node.text)
    (omega (arith, long, names, c.loop-node.auto.node-end))
    (c.loop-node.invariant start are)
