use Rattle.std.proofs.Common.{◌∙◌, ◌++◌, false, ap, arith, string_bytes}
use Rattle.std.proofs.lemmas.Bool.{eq-eqb, ne_eqb}
use Rattle.picture_core.specs.Online.{bar_path, switches_path}
use Rattle.picture_core.proofs.Switches.{bar_is, path_all, path_more, path_passed}
use Rattle.picture_core.proofs.online.bar_path.Goals as goal
use Rattle.picture_core.proofs.online.bar_path.Goals.{then-switch-node+in_ok-put_switch, else-switch-node}

pub loop-switch-init : goal.loop-switch-init
loop-switch-init g c =
    ap (λ t. t ++ switches_path c.args.nodes c.args.node c.args.last false c.args.switches.now) c.new-path.ensures.bytes
    ∙ bar_is c.args.nodes c.args.node c.args.last c.args.switches.now

pub loop-switch-preserved : goal.loop-switch-preserved
loop-switch-preserved g c =
    let i = c.loop-switch.switch-index in
    elim c.if-switch-node.branch [
      | then-switch-node+in_ok-put_switch w ↦
          rw (w.path-is, w.listing-is)
          (path_more c.args.nodes c.args.node c.args.last c.loop-switch.listing c.args.switches.now i _ (string_bytes c.loop-switch.path)
          (string_bytes w.put_switch.new.path) (bar_path c.args.nodes c.args.node c.args.last c.args.switches.now) c.loop-switch-test.true (eq-eqb _ _ w.if-switch-node.true) c.loop-switch.invariant w.in_ok-put_switch.ensures)
      | else-switch-node w ↦
          rw (w.path-is, w.listing-is)
          (path_passed c.args.nodes c.args.node c.args.last c.loop-switch.listing c.args.switches.now i _ (string_bytes c.loop-switch.path)
          (bar_path c.args.nodes c.args.node c.args.last c.args.switches.now) c.loop-switch-test.true (ne_eqb _ _ w.if-switch-node.false) c.loop-switch.invariant)
    ]

pub returns : goal.returns
returns g c =
    path_all _ _ _ _ c.args.switches.now c.loop-switch.switch-index (string_bytes c.loop-switch.path) _ _ (omega arith) c.loop-switch.invariant c.in_ok-put_end.ensures
