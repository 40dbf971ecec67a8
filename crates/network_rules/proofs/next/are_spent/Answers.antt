use Rattle.std.proofs.Common.{refl, None, arith}
use Rattle.network_rules.specs.declared.turn.Turn.{Turn}
use Rattle.network_rules.proofs.CountLoops.{spent_more}
use Rattle.network_rules.proofs.Lookups.{read_or}
use Rattle.network_rules.proofs.WantedDots.{get_low}
use Rattle.network_rules.proofs.next.are_spent.Goals as goal

abbrev none : Turn
none = record { node = 0; delivers = None; recorded = 0 }

pub loop-place-preserved : goal.loop-place-preserved
loop-place-preserved c =
    spent_more c.args.turns.now c.args.counts.now c.args.again c.args.node c.loop-place.place c.count_at.result _ (read_or c.args.turns.now c.loop-place.place none c.loop-place-test.true)
    c.count_at.ensures (c.if-not-is_spent.ensures refl) c.loop-place.invariant

pub returns : goal.returns
returns c = λ h i t at. c.loop-place.invariant i (let lt = get_low c.args.turns.now i t at in let end = c.loop-place-test.false in omega (arith, lt, end)) t at
